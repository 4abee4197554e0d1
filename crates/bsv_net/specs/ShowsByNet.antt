-- A net that carries a scheme: for the words of its registers and its inputs, the words of its nodes are what the clock is,
-- and what gives nothing names no node (Hoe and Arvind 2004, "synthesis of operation-centric hardware descriptions"). Who
-- makes a net, rewrites it or runs it speaks of this record alone.
use Rattle.std.specs.Prelude.{◌≡◌, ◌<◌, ℕ, Bool, true, false, List, map, length, slice_get, Some}
use Rattle.bsv_bits.specs.Words.{Bits}
use Rattle.bsv_design.specs.declared.schedule.Schedule.{Schedule}
use Rattle.bsv_design.specs.design.Bodies.{at}
use Rattle.bsv_design.specs.design.Roles.{gives_value}
use Rattle.bsv_design.specs.scheme.Schemes.{Scheme, Outline}
use Rattle.bsv_clock.specs.Shows.{Given, Carries, cell}
use Rattle.bsv_net.specs.declared.net_data.NetData.{NetData}
use Rattle.bsv_net.specs.declared.net.Net.{Net}
use Rattle.bsv_net.specs.AtHand.{net_data}
use Rattle.bsv_net.specs.Nets.{words}
use Rattle.bsv_net.specs.Unasked.{IgnoresUnasked}

-- the words that a net gives, where its nodes have these
abbrev pub given_at : NetData → List Bits → Given
given_at c vs = record {
  fires = map (at vs) c.fires;
  readies = map (at vs) c.readies;
  results = map (at vs) c.results;
  nexts = map (at vs) c.nexts;
}

-- and where its registers and its inputs have these
abbrev pub gives : NetData → List Bits → List Bits → Given
gives c registers inputs = given_at c (words c.nodes inputs registers)

-- the words that the net gives are what the clock is
abbrev pub WordsCarry : Bool → Scheme → Schedule → Net → Type 0
WordsCarry aggressive S made n = Carries aggressive S made (map cell n.registers) n.inputs (gives (net_data n))

-- the entry of an element without a result is the number of nodes
abbrev pub NamesNoResult : Scheme → NetData → Type 0
NamesNoResult S c =
    (n : ℕ) (o : Outline) → slice_get S.elements n ≡ Some o → gives_value o.role ≡ false → slice_get c.results n ≡ Some (length c.nodes)

-- that of an element with a result is a node
abbrev pub NamesResults : Scheme → NetData → Type 0
NamesResults S c =
    (n : ℕ) (o : Outline) → slice_get S.elements n ≡ Some o → gives_value o.role ≡ true
    → (k : ℕ) × (slice_get c.results n ≡ Some k) × (k < length c.nodes)

-- and of methods that act, words at their arguments count only while they are asked
abbrev pub WordsIgnore : Bool → Scheme → Schedule → Net → Type 0
WordsIgnore aggressive S made n = IgnoresUnasked aggressive S made (map cell n.registers) (gives (net_data n))

pub record NetCarries (aggressive : Bool) (S : Scheme) (made : Schedule) (n : Net) : Type 0 where
  pub words : WordsCarry aggressive S made n
  pub unasked : WordsIgnore aggressive S made n
  pub no_result : NamesNoResult S (net_data n)
