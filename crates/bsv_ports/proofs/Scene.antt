-- What is known where the words of a finished net are looked at in one clock, and what it means that nodes tell the last call
-- of a method, and which elements fire with which calls.
use Rattle.std.proofs.Common.{◌≡◌, ◌<◌, ℕ, true, false, List, [], length, Option, Some, None, is_some}
use Rattle.std.specs.Prelude.{slice_get}
use Rattle.bsv_bits.specs.Words.{Bits, bit}
use Rattle.bsv_prim.specs.Calls.{latest}
use Rattle.bsv_prim.specs.Table.{word_at}
use Rattle.bsv_prim.specs.declared.part.Part.{Part}
use Rattle.bsv_design.specs.declared.schedule.Schedule.{Schedule}
use Rattle.bsv_design.specs.design.Bodies.{Target}
use Rattle.bsv_design.specs.design.Designs.{DesignData, IsDesign}
use Rattle.bsv_design.specs.scheme.Schemes.{Scheme, Asking, Look, design_scheme, ports_of, seen}
use Rattle.bsv_design.specs.scheme.States.{AreWordsOf}
use Rattle.bsv_design.specs.scheme.Traces.{Site, kind_at}
use Rattle.bsv_graph.specs.Orders.{In}
use Rattle.bsv_guard.specs.Turns.{calls_on}
use Rattle.bsv_clock.specs.Grounds.{Fit, IsLawful, IsScheduleOf}
use Rattle.bsv_clock.specs.Settling.{Doing, the_clock, look_of, deeds, fires}
use Rattle.bsv_net.specs.declared.node.NetNode.{NetNode}
use Rattle.bsv_net.specs.declared.node.Site.{Site as NetSite}
use Rattle.bsv_net.specs.declared.wires.MethodPort.{MethodPort}
use Rattle.bsv_net.specs.Equations.{Values, Satisfies}
use Rattle.bsv_net.specs.Placing.{node_at}
use Rattle.bsv_net.specs.Unasked.{Arguments, with_arguments}
use Rattle.bsv_ports.specs.CallSites.{or_none}
use Rattle.bsv_ports.specs.Ports.{arity_of}

-- a design whose elements have certain arguments, with its schedule, a state and requests that fit it, and the words of a
-- net in a clock from there
pub record Scene : Type 0 where
  pub b : DesignData
  pub right : IsDesign b
  pub xs : Arguments
  pub stands : (n : ℕ) → AreWordsOf (ports_of (slice_get (design_scheme b).elements n)) (xs n)
  pub made : Schedule
  pub lawful : IsLawful (with_arguments (design_scheme b) xs)
  pub scheduled : IsScheduleOf (with_arguments (design_scheme b) xs) made
  pub q : Asking
  pub s : List Part
  pub fit : Fit (with_arguments (design_scheme b) xs) q s
  -- the nodes of the whole net, their widths and their words, and the words of its inputs and registers
  pub full : List NetNode
  pub widths : List ℕ
  pub V : Values
  pub inputs : List Bits
  pub registers : List Bits
  pub solved : Satisfies inputs registers V full widths

-- what each element does in the clock, and what methods look at
abbrev pub S : Scene → Scheme
S z = with_arguments (design_scheme z.b) z.xs

abbrev pub does : Scene → Doing
does z = the_clock false (S z) z.made z.q z.s

abbrev pub looks : Scene → Look
looks z = look_of (S z) z.made z.s (does z)

-- the words of the nodes of a method tell its last call: whether there is one, and its arguments where there is
pub record TellsPort (V : Values) (arity : ℕ) (last : Option (List Bits)) (p : MethodPort) : Type 0 where
  pub called : V p.called ≡ bit (is_some last)
  pub args : (args : List Bits) → last ≡ Some args → (k : ℕ) → k < arity → V (node_at p.args k) ≡ word_at args k

-- the last call of a method of a part in the clock
abbrev pub last_call : Scene → ℕ → ℕ → Option (List Bits)
last_call z i m = latest m None (calls_on i (deeds (does z) z.made.execution))

-- the words of the nodes of a call tell it
pub record TellsSite (V : Values) (x : Site) (s : NetSite) : Type 0 where
  pub taken : V s.taken ≡ bit x.taken
  pub args : x.taken ≡ true → (k : ℕ) → k < length x.arguments → V (node_at s.args k) ≡ word_at x.arguments k

-- The nodes tell which of these elements fire, and the calls of those that do. There is a site for each call, with a node for
-- each argument; other elements have no sites yet.
pub record TellsFiring (z : Scene) (firing : List ℕ) (sites : List (List NetSite)) (placed : List ℕ) : Type 0 where
  pub fire : (n : ℕ) → In placed n → z.V (node_at firing n) ≡ bit (is_some (does z n))
  pub calls : (n : ℕ) → In placed n → (k : ℕ) (t : Target) → slice_get ((S z).uses n) k ≡ Some t
      → (s : NetSite) × (slice_get (or_none (slice_get sites n)) k ≡ Some s)
      × (length s.args ≡ arity_of (kind_at (S z).kinds t) t.method)
  pub told : (n : ℕ) → In placed n → fires (does z) n ≡ true → (k : ℕ) (c : Site) (s : NetSite)
      → slice_get (seen (S z) z.q n (looks z)).sites k ≡ Some c → slice_get (or_none (slice_get sites n)) k ≡ Some s
      → TellsSite z.V c s
  pub others : (n : ℕ) → ¬ In placed n → or_none (slice_get sites n) ≡ []
