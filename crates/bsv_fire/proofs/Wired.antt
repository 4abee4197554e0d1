-- What calls give in a net whose nodes have their words: what the piece of the result says for the words of the registers
-- of the part, of the methods that are placed, and of the arguments of the call.
use Rattle.std.proofs.Common.{◌≡◌, ◌+◌, ◌<◌, ◌&&◌, ℕ, true, not, cond, List, Option, Some, None}
use Rattle.std.specs.Prelude.{slice_get, nat_lt, ◌==◌, if◌then◌else◌}
use Rattle.bsv_bits.specs.Words.{Bits}
use Rattle.bsv_prim.specs.Signals.{Signals, is_one, word_of}
use Rattle.bsv_prim.specs.Table.{word_at}
use Rattle.bsv_design.specs.declared.kind.Kind.{Kind}
use Rattle.bsv_design.specs.design.Bodies.{Target, Answers}
use Rattle.bsv_design.specs.parts.Kinds.{kind_table}
use Rattle.bsv_design.specs.scheme.Schemes.{design_scheme}
use Rattle.bsv_design.specs.scheme.Traces.{kind_at}
use Rattle.bsv_net.specs.declared.wires.MethodPort.{MethodPort}
use Rattle.bsv_net.specs.AtHand.{called_in, args_in}
use Rattle.bsv_net.specs.Placing.{node_at}
use Rattle.bsv_fire.specs.Bodies.{Ports}
use Rattle.bsv_fire.specs.Grounds.{Base}
use Rattle.bsv_fire.specs.FireBuilder.{FireBuilder}
use Rattle.bsv_ports.proofs.Scene.{Scene, S, TellsPort, last_call}
use Rattle.bsv_fire.proofs.Frame.{Tells, placed_port}

-- the nodes of each method that this one sees are placed, and tell its last call
pub record SeesPorts (z : Scene) (ports : Ports) (t : Target) : Type 0 where
  pub each : (k : Kind) → kind_at (S z).kinds t ≡ Some k → (m : ℕ) → m < (kind_table k).methods → (kind_table k).sees m t.method ≡ true
      → (p : MethodPort) × (placed_port ports t.part m ≡ Some p) × TellsPort z.V ((kind_table k).arity m) (last_call z t.part m) p

-- in a net that tells of the elements in it, it is enough that they are placed
pub sees_ports : (z : Scene) (x : FireBuilder) (placed : List ℕ) → Tells z x placed → (t : Target)
    → ((k : Kind) → kind_at (S z).kinds t ≡ Some k → (m : ℕ) → m < (kind_table k).methods → (kind_table k).sees m t.method ≡ true
    → (p : MethodPort) × (placed_port x.ports t.part m ≡ Some p))
    → SeesPorts z x.ports t
unfolding design_scheme
sees_ports z x placed tells t there = record {
  each = λ k is m l s. let p = there k is m l s in (p.0, p.1, tells.ports t.part m k p.0 is p.1);
}

-- the words that the pieces of a part find, where one method of it is called with these arguments
abbrev pub wired_signals : Scene → Base → Ports → ℕ → ℕ → List Bits → Signals
wired_signals z g ports i own words = record {
  register = λ n. z.V (node_at g.registers i + n);
  called = λ m. is_one (z.V (called_in (placed_port ports i m)));
  argument = λ m k. if m == own then word_at words k else z.V (node_at (args_in (placed_port ports i m)) k);
}

abbrev pub wired_in : Scene → Base → Ports → Option Kind → ℕ → ℕ → List Bits → Bits
wired_in z g ports None i m words = z.V g.none
wired_in z g ports (Some k) i m words =
    cond (nat_lt m (kind_table k).methods && not ((kind_table k).is_action m))
    (word_of (wired_signals z g ports i m words) ((kind_table k).result_piece m)) (z.V g.none)

unfoldable pub wired : Scene → Base → Ports → Answers
wired z g ports c t words = wired_in z g ports (slice_get g.kinds t.part) t.part t.method words
