-- What is known of the guards and of the results of the methods that an element uses, where they are placed.
use Rattle.std.proofs.Common.{◌≡◌, ℕ, true, false, List, length, map}
use Rattle.bsv_bits.specs.Words.{Bits, bit}
use Rattle.bsv_design.specs.design.Bodies.{Target, Answers}
use Rattle.bsv_design.specs.scheme.Schemes.{is_open, result_of}
use Rattle.bsv_design.specs.scheme.Traces.{acts, kind_at}
use Rattle.bsv_guard.specs.ElementLaws.{IsUse}
use Rattle.bsv_guard.specs.Fitting.{IsFitCall}
use Rattle.bsv_net.specs.declared.node.NetNode.{NetNode}
use Rattle.bsv_net.proofs.Grows.{Grows}
use Rattle.bsv_fire.specs.Bodies.{Ports, guard, result}
use Rattle.bsv_ports.specs.Ports.{arity_of}
use Rattle.bsv_fire.specs.Grounds.{Base}
use Rattle.bsv_ports.proofs.Scene.{Scene, S, looks}

-- The guard of each method that the element uses is told, and its result is what these answers say; where the method is open,
-- that is what it gives in the look of the clock.
pub record IsWired (z : Scene) (g : Base) (ports : Ports) (n : ℕ) (r : Answers) : Type 0 where
  pub guard_told : (t : Target) → IsUse (S z) n t → (ns : List NetNode) → Grows (guard g ports t.part t.method ns).nodes z.full
      → z.V (guard g ports t.part t.method ns).place ≡ bit (is_open (S z).kinds (looks z) t)
  pub result_told : (t : Target) → IsUse (S z) n t → (c : ℕ) (args : List ℕ) → length args ≡ arity_of (kind_at (S z).kinds t) t.method
      → (ns : List NetNode) → Grows (result g ports t.part t.method args ns).nodes z.full
      → z.V (result g ports t.part t.method args ns).place ≡ r c t (map z.V args)
  pub result_open : (t : Target) → IsUse (S z) n t → (c : ℕ) (words : List Bits) → is_open (S z).kinds (looks z) t ≡ true
      → acts (kind_at (S z).kinds t) t.method ≡ false → IsFitCall (kind_at (S z).kinds t) t.method words
      → r c t words ≡ result_of (kind_at (S z).kinds t) t.method (looks z t) words
