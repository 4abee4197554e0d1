use Rattle.std.proofs.Common.{◌≡◌, ℕ, ◌<◌, Some, take}
use Rattle.std.specs.Prelude.{slice_get}
use Rattle.bsv_design.specs.declared.element.Element.{Element}
use Rattle.bsv_design.specs.design.Guards.{needs_of}
use Rattle.bsv_guard.specs.Pairs.{AreFree}
use Rattle.bsv_guard.proofs.lifting.lift.Given as goal

abbrev pub invariant-loop-number : goal.invariant-loop-number
invariant-loop-number l = record {
  needs : l.needs ≡ needs_of l.kinds.items (take l.number l.design.elements);
  free : (n : ℕ) (e : Element) → n < l.number → slice_get l.design.elements n ≡ Some e → AreFree l.kinds.items e.calls;
}
