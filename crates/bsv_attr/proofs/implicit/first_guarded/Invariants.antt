use Rattle.std.proofs.Common.{map}
use Rattle.bsv_attr.specs.Calling.{call_guarded}
use Rattle.bsv_attr.specs.Implicit.{NoneTrueBelow}
use Rattle.bsv_attr.proofs.implicit.first_guarded.Given as goal

abbrev pub invariant-loop-place : goal.invariant-loop-place
invariant-loop-place l = NoneTrueBelow (map (call_guarded l.parts) l.calls) l.place
