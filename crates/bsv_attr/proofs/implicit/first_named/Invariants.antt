use Rattle.std.proofs.Common.{map}
use Rattle.bsv_attr.specs.Calling.{condition_named}
use Rattle.bsv_attr.specs.Implicit.{NoneTrueBelow}
use Rattle.bsv_attr.proofs.implicit.first_named.Given as goal

abbrev pub invariant-loop-place : goal.invariant-loop-place
invariant-loop-place l = NoneTrueBelow (map condition_named l.conditions) l.place
