use Rattle.std.proofs.Common.{◌≡◌, length}
use Rattle.bsv_tree.specs.carrying.Applied as applied
use Rattle.bsv_carry.proofs.operators.together.Given as goal

abbrev pub decreases-loop-other : goal.decreases-loop-other
decreases-loop-other l = length l.rest

abbrev pub invariant-loop-other : goal.invariant-loop-other
invariant-loop-other l = applied.together l.fn.first l.others l.fn.work ≡ applied.together l.value l.rest l.work
