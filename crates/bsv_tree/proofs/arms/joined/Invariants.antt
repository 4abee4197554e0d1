use Rattle.std.proofs.Common.{◌≡◌, [], length}
use Rattle.bsv_tree.specs.carrying.Arms as spec
use Rattle.bsv_tree.proofs.arms.joined.Given as goal

abbrev pub decreases-loop-old : goal.decreases-loop-old
decreases-loop-old l = length l.rest

abbrev pub invariant-loop-old : goal.invariant-loop-old
invariant-loop-old l = spec.joined_from l.arms l.last [] [] l.locals l.fn.count ≡ spec.joined_from l.arms l.last l.found l.numbers l.rest l.count
