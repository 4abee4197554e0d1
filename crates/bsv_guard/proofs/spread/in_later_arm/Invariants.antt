use Rattle.std.proofs.Common.{◌≡◌, length}
use Rattle.bsv_guard.specs.Spread.{in_later_arm}
use Rattle.bsv_guard.proofs.spread.in_later_arm.Given as goal

abbrev pub decreases-loop-a : goal.decreases-loop-a
decreases-loop-a l = length l.left

abbrev pub invariant-loop-a : goal.invariant-loop-a
invariant-loop-a l = in_later_arm l.one l.other ≡ in_later_arm l.left l.right
