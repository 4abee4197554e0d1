use Rattle.std.proofs.Common.{◌≡◌, ◌++◌, map, length, reverse}
use Rattle.bsv_tree.specs.carrying.Arms as spec
use Rattle.bsv_tree.proofs.arms.closed.Given as goal

abbrev pub decreases-loop-arm : goal.decreases-loop-arm
decreases-loop-arm l = length l.arms

abbrev pub invariant-loop-arm : goal.invariant-loop-arm
invariant-loop-arm l = map (spec.arm_of l.numbers) l.fn.arms ≡ map (spec.arm_of l.numbers) l.arms ++ reverse l.reversed

abbrev pub decreases-loop-arm-2 : goal.decreases-loop-arm-2
decreases-loop-arm-2 l = length l.reversed

abbrev pub invariant-loop-arm-2 : goal.invariant-loop-arm-2
invariant-loop-arm-2 l = map (spec.arm_of l.numbers) l.fn.arms ≡ l.found ++ reverse l.reversed
