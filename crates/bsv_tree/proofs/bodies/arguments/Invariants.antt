use Rattle.std.proofs.Common.{◌≡◌, ◌++◌, map, length}
use Rattle.bsv_tree.specs.carrying.Carrying as carrying
use Rattle.bsv_tree.proofs.bodies.arguments.Given as goal

abbrev pub decreases-loop-value : goal.decreases-loop-value
decreases-loop-value l = length l.rest

abbrev pub invariant-loop-value : goal.invariant-loop-value
invariant-loop-value l = carrying.arguments l.fn.integer l.values ≡ l.found ++ map carrying.argument l.rest
