use Rattle.std.proofs.Common.{◌≡◌, [], length}
use Rattle.bsv_tree.specs.carrying.Carrying as carrying
use Rattle.bsv_tree.proofs.bodies.parameters.Given as goal

abbrev pub decreases-loop-param : goal.decreases-loop-param
decreases-loop-param l = length l.rest

abbrev pub invariant-loop-param : goal.invariant-loop-param
invariant-loop-param l = carrying.parameters_from [] l.params l.fn.count ≡ carrying.parameters_from l.found l.rest l.count
