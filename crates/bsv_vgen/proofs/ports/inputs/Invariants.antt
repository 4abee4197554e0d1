use Rattle.std.proofs.Common.{◌≡◌, ◌++◌, length}
use Rattle.bsv_vgen.specs.Modules.{inputs_from}
use Rattle.bsv_vgen.proofs.ports.inputs.Given as goal

abbrev pub invariant-loop-method : goal.invariant-loop-method
invariant-loop-method l = l.known ++ inputs_from l.number l.rest ≡ inputs_from 0 l.methods

abbrev pub decreases-loop-method : goal.decreases-loop-method
decreases-loop-method l = length l.rest
