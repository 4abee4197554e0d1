use Rattle.std.proofs.Common.{◌≡◌, length}
use Rattle.bsv_body.specs.Flat as spec
use Rattle.bsv_body.proofs.operands.operands.Given as goal

abbrev pub decreases-loop-atom : goal.decreases-loop-atom
decreases-loop-atom l = length l.rest

abbrev pub invariant-loop-atom : goal.invariant-loop-atom
invariant-loop-atom l = spec.operands l.atoms l.fn.state ≡ spec.operands_from l.found l.rest l.state
