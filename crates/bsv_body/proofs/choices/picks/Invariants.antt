use Rattle.std.proofs.Common.{◌≡◌, length}
use Rattle.bsv_body.specs.Flat as spec
use Rattle.bsv_body.proofs.choices.picks.Given as goal

abbrev pub decreases-loop-one : goal.decreases-loop-one
decreases-loop-one l = length l.left

abbrev pub invariant-loop-one : goal.invariant-loop-one
invariant-loop-one l = spec.picks l.test l.first l.second l.fn.state ≡ spec.picks_from l.test l.found l.left l.right l.state
