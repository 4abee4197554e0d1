use Rattle.std.proofs.Common.{◌≡◌, length}
use Rattle.bsv_body.specs.Flat as spec
use Rattle.bsv_body.proofs.choices.join_all.Given as goal

abbrev pub decreases-loop-head : goal.decreases-loop-head
decreases-loop-head l = length l.heads

abbrev pub invariant-loop-head : goal.invariant-loop-head
invariant-loop-head l = spec.join_all l.fn.heads (l.fn.last, l.fn.state) ≡ spec.join_all l.heads (spec.joined l.arms, l.state)
