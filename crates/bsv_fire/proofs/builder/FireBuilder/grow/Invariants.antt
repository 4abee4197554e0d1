use Rattle.std.proofs.Common.{◌≡◌, length}
use Rattle.bsv_fire.specs.AtHand as hand
use Rattle.bsv_fire.specs.FireBuilder.{grown}
use Rattle.bsv_fire.proofs.builder.FireBuilder.grow.Given as goal

abbrev pub invariant-loop-number : goal.invariant-loop-number
invariant-loop-number l =
    grown (hand.ground l.self) (hand.net_so_far l.net_so_far) l.rest
    ≡ grown (hand.ground l.self) (hand.net_so_far l.initial.net_so_far) l.self.schedule.now.urgency

abbrev pub decreases-loop-number : goal.decreases-loop-number
decreases-loop-number l = length l.rest
