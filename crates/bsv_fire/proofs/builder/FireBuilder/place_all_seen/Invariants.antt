use Rattle.std.proofs.Common.{◌≡◌, length}
use Rattle.bsv_fire.specs.AtHand as hand
use Rattle.bsv_fire.specs.FireBuilder.{with_ports}
use Rattle.bsv_fire.proofs.builder.FireBuilder.place_all_seen.Given as goal

abbrev pub invariant-loop-call : goal.invariant-loop-call
invariant-loop-call l =
    with_ports (hand.ground l.self) (hand.net_so_far l.net_so_far) l.rest
    ≡ with_ports (hand.ground l.self) (hand.net_so_far l.initial.net_so_far) l.calls

abbrev pub decreases-loop-call : goal.decreases-loop-call
decreases-loop-call l = length l.rest
