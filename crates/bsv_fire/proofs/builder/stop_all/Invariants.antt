use Rattle.std.proofs.Common.{◌≡◌, length}
use Rattle.bsv_fire.specs.FireBuilder.{all_stopped}
use Rattle.bsv_fire.proofs.builder.stop_all.Given as goal

abbrev pub invariant-loop-number : goal.invariant-loop-number
invariant-loop-number l =
    all_stopped l.fire l.nodes l.stoppers l.rest ≡ all_stopped l.fire l.initial.nodes l.initial.stoppers l.stopped

abbrev pub decreases-loop-number : goal.decreases-loop-number
decreases-loop-number l = length l.rest
