use Rattle.std.proofs.Common.{◌≡◌, ◌++◌, ◌+◌, ◌≤◌, length}
use Rattle.std.specs.Prelude.{vec_len, vec_capacity}
use Rattle.bsv_sim.specs.AtHand.{signals}
use Rattle.bsv_sim.specs.Events.{all_stopped}
use Rattle.bsv_sim.proofs.signals.ElementSignals.tell_stopped.Given as goal

abbrev pub invariant-loop-number : goal.invariant-loop-number
invariant-loop-number l = record {
  room : vec_len l.stopped + length l.rest ≤ vec_capacity l.stopped;
  capacity : vec_capacity l.initial.stopped ≤ vec_capacity l.stopped;
  tells : l.stopped.items ++ all_stopped (signals l.self) l.asked l.stoppers l.rest ≡ all_stopped (signals l.self) l.asked l.stoppers l.urgency;
}

abbrev pub decreases-loop-number : goal.decreases-loop-number
decreases-loop-number l = length l.rest
