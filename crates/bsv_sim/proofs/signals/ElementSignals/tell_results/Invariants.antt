use Rattle.std.proofs.Common.{◌≡◌, ◌++◌, ◌+◌, ◌≤◌, length}
use Rattle.std.specs.Prelude.{vec_len, vec_capacity}
use Rattle.bsv_sim.specs.AtHand.{signals}
use Rattle.bsv_sim.specs.Events.{all_given}
use Rattle.bsv_sim.proofs.signals.ElementSignals.tell_results.Given as goal

abbrev pub invariant-loop-number : goal.invariant-loop-number
invariant-loop-number l = record {
  room : vec_len l.results + length l.rest ≤ vec_capacity l.results;
  capacity : vec_capacity l.initial.results ≤ vec_capacity l.results;
  tells : l.results.items ++ all_given (signals l.self) l.rest ≡ all_given (signals l.self) l.list;
}

abbrev pub decreases-loop-number : goal.decreases-loop-number
decreases-loop-number l = length l.rest
