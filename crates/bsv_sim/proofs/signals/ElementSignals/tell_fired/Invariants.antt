use Rattle.std.proofs.Common.{◌≡◌, ◌++◌, ◌+◌, ◌≤◌, length}
use Rattle.std.specs.Prelude.{vec_len, vec_capacity}
use Rattle.bsv_sim.specs.AtHand.{signals}
use Rattle.bsv_sim.specs.Events.{all_fired}
use Rattle.bsv_sim.proofs.signals.ElementSignals.tell_fired.Given as goal

abbrev pub invariant-loop-number : goal.invariant-loop-number
invariant-loop-number l = record {
  room : vec_len l.list + length l.rest ≤ vec_capacity l.list;
  capacity : vec_capacity l.initial.list ≤ vec_capacity l.list;
  tells : l.list.items ++ all_fired (signals l.self) l.rest ≡ all_fired (signals l.self) l.execution;
}

abbrev pub decreases-loop-number : goal.decreases-loop-number
decreases-loop-number l = length l.rest
