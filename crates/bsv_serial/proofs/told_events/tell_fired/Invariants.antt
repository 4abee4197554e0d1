use Rattle.std.proofs.Common.{◌≡◌, ◌++◌, ◌+◌, ◌≤◌, length}
use Rattle.std.specs.Prelude.{vec_len, vec_capacity}
use Rattle.bsv_serial.specs.ToldEvents.{all_fired}
use Rattle.bsv_serial.proofs.told_events.tell_fired.Given as goal

abbrev pub invariant-loop-number : goal.invariant-loop-number
invariant-loop-number l = record {
  room : vec_len l.list + length l.rest ≤ vec_capacity l.list;
  capacity : vec_capacity l.initial.list ≤ vec_capacity l.list;
  tells : l.list.items ++ all_fired l.fates l.rest ≡ all_fired l.fates l.execution;
}

abbrev pub decreases-loop-number : goal.decreases-loop-number
decreases-loop-number l = length l.rest
