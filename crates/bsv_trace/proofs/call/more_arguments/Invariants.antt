use Rattle.std.proofs.Common.{◌≡◌, ◌+◌, length}
use Rattle.bsv_trace.specs.Reading as spec
use Rattle.bsv_trace.proofs.call.more_arguments.Given as goal

abbrev pub decreases-loop-port : goal.decreases-loop-port
decreases-loop-port l = length l.left

abbrev pub invariant-loop-port : goal.invariant-loop-port
invariant-loop-port l = record {
  read : spec.more_arguments l.fn.ports 1 l.fn.bytes l.fn.words ≡ spec.more_arguments l.left l.place l.rest l.words;
  places : length l.words ≡ length l.left + l.place;
  length : length l.words ≡ length l.fn.words;
}
