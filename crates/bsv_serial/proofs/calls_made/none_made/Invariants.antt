use Rattle.std.proofs.Common.{◌≡◌, [], replicate}
use Rattle.bsv_serial.proofs.calls_made.none_made.Given as goal

abbrev pub invariant-loop : goal.invariant-loop
invariant-loop l = l.calls_made.items ≡ replicate l.counter []
