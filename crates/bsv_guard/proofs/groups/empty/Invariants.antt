use Rattle.std.proofs.Common.{◌≡◌, vec_len}
use Rattle.bsv_guard.proofs.groups.empty.Given as goal

abbrev pub invariant-loop : goal.invariant-loop
invariant-loop l = vec_len l.found ≡ l.counter
