use Rattle.std.proofs.Common.{◌≡◌, None, replicate}
use Rattle.bsv_fire.proofs.net_so_far.no_methods.Given as goal

abbrev pub invariant-loop : goal.invariant-loop
invariant-loop l = l.ports ≡ replicate l.counter None
