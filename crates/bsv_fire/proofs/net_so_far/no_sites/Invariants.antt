use Rattle.std.proofs.Common.{◌≡◌, [], replicate}
use Rattle.bsv_fire.proofs.net_so_far.no_sites.Given as goal

abbrev pub invariant-loop : goal.invariant-loop
invariant-loop l = l.sites.items ≡ replicate l.counter []
