use Rattle.std.proofs.Common.{◌≡◌, [], replicate}
use Rattle.bsv_ports.proofs.call_sites.no_call_sites.Given as goal

abbrev pub invariant-loop : goal.invariant-loop
invariant-loop l = l.call_sites.items ≡ replicate l.counter []
