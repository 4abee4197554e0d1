use Rattle.std.proofs.Common.{◌≡◌, None, length}
use Rattle.bsv_ports.specs.Ports.{at_call_sites}
use Rattle.bsv_ports.proofs.ports.at_call_sites.Given as goal

abbrev pub invariant-loop-call_site : goal.invariant-loop-call_site
invariant-loop-call_site l =
    at_call_sites l.firing.fires.now l.firing.sites.now l.method l.nodes l.so_far l.rest
    ≡ at_call_sites l.firing.fires.now l.firing.sites.now l.method l.initial.nodes None l.call_sites

abbrev pub decreases-loop-call_site : goal.decreases-loop-call_site
decreases-loop-call_site l = length l.rest
