use Rattle.std.proofs.Common.{◌≡◌, map, length}
use Rattle.bsv_ports.specs.CallSites.{with_calls}
use Rattle.bsv_ports.proofs.call_sites.add_calls.Given as goal

abbrev pub invariant-loop-call : goal.invariant-loop-call
invariant-loop-call l =
    with_calls (map (λ p. p.kind) l.parts) l.call_sites.items l.element l.number l.rest
    ≡ with_calls (map (λ p. p.kind) l.parts) l.initial.call_sites.items l.element 0 l.calls

abbrev pub decreases-loop-call : goal.decreases-loop-call
decreases-loop-call l = length l.rest
