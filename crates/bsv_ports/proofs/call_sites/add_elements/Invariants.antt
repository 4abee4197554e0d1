use Rattle.std.proofs.Common.{◌≡◌, map, length}
use Rattle.bsv_ports.specs.CallSites.{with_elements}
use Rattle.bsv_ports.proofs.call_sites.add_elements.Given as goal

abbrev pub invariant-loop-number : goal.invariant-loop-number
invariant-loop-number l =
    with_elements (map (λ p. p.kind) l.parts) l.elements l.call_sites.items l.rest
    ≡ with_elements (map (λ p. p.kind) l.parts) l.elements l.initial.call_sites.items l.execution

abbrev pub decreases-loop-number : goal.decreases-loop-number
decreases-loop-number l = length l.rest
