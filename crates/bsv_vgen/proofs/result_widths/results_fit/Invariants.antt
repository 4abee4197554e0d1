use Rattle.std.proofs.Common.{◌≡◌, length, map}
use Rattle.bsv_net.specs.AtHand.{net_data}
use Rattle.bsv_vgen.specs.Modules.{results_fit}
use Rattle.bsv_vgen.proofs.result_widths.results_fit.Given as goal

abbrev pub invariant-loop-method : goal.invariant-loop-method
invariant-loop-method l =
    results_fit l.known (net_data l.net) (map (λ p. p.kind) l.parts) l.number l.rest
    ≡ results_fit l.known (net_data l.net) (map (λ p. p.kind) l.parts) 0 l.methods

abbrev pub decreases-loop-method : goal.decreases-loop-method
decreases-loop-method l = length l.rest
