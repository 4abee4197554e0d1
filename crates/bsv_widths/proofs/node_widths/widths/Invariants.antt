use Rattle.std.proofs.Common.{◌≡◌, length, [], map}
use Rattle.bsv_design.specs.design.Widths.{widths_from}
use Rattle.bsv_widths.proofs.node_widths.widths.Given as goal

abbrev pub decreases-loop-node : goal.decreases-loop-node
decreases-loop-node l = length l.rest

abbrev pub invariant-loop-node : goal.invariant-loop-node
invariant-loop-node l = widths_from l.ports (map (λ p. p.kind) l.parts) l.calls [] l.nodes ≡ widths_from l.ports (map (λ p. p.kind) l.parts) l.calls l.found l.rest
