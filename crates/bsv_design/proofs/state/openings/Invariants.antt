use Rattle.std.proofs.Common.{◌≡◌, map, take}
use Rattle.bsv_design.specs.scheme.States.{opening}
use Rattle.bsv_design.proofs.state.openings.Given as goal

abbrev pub invariant-loop-part : goal.invariant-loop-part
invariant-loop-part l = l.parts.items ≡ opening (map (λ p. p.kind) (take l.part-index l.named))
