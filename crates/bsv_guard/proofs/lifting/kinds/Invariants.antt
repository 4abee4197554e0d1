use Rattle.std.proofs.Common.{◌≡◌, map, take}
use Rattle.bsv_guard.proofs.lifting.kinds.Given as goal

abbrev pub invariant-loop-part : goal.invariant-loop-part
invariant-loop-part l = l.found.items ≡ map (λ p. p.kind) (take l.part-index l.parts)
