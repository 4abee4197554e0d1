use Rattle.std.proofs.Common.{◌≡◌, ◌+◌, drop}
use Rattle.bsv_typing.specs.Operands as spec
use Rattle.bsv_typing.specs.Seen.{all_seen}
use Rattle.bsv_typing.proofs.openness.open_front.Given as goal

abbrev pub invariant-loop-count : goal.invariant-loop-count
invariant-loop-count l = l.count + spec.open_front (all_seen l.context l.variables (drop l.count l.exprs)) ≡ spec.open_front (all_seen l.context l.variables l.exprs)
