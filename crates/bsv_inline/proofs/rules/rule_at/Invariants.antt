use Rattle.std.proofs.Common.{◌≡◌, length}
use Rattle.bsv_tree.specs.tree.Elements as spec
use Rattle.bsv_inline.proofs.rules.rule_at.Given as goal

abbrev pub decreases-loop-instance : goal.decreases-loop-instance
decreases-loop-instance l = length l.rest

abbrev pub invariant-loop-instance : goal.invariant-loop-instance
invariant-loop-instance l = spec.rule_at l.instances l.position ≡ spec.rule_at l.rest l.position
