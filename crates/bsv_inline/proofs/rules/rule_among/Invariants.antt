use Rattle.std.proofs.Common.{◌≡◌, length}
use Rattle.bsv_tree.specs.tree.Elements as spec
use Rattle.bsv_inline.proofs.rules.rule_among.Given as goal

abbrev pub decreases-loop-rule : goal.decreases-loop-rule
decreases-loop-rule l = length l.rest

abbrev pub invariant-loop-rule : goal.invariant-loop-rule
invariant-loop-rule l = spec.rule_among l.path l.built l.position l.built.rules ≡ spec.rule_among l.path l.built l.position l.rest
