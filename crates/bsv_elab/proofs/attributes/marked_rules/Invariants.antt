use Rattle.std.proofs.Common.{◌≡◌, drop}
use Rattle.bsv_elab.specs.Attributes as spec
use Rattle.bsv_elab.proofs.attributes.marked_rules.Given as goal

abbrev pub invariant-loop-rule : goal.invariant-loop-rule
invariant-loop-rule l = spec.marked_rules l.sources l.rules l.fn.marks l.rules ≡ spec.marked_rules l.sources l.rules l.marks (drop l.rule-index l.rules)
