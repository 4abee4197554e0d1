use Rattle.std.proofs.Common.{◌≡◌, drop}
use Rattle.bsv_elab.specs.Attributes as spec
use Rattle.bsv_elab.proofs.attributes.position_of.Given as goal

abbrev pub invariant-loop-rule : goal.invariant-loop-rule
invariant-loop-rule l = spec.position_of l.attribute l.rules l.name ≡ spec.position_of l.attribute (drop l.rule-index l.rules) l.name
