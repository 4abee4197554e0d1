use Rattle.std.proofs.Common.{◌≡◌, drop}
use Rattle.bsv_elab.specs.Attributes as spec
use Rattle.bsv_elab.proofs.attributes.marked_all.Given as goal

abbrev pub invariant-loop-asked : goal.invariant-loop-asked
invariant-loop-asked l = spec.marked_all l.rules l.rule l.fn.marks l.attributes ≡ spec.marked_all l.rules l.rule l.marks (drop l.asked-index l.attributes)
