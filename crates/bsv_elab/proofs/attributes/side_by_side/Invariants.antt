use Rattle.std.proofs.Common.{◌≡◌, ◌++◌, drop}
use Rattle.bsv_elab.specs.Attributes as spec
use Rattle.bsv_elab.proofs.attributes.side_by_side.Given as goal

abbrev pub invariant-loop-after : goal.invariant-loop-after
invariant-loop-after l = spec.side_by_side l.attribute l.first l.others ≡ l.pairs ++ spec.side_by_side l.attribute l.before (drop l.after-index l.others)
