use Rattle.std.proofs.Common.{◌≡◌, ◌++◌, length}
use Rattle.bsv_tree.specs.tree.Elements as spec
use Rattle.bsv_inline.proofs.primitives.parts.Given as goal

abbrev pub decreases-loop-instance : goal.decreases-loop-instance
decreases-loop-instance l = length l.rest

abbrev pub invariant-loop-instance : goal.invariant-loop-instance
invariant-loop-instance l = spec.parts_among l.instances ≡ l.parts ++ spec.parts_among l.rest
