use Rattle.std.proofs.Common.{◌≡◌, ◌+◌, length}
use Rattle.bsv_tree.specs.tree.Trees as trees
use Rattle.bsv_inline.proofs.designs.count_rules.Given as goal

abbrev pub decreases-loop-instance : goal.decreases-loop-instance
decreases-loop-instance l = length l.rest

abbrev pub invariant-loop-instance : goal.invariant-loop-instance
invariant-loop-instance l = l.fn.methods + trees.rule_count l.fn.instances ≡ l.count + trees.rule_count l.rest
