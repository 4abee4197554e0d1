use Rattle.std.proofs.Common.{◌≡◌, ◌+◌, ◌*◌, ◌≤◌, map, length}
use Rattle.bsv_ast.specs.Depths.{expr_depth, greatest}
use Rattle.bsv_typing.specs.Operands as spec
use Rattle.bsv_typing.specs.Seen.{all_seen}
use Rattle.bsv_typing.proofs.openness.+literal_expr.Given as goal

abbrev pub decreases-is_literals : goal.decreases-is_literals
decreases-is_literals l = 2 * expr_depth l.expr.now

abbrev pub decreases-are_literals : goal.decreases-are_literals
decreases-are_literals l = 2 * greatest (map expr_depth l.exprs.now) + 1

abbrev pub decreases-are_literals-loop-expr : goal.decreases-are_literals-loop-expr
decreases-are_literals-loop-expr l = length l.rest

abbrev pub invariant-are_literals-loop-expr : goal.invariant-are_literals-loop-expr
invariant-are_literals-loop-expr l = record {
  same : spec.are_literals (all_seen l.context l.variables l.rest) ≡ spec.are_literals (all_seen l.context l.variables l.exprs);
  within : greatest (map expr_depth l.rest) ≤ greatest (map expr_depth l.exprs);
}
