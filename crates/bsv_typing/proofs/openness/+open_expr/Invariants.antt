use Rattle.std.proofs.Common.{◌≡◌, ◌+◌, ◌*◌, ◌≤◌, map, length}
use Rattle.bsv_ast.specs.Depths.{expr_depth, greatest}
use Rattle.bsv_typing.specs.Operands as spec
use Rattle.bsv_typing.specs.Seen.{all_seen}
use Rattle.bsv_typing.proofs.openness.+open_expr.Given as goal

abbrev pub decreases-is_open : goal.decreases-is_open
decreases-is_open l = 2 * expr_depth l.expr.now

abbrev pub decreases-are_open : goal.decreases-are_open
decreases-are_open l = 2 * greatest (map expr_depth l.exprs.now) + 1

abbrev pub decreases-are_open-loop-expr : goal.decreases-are_open-loop-expr
decreases-are_open-loop-expr l = length l.rest

abbrev pub invariant-are_open-loop-expr : goal.invariant-are_open-loop-expr
invariant-are_open-loop-expr l = record {
  same : spec.are_open (all_seen l.context l.variables l.rest) ≡ spec.are_open (all_seen l.context l.variables l.exprs);
  within : greatest (map expr_depth l.rest) ≤ greatest (map expr_depth l.exprs);
}
