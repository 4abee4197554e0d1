use Rattle.std.proofs.Common.{◌≡◌, ◌≤◌, ◌+◌, ◌*◌, max, length, map}
use Rattle.bsv_ast.specs.Depths.{module_stmt_depth, module_branch_depth}
use Rattle.bsv_types.specs.Kinds.{kind}
use Rattle.bsv_types.specs.Methods.{methods}
use Rattle.bsv_names.proofs.Deepest.{deepest_module_stmt, deepest_module_branch, last_module_stmt}
use Rattle.bsv_context.specs.Seen.{shapes}
use Rattle.bsv_modules.specs.Modules.{all_marked, together, branch_names, method_names}
use Rattle.bsv_modules.proofs.program.+marks.Given as goal

abbrev pub decreases-mark_stmt : goal.decreases-mark_stmt
decreases-mark_stmt l = 8 * module_stmt_depth l.stmt.now

abbrev pub decreases-mark_methods : goal.decreases-mark_methods
decreases-mark_methods l = 8 * deepest_module_stmt l.stmts.now + 1

abbrev pub decreases-mark_branches : goal.decreases-mark_branches
decreases-mark_branches l = 8 * deepest_module_branch l.branches.now + 3

abbrev pub decreases-mark_branch : goal.decreases-mark_branch
decreases-mark_branch l = 8 * module_branch_depth l.branch.now + 2

abbrev pub decreases-mark_last : goal.decreases-mark_last
decreases-mark_last l = 8 * last_module_stmt l.otherwise.now + 2

abbrev pub decreases-mark_choice : goal.decreases-mark_choice
decreases-mark_choice l = 8 * max (deepest_module_branch l.branches.now) (last_module_stmt l.otherwise.now) + 4

abbrev pub decreases-mark_methods-loop-stmt : goal.decreases-mark_methods-loop-stmt
decreases-mark_methods-loop-stmt l = length l.rest

abbrev pub decreases-mark_branches-loop-branch : goal.decreases-mark_branches-loop-branch
decreases-mark_branches-loop-branch l = length l.rest

abbrev pub invariant-mark_methods-loop-stmt : goal.invariant-mark_methods-loop-stmt
invariant-mark_methods-loop-stmt l = record {
  marked : all_marked (methods (shapes l.context) (kind l.interface)) (method_names l.rest) l.marks ≡ all_marked (methods (shapes l.context) (kind l.interface)) (method_names l.stmts) l.fn.marks;
  within : deepest_module_stmt l.rest ≤ deepest_module_stmt l.stmts;
}

abbrev pub invariant-mark_branches-loop-branch : goal.invariant-mark_branches-loop-branch
invariant-mark_branches-loop-branch l = record {
  marked : all_marked (methods (shapes l.context) (kind l.interface)) (together (map branch_names l.rest)) l.marks ≡ all_marked (methods (shapes l.context) (kind l.interface)) (together (map branch_names l.branches)) l.fn.marks;
  within : deepest_module_branch l.rest ≤ deepest_module_branch l.branches;
}
