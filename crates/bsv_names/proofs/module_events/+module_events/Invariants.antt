use Rattle.std.proofs.Common.{◌≡◌, ◌≤◌, ◌+◌, ◌*◌, ◌++◌, length}
use Rattle.bsv_names.specs.ModuleEvents as spec
use Rattle.bsv_ast.specs.Depths.{module_stmt_depth, module_branch_depth}
use Rattle.bsv_names.proofs.Deepest.{deepest_module_stmt, deepest_module_branch, last_module_stmt}
use Rattle.bsv_names.proofs.module_events.+module_events.Given as goal

abbrev pub decreases-module_stmt_events : goal.decreases-module_stmt_events
decreases-module_stmt_events l = 8 * module_stmt_depth l.stmt.now

abbrev pub decreases-module_stmts_events : goal.decreases-module_stmts_events
decreases-module_stmts_events l = 8 * deepest_module_stmt l.stmts.now + 1

abbrev pub decreases-module_arm_events : goal.decreases-module_arm_events
decreases-module_arm_events l = 8 * module_stmt_depth l.arm.now + 1

abbrev pub decreases-last_module_arm_events : goal.decreases-last_module_arm_events
decreases-last_module_arm_events l = 8 * last_module_stmt l.otherwise.now + 2

abbrev pub decreases-module_branch_events : goal.decreases-module_branch_events
decreases-module_branch_events l = 8 * module_branch_depth l.branch.now + 2

abbrev pub decreases-module_branches_events : goal.decreases-module_branches_events
decreases-module_branches_events l = 8 * deepest_module_branch l.branches.now + 3

abbrev pub decreases-module_stmts_events-loop-stmt : goal.decreases-module_stmts_events-loop-stmt
decreases-module_stmts_events-loop-stmt l = length l.rest

abbrev pub decreases-module_branches_events-loop-branch : goal.decreases-module_branches_events-loop-branch
decreases-module_branches_events-loop-branch l = length l.rest

abbrev pub invariant-module_stmts_events-loop-stmt : goal.invariant-module_stmts_events-loop-stmt
invariant-module_stmts_events-loop-stmt l = record {
  made : l.found ++ spec.module_stmts_events l.rest ≡ l.fn.found ++ spec.module_stmts_events l.stmts;
  within : deepest_module_stmt l.rest ≤ deepest_module_stmt l.stmts;
}

abbrev pub invariant-module_branches_events-loop-branch : goal.invariant-module_branches_events-loop-branch
invariant-module_branches_events-loop-branch l = record {
  made : l.found ++ spec.module_branches_events l.rest ≡ l.fn.found ++ spec.module_branches_events l.branches;
  within : deepest_module_branch l.rest ≤ deepest_module_branch l.branches;
}
