use Rattle.std.proofs.Common.{◌≡◌, ◌≤◌, ◌+◌, ◌*◌, ◌++◌, length}
use Rattle.bsv_names.specs.StatementEvents as spec
use Rattle.bsv_ast.specs.Depths.{stmt_depth, branch_depth, case_depth}
use Rattle.bsv_names.proofs.Deepest.{deepest_stmt, deepest_branch, deepest_case, last_stmt}
use Rattle.bsv_names.proofs.statement_events.+statement_events.Given as goal

abbrev pub decreases-stmt_events : goal.decreases-stmt_events
decreases-stmt_events l = 8 * stmt_depth l.stmt.now

abbrev pub decreases-stmts_events : goal.decreases-stmts_events
decreases-stmts_events l = 8 * deepest_stmt l.stmts.now + 1

abbrev pub decreases-arm_events : goal.decreases-arm_events
decreases-arm_events l = 8 * stmt_depth l.arm.now + 1

abbrev pub decreases-last_arm_events : goal.decreases-last_arm_events
decreases-last_arm_events l = 8 * last_stmt l.otherwise.now + 2

abbrev pub decreases-branch_events : goal.decreases-branch_events
decreases-branch_events l = 8 * branch_depth l.branch.now + 1

abbrev pub decreases-branches_events : goal.decreases-branches_events
decreases-branches_events l = 8 * deepest_branch l.branches.now + 2

abbrev pub decreases-case_events : goal.decreases-case_events
decreases-case_events l = 8 * case_depth l.case.now + 2

abbrev pub decreases-cases_events : goal.decreases-cases_events
decreases-cases_events l = 8 * deepest_case l.cases.now + 3

abbrev pub decreases-stmts_events-loop-stmt : goal.decreases-stmts_events-loop-stmt
decreases-stmts_events-loop-stmt l = length l.rest

abbrev pub decreases-branches_events-loop-branch : goal.decreases-branches_events-loop-branch
decreases-branches_events-loop-branch l = length l.rest

abbrev pub decreases-cases_events-loop-case : goal.decreases-cases_events-loop-case
decreases-cases_events-loop-case l = length l.rest

abbrev pub invariant-stmts_events-loop-stmt : goal.invariant-stmts_events-loop-stmt
invariant-stmts_events-loop-stmt l = record {
  made : l.found ++ spec.stmts_events l.rest ≡ l.fn.found ++ spec.stmts_events l.stmts;
  within : deepest_stmt l.rest ≤ deepest_stmt l.stmts;
}

abbrev pub invariant-branches_events-loop-branch : goal.invariant-branches_events-loop-branch
invariant-branches_events-loop-branch l = record {
  made : l.found ++ spec.branches_events l.rest ≡ l.fn.found ++ spec.branches_events l.branches;
  within : deepest_branch l.rest ≤ deepest_branch l.branches;
}

abbrev pub invariant-cases_events-loop-case : goal.invariant-cases_events-loop-case
invariant-cases_events-loop-case l = record {
  made : l.found ++ spec.cases_events l.rest ≡ l.fn.found ++ spec.cases_events l.cases;
  within : deepest_case l.rest ≤ deepest_case l.cases;
}
