use Rattle.std.proofs.Common.{◌≡◌, ◌+◌, ◌*◌, ◌≤◌, length, max}
use Rattle.bsv_names.specs.Attributes as spec
use Rattle.bsv_ast.specs.Depths.{module_stmt_depth, module_branch_depth}
use Rattle.bsv_names.proofs.Deepest.{deepest_module_stmt, deepest_module_branch}
use Rattle.bsv_names.proofs.attributes.+walk.Given as goal

abbrev pub decreases-bad_in_statement : goal.decreases-bad_in_statement
decreases-bad_in_statement l = 4 * module_stmt_depth l.statement.now

abbrev pub decreases-bad_in_statements : goal.decreases-bad_in_statements
decreases-bad_in_statements l = 4 * deepest_module_stmt l.statements.now + 1

abbrev pub decreases-bad_in_branches : goal.decreases-bad_in_branches
decreases-bad_in_branches l = 4 * deepest_module_branch l.branches.now + 2

abbrev pub decreases-bad_in_branch : goal.decreases-bad_in_branch
decreases-bad_in_branch l = 4 * module_branch_depth l.branch.now + 1

abbrev pub decreases-bad_in_arms : goal.decreases-bad_in_arms
decreases-bad_in_arms l = 4 * max (deepest_module_branch l.branches.now) (module_stmt_depth l.otherwise.now) + 3

abbrev pub decreases-bad_in_statements-loop-statement : goal.decreases-bad_in_statements-loop-statement
decreases-bad_in_statements-loop-statement l = length l.rest

abbrev pub invariant-bad_in_statements-loop-statement : goal.invariant-bad_in_statements-loop-statement
invariant-bad_in_statements-loop-statement l = record {
  bad : spec.first_malformed (spec.in_statements l.number l.rest) ≡ spec.first_malformed (spec.in_statements l.number l.statements);
  within : deepest_module_stmt l.rest ≤ deepest_module_stmt l.statements;
}

abbrev pub decreases-bad_in_branches-loop-branch : goal.decreases-bad_in_branches-loop-branch
decreases-bad_in_branches-loop-branch l = length l.rest

abbrev pub invariant-bad_in_branches-loop-branch : goal.invariant-bad_in_branches-loop-branch
invariant-bad_in_branches-loop-branch l = record {
  bad : spec.first_malformed (spec.in_branches l.number l.rest) ≡ spec.first_malformed (spec.in_branches l.number l.branches);
  within : deepest_module_branch l.rest ≤ deepest_module_branch l.branches;
}
