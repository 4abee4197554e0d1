use Rattle.std.proofs.Common.{ℕ, ◌+◌, ◌*◌, ◌≡◌, ◌≤◌, length, map}
use Rattle.bsv_ast.specs.Depths.{stmt_depth, branch_depth, case_depth}
use Rattle.bsv_types.specs.Statements.{sequence, all_agree}
use Rattle.bsv_statements.specs.Returns.{stmt_ends}
use Rattle.bsv_statements.specs.ReturnsSeen.{ends_of, arm_ends, case_ends}
use Rattle.bsv_statements.proofs.Agreeing.{deepest_stmt, deepest_branch, deepest_case}
use Rattle.bsv_statements.proofs.endings.+ends.Given as goal

abbrev pub decreases-ends : goal.decreases-ends
decreases-ends l = 4 * stmt_depth l.stmt.now

abbrev pub decreases-sequence : goal.decreases-sequence
decreases-sequence l = 4 * deepest_stmt l.stmts.now + 1

abbrev pub decreases-branch : goal.decreases-branch
decreases-branch l = 4 * branch_depth l.arm.now

abbrev pub decreases-case_arm : goal.decreases-case_arm
decreases-case_arm l = 4 * case_depth l.arm.now

abbrev pub decreases-branches : goal.decreases-branches
decreases-branches l = 4 * deepest_branch l.arms.now + 1

abbrev pub decreases-cases : goal.decreases-cases
decreases-cases l = 4 * deepest_case l.arms.now + 1

abbrev pub decreases-sequence-loop-stmt : goal.decreases-sequence-loop-stmt
decreases-sequence-loop-stmt l = length l.rest

abbrev pub decreases-branches-loop-arm : goal.decreases-branches-loop-arm
decreases-branches-loop-arm l = length l.rest

abbrev pub decreases-cases-loop-arm : goal.decreases-cases-loop-arm
decreases-cases-loop-arm l = length l.rest

abbrev pub invariant-sequence-loop-stmt : goal.invariant-sequence-loop-stmt
invariant-sequence-loop-stmt l = record {
  left : sequence (map stmt_ends l.rest) ≡ sequence (map stmt_ends l.stmts);
  within : deepest_stmt l.rest ≤ deepest_stmt l.stmts;
}

abbrev pub invariant-branches-loop-arm : goal.invariant-branches-loop-arm
invariant-branches-loop-arm l = record {
  left : all_agree (map arm_ends l.rest) (ends_of l.found) ≡ all_agree (map arm_ends l.arms) (ends_of l.fn.last);
  within : deepest_branch l.rest ≤ deepest_branch l.arms;
}

abbrev pub invariant-cases-loop-arm : goal.invariant-cases-loop-arm
invariant-cases-loop-arm l = record {
  left : all_agree (map case_ends l.rest) (ends_of l.found) ≡ all_agree (map case_ends l.arms) (ends_of l.fn.last);
  within : deepest_case l.rest ≤ deepest_case l.arms;
}
