use Rattle.std.proofs.Common.{◌≡◌, ◌≤◌, ◌+◌, ◌*◌, max, map, length, option_map}
use Rattle.bsv_ast.specs.Depths.{stmt_depth, branch_depth, case_depth, greatest, or_zero}
use Rattle.bsv_names.specs.UntypedSeen.{variables}
use Rattle.bsv_context.specs.Seen.{shown}
use Rattle.bsv_check.specs.Judged as spec
use Rattle.bsv_check.specs.JudgedSeen.{judging}
use Rattle.bsv_check.proofs.judged_statements.Judge.+judged_statements.Given as goal

abbrev pub decreases-stmt : goal.decreases-stmt
decreases-stmt l = 8 * stmt_depth l.stmt.now

abbrev pub decreases-stmts : goal.decreases-stmts
decreases-stmts l = 8 * greatest (map stmt_depth l.stmts.now) + 1

abbrev pub decreases-block : goal.decreases-block
decreases-block l = 8 * greatest (map stmt_depth l.body.now) + 2

abbrev pub decreases-inside : goal.decreases-inside
decreases-inside l = 8 * stmt_depth l.stmt.now + 1

abbrev pub decreases-last : goal.decreases-last
decreases-last l = 8 * or_zero (option_map stmt_depth l.otherwise.now) + 2

abbrev pub decreases-arm : goal.decreases-arm
decreases-arm l = 8 * branch_depth l.branch.now + 1

abbrev pub decreases-arms : goal.decreases-arms
decreases-arms l = 8 * greatest (map branch_depth l.branches.now) + 2

abbrev pub decreases-choice : goal.decreases-choice
decreases-choice l = 8 * max (greatest (map branch_depth l.branches.now)) (or_zero (option_map stmt_depth l.otherwise.now)) + 3

abbrev pub decreases-repeat : goal.decreases-repeat
decreases-repeat l = 8 * stmt_depth l.body.now + 1

abbrev pub decreases-after_labels : goal.decreases-after_labels
decreases-after_labels l = 8 * case_depth l.case.now + 1

abbrev pub decreases-cases : goal.decreases-cases
decreases-cases l = 8 * greatest (map case_depth l.arms.now) + 2

abbrev pub decreases-case : goal.decreases-case
decreases-case l = 8 * max (greatest (map case_depth l.arms.now)) (or_zero (option_map stmt_depth l.otherwise.now)) + 3

abbrev pub decreases-stmts-loop-stmt : goal.decreases-stmts-loop-stmt
decreases-stmts-loop-stmt l = length l.rest

abbrev pub invariant-stmts-loop-stmt : goal.invariant-stmts-loop-stmt
invariant-stmts-loop-stmt l = record {
  same : spec.stmts_judged (judging l.self) l.rest (variables l.names) (shown l.scopes) ≡ spec.stmts_judged (judging l.self) l.stmts (variables l.fn.names) (shown l.fn.scopes);
  within : greatest (map stmt_depth l.rest) ≤ greatest (map stmt_depth l.stmts);
}

abbrev pub decreases-arms-loop-branch : goal.decreases-arms-loop-branch
decreases-arms-loop-branch l = length l.rest

abbrev pub invariant-arms-loop-branch : goal.invariant-arms-loop-branch
invariant-arms-loop-branch l = record {
  same : spec.arms_judged (judging l.self) l.span (map (spec.arm_of (judging l.self)) l.rest) (variables l.names) (shown l.scopes) ≡ spec.arms_judged (judging l.self) l.span (map (spec.arm_of (judging l.self)) l.branches) (variables l.fn.names) (shown l.fn.scopes);
  within : greatest (map branch_depth l.rest) ≤ greatest (map branch_depth l.branches);
}

abbrev pub decreases-cases-loop-case : goal.decreases-cases-loop-case
decreases-cases-loop-case l = length l.rest

abbrev pub invariant-cases-loop-case : goal.invariant-cases-loop-case
invariant-cases-loop-case l = record {
  same : spec.labelled_judged (judging l.self) (map (spec.labelled_of (judging l.self)) l.rest) (variables l.names) (shown l.scopes) ≡ spec.labelled_judged (judging l.self) (map (spec.labelled_of (judging l.self)) l.arms) (variables l.fn.names) (shown l.fn.scopes);
  within : greatest (map case_depth l.rest) ≤ greatest (map case_depth l.arms);
}
