use Rattle.std.proofs.Common.{◌≡◌, ◌≤◌, ◌+◌, ◌*◌, max, map, length, option_map}
use Rattle.std.specs.Vec.Iter.{into_iter_items}
use Rattle.bsv_ast.specs.Depths.{stmt_depth, branch_depth, case_depth, greatest, or_zero}
use Rattle.bsv_statements.specs.Bodies as spec
use Rattle.bsv_context.specs.Seen.{shown}
use Rattle.bsv_statements.specs.SeenBodies.{opening_of, task_of}
use Rattle.bsv_statements.proofs.Fronts.{run_front}
use Rattle.bsv_statements.proofs.compound.+statement.Given as goal

abbrev pub decreases-statement : goal.decreases-statement
decreases-statement l = 8 * stmt_depth l.stmt.now

abbrev pub decreases-statements : goal.decreases-statements
decreases-statements l = 8 * greatest (map stmt_depth l.stmts.now) + 1

abbrev pub decreases-block : goal.decreases-block
decreases-block l = 8 * greatest (map stmt_depth l.body.now) + 2

abbrev pub decreases-inside : goal.decreases-inside
decreases-inside l = 8 * stmt_depth l.arm.now + 1

abbrev pub decreases-last_arm : goal.decreases-last_arm
decreases-last_arm l = 8 * or_zero (option_map stmt_depth l.otherwise.now) + 2

abbrev pub decreases-arm : goal.decreases-arm
decreases-arm l = 8 * branch_depth l.branch.now + 1

abbrev pub decreases-arms : goal.decreases-arms
decreases-arms l = 8 * greatest (map branch_depth l.branches.now) + 2

abbrev pub decreases-choice : goal.decreases-choice
decreases-choice l = 8 * max (greatest (map branch_depth l.branches.now)) (or_zero (option_map stmt_depth l.otherwise.now)) + 3

abbrev pub decreases-repeat : goal.decreases-repeat
decreases-repeat l = 8 * stmt_depth l.body.now + 1

abbrev pub decreases-after_labels : goal.decreases-after_labels
decreases-after_labels l = 8 * case_depth l.case.now + 1

abbrev pub decreases-cases : goal.decreases-cases
decreases-cases l = 8 * greatest (map case_depth l.arms.now) + 2

abbrev pub decreases-case : goal.decreases-case
decreases-case l = 8 * max (greatest (map case_depth l.arms.now)) (or_zero (option_map stmt_depth l.otherwise.now)) + 3

abbrev pub decreases-statements-loop-stmt : goal.decreases-statements-loop-stmt
decreases-statements-loop-stmt l = length l.rest

abbrev pub invariant-statements-loop-stmt : goal.invariant-statements-loop-stmt
invariant-statements-loop-stmt l = record {
  same : run_front l.found (spec.all_runs (map (spec.stmt_run (task_of l.task)) l.rest) (shown l.scopes)) ≡ spec.all_runs (map (spec.stmt_run (task_of l.task)) l.stmts) (shown l.fn.scopes);
  within : greatest (map stmt_depth l.rest) ≤ greatest (map stmt_depth l.stmts);
}

abbrev pub decreases-arms-loop-opening : goal.decreases-arms-loop-opening
decreases-arms-loop-opening l = length (into_iter_items l.openings)

abbrev pub invariant-arms-loop-opening : goal.invariant-arms-loop-opening
invariant-arms-loop-opening l = record {
  same : run_front l.found (spec.arms l.span (map opening_of (into_iter_items l.openings)) (map (spec.arm_of (task_of l.task)) l.rest) (shown l.scopes)) ≡ spec.arms l.span (map opening_of l.fn.conditions.items) (map (spec.arm_of (task_of l.task)) l.branches) (shown l.fn.scopes);
  within : greatest (map branch_depth l.rest) ≤ greatest (map branch_depth l.branches);
}

abbrev pub decreases-cases-loop-labels : goal.decreases-cases-loop-labels
decreases-cases-loop-labels l = length (into_iter_items l.left)

abbrev pub invariant-cases-loop-labels : goal.invariant-cases-loop-labels
invariant-cases-loop-labels l = record {
  same : run_front l.found (spec.all_labelled (into_iter_items l.left) (map (spec.labelled_of (task_of l.task)) l.rest) (shown l.scopes)) ≡ spec.all_labelled l.fn.labels.items (map (spec.labelled_of (task_of l.task)) l.arms) (shown l.fn.scopes);
  within : greatest (map case_depth l.rest) ≤ greatest (map case_depth l.arms);
}
