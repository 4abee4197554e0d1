use Rattle.std.proofs.Common.{◌≡◌, ◌≤◌, ◌+◌, ◌*◌, max, map, length, option_map}
use Rattle.std.specs.Vec.Iter.{into_iter_items}
use Rattle.bsv_ast.specs.Depths.{module_stmt_depth, module_branch_depth, greatest, or_zero}
use Rattle.bsv_modules.specs.Modules as spec
use Rattle.bsv_modules.specs.Seen.{arm_of, site_of, state_of}
use Rattle.bsv_modules.proofs.Threaded.{state_front}
use Rattle.bsv_modules.proofs.module_statements.+module_statements.Given as goal

abbrev pub decreases-nested : goal.decreases-nested
decreases-nested l = 8 * module_stmt_depth l.stmt.now

abbrev pub decreases-all_nested : goal.decreases-all_nested
decreases-all_nested l = 8 * greatest (map module_stmt_depth l.stmts.now) + 1

abbrev pub decreases-block : goal.decreases-block
decreases-block l = 8 * greatest (map module_stmt_depth l.stmts.now) + 2

abbrev pub decreases-inside : goal.decreases-inside
decreases-inside l = 8 * module_stmt_depth l.stmt.now + 1

abbrev pub decreases-after_condition : goal.decreases-after_condition
decreases-after_condition l = 8 * module_branch_depth l.arm.now + 1

abbrev pub decreases-arms : goal.decreases-arms
decreases-arms l = 8 * greatest (map module_branch_depth l.written.now) + 2

abbrev pub decreases-last_arm : goal.decreases-last_arm
decreases-last_arm l = 8 * or_zero (option_map module_stmt_depth l.otherwise.now) + 2

abbrev pub decreases-choice : goal.decreases-choice
decreases-choice l = 8 * max (greatest (map module_branch_depth l.written.now)) (or_zero (option_map module_stmt_depth l.otherwise.now)) + 3

abbrev pub decreases-repeat : goal.decreases-repeat
decreases-repeat l = 8 * module_stmt_depth l.body.now + 1

abbrev pub decreases-all_nested-loop-stmt : goal.decreases-all_nested-loop-stmt
decreases-all_nested-loop-stmt l = length l.rest

abbrev pub invariant-all_nested-loop-stmt : goal.invariant-all_nested-loop-stmt
invariant-all_nested-loop-stmt l = record {
  same : state_front l.found (spec.all_in (map (spec.nested (site_of l.site)) l.rest) (state_of l.state)) ≡ spec.all_in (map (spec.nested (site_of l.site)) l.stmts) (state_of l.fn.state);
  within : greatest (map module_stmt_depth l.rest) ≤ greatest (map module_stmt_depth l.stmts);
}

abbrev pub decreases-arms-loop-condition : goal.decreases-arms-loop-condition
decreases-arms-loop-condition l = length (into_iter_items l.left)

abbrev pub invariant-arms-loop-condition : goal.invariant-arms-loop-condition
invariant-arms-loop-condition l = record {
  same : state_front l.found (spec.arms (into_iter_items l.left) (map (arm_of (site_of l.site)) l.rest) (state_of l.state)) ≡ spec.arms l.fn.tests.items (map (arm_of (site_of l.site)) l.written) (state_of l.fn.state);
  within : greatest (map module_branch_depth l.rest) ≤ greatest (map module_branch_depth l.written);
}
