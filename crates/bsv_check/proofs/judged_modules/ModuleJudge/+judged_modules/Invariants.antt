use Rattle.std.proofs.Common.{◌≡◌, ◌≤◌, ◌+◌, ◌*◌, max, map, length, option_map}
use Rattle.bsv_ast.specs.Depths.{module_stmt_depth, module_branch_depth, greatest, or_zero}
use Rattle.bsv_names.specs.UntypedSeen.{variables}
use Rattle.bsv_check.specs.Judged.{all_judged}
use Rattle.bsv_check.specs.JudgedModules as spec
use Rattle.bsv_check.specs.JudgedSeen.{in_module}
use Rattle.bsv_modules.specs.Seen.{state_of}
use Rattle.bsv_check.proofs.judged_modules.ModuleJudge.+judged_modules.Given as goal

abbrev pub decreases-nested : goal.decreases-nested
decreases-nested l = 8 * module_stmt_depth l.stmt.now

abbrev pub decreases-all_nested : goal.decreases-all_nested
decreases-all_nested l = 8 * greatest (map module_stmt_depth l.stmts.now) + 1

abbrev pub decreases-block : goal.decreases-block
decreases-block l = 8 * greatest (map module_stmt_depth l.stmts.now) + 2

abbrev pub decreases-inside : goal.decreases-inside
decreases-inside l = 8 * module_stmt_depth l.stmt.now + 1

abbrev pub decreases-last : goal.decreases-last
decreases-last l = 8 * or_zero (option_map module_stmt_depth l.otherwise.now) + 2

abbrev pub decreases-arm : goal.decreases-arm
decreases-arm l = 8 * module_branch_depth l.branch.now + 1

abbrev pub decreases-arms : goal.decreases-arms
decreases-arms l = 8 * greatest (map module_branch_depth l.branches.now) + 2

abbrev pub decreases-choice : goal.decreases-choice
decreases-choice l = 8 * max (greatest (map module_branch_depth l.branches.now)) (or_zero (option_map module_stmt_depth l.otherwise.now)) + 3

abbrev pub decreases-repeat : goal.decreases-repeat
decreases-repeat l = 8 * module_stmt_depth l.body.now + 1

abbrev pub decreases-all_nested-loop-stmt : goal.decreases-all_nested-loop-stmt
decreases-all_nested-loop-stmt l = length l.rest

abbrev pub invariant-all_nested-loop-stmt : goal.invariant-all_nested-loop-stmt
invariant-all_nested-loop-stmt l = record {
  same : all_judged (map (spec.nested_judged (in_module l.self)) l.rest) (variables l.names) (state_of l.state) ≡ all_judged (map (spec.nested_judged (in_module l.self)) l.stmts) (variables l.fn.names) (state_of l.fn.state);
  within : greatest (map module_stmt_depth l.rest) ≤ greatest (map module_stmt_depth l.stmts);
}

abbrev pub decreases-arms-loop-branch : goal.decreases-arms-loop-branch
decreases-arms-loop-branch l = length l.rest

abbrev pub invariant-arms-loop-branch : goal.invariant-arms-loop-branch
invariant-arms-loop-branch l = record {
  same : spec.arms_judged (in_module l.self) (map (spec.arm_of (in_module l.self)) l.rest) (variables l.names) (state_of l.state) ≡ spec.arms_judged (in_module l.self) (map (spec.arm_of (in_module l.self)) l.branches) (variables l.fn.names) (state_of l.fn.state);
  within : greatest (map module_branch_depth l.rest) ≤ greatest (map module_branch_depth l.branches);
}
