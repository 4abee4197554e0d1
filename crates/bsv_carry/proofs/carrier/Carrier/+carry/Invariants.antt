use Rattle.std.proofs.Common.{◌≡◌, ◌≤◌, ◌+◌, ◌-◌, ◌*◌, length}
use Rattle.bsv_types.specs.Kinds.{kind}
use Rattle.bsv_tree.specs.carrying.Carrying as carrying
use Rattle.bsv_carry.specs.AtHand as spec
use Rattle.bsv_carry.proofs.Depths.{calls_left, expr_size, exprs_size, place_size, condition_size, head_size, stmt_size, stmts_size, branch_size, branches_size, case_size, cases_size, last_size, asked_size, body_size, method_size}
use Rattle.bsv_carry.proofs.carrier.Carrier.+carry.Given as goal

-- ---- the calls that are left, then the size of what is carried out, then the rank of the function

abbrev pub decreases-expr : goal.decreases-expr
decreases-expr l = calls_left l.self + 32 * expr_size l.e.now + 1

abbrev pub decreases-all : goal.decreases-all
decreases-all l = calls_left l.self + 32 * exprs_size l.items.now + 2

abbrev pub decreases-apply : goal.decreases-apply
decreases-apply l = calls_left l.self + 32 * exprs_size l.operands.now + 6

abbrev pub decreases-in_turn : goal.decreases-in_turn
decreases-in_turn l = calls_left l.self + 32 * exprs_size l.operands.now + 5

abbrev pub decreases-chained : goal.decreases-chained
decreases-chained l = calls_left l.self + 32 * exprs_size l.operands.now + 3

abbrev pub decreases-part_of : goal.decreases-part_of
decreases-part_of l = calls_left l.self + 32 * exprs_size l.operands.now + 3

abbrev pub decreases-suffixed : goal.decreases-suffixed
decreases-suffixed l = calls_left l.self + 32 * exprs_size l.operands.now + 4

abbrev pub decreases-function : goal.decreases-function
decreases-function l = calls_left l.self + 32 * exprs_size l.arguments.now + 3

abbrev pub decreases-value_asked : goal.decreases-value_asked
decreases-value_asked l = calls_left l.self + 32 * expr_size l.condition.now + 2

abbrev pub decreases-value_kept : goal.decreases-value_kept
decreases-value_kept l = calls_left l.self + 32 * expr_size l.value.now + 2

abbrev pub decreases-last_value : goal.decreases-last_value
decreases-last_value l = calls_left l.self + 32 * expr_size l.value.now + 2

abbrev pub decreases-choice : goal.decreases-choice
decreases-choice l = calls_left l.self + 32 * (exprs_size l.conditions.now + exprs_size l.values.now) + 3

abbrev pub decreases-place : goal.decreases-place
decreases-place l = calls_left l.self + 32 * place_size l.place.now + 2

abbrev pub decreases-primitive_call : goal.decreases-primitive_call
decreases-primitive_call l = calls_left l.self + 32 * exprs_size l.arguments.now + 3

abbrev pub decreases-module_call : goal.decreases-module_call
decreases-module_call l = calls_left l.self + 32 * exprs_size l.arguments.now + 3

abbrev pub decreases-value_of : goal.decreases-value_of
decreases-value_of l = calls_left l.self + 32 * exprs_size l.arguments.now + 4

abbrev pub decreases-method : goal.decreases-method
decreases-method l = calls_left l.self + 32 * (place_size l.place.now + exprs_size l.arguments.now) + 5

abbrev pub decreases-act_of : goal.decreases-act_of
decreases-act_of l = calls_left l.self + 32 * exprs_size l.arguments.now + 4

abbrev pub decreases-act : goal.decreases-act
decreases-act l = calls_left l.self + 32 * (place_size l.place.now + exprs_size l.arguments.now) + 5

abbrev pub decreases-asking : goal.decreases-asking
decreases-asking l = calls_left l.self + 32 * asked_size l.condition.now + 2

abbrev pub decreases-giving : goal.decreases-giving
decreases-giving l = calls_left l.self + 32 * body_size l.body.now + 6

abbrev pub decreases-function_at : goal.decreases-function_at
decreases-function_at l = calls_left l.self

abbrev pub decreases-entered : goal.decreases-entered
decreases-entered l = calls_left l.self + 32 * method_size l.method.now + 7

abbrev pub decreases-user_method : goal.decreases-user_method
decreases-user_method l = calls_left l.self

abbrev pub decreases-run : goal.decreases-run
decreases-run l = calls_left l.self + 32 * stmts_size l.stmts.now + 5

abbrev pub decreases-block : goal.decreases-block
decreases-block l = calls_left l.self + 32 * stmts_size l.stmts.now + 6

abbrev pub decreases-inside : goal.decreases-inside
decreases-inside l = calls_left l.self + 32 * stmt_size l.stmt.now + 5

abbrev pub decreases-last_of : goal.decreases-last_of
decreases-last_of l = calls_left l.self + 32 * last_size l.otherwise.now + 6

abbrev pub decreases-otherwise : goal.decreases-otherwise
decreases-otherwise l = calls_left l.self + 32 * last_size l.otherwise.now + 7

abbrev pub decreases-stmt : goal.decreases-stmt
decreases-stmt l = calls_left l.self + 32 * stmt_size l.stmt.now + 4

abbrev pub decreases-condition_asked : goal.decreases-condition_asked
decreases-condition_asked l = calls_left l.self + 32 * condition_size l.condition.now + 2

abbrev pub decreases-asked : goal.decreases-asked
decreases-asked l = calls_left l.self + 32 * branch_size l.branch.now + 3

abbrev pub decreases-arm : goal.decreases-arm
decreases-arm l = calls_left l.self + 32 * stmt_size l.stmt.now + 6

abbrev pub decreases-branch_arm : goal.decreases-branch_arm
decreases-branch_arm l = calls_left l.self + 32 * branch_size l.branch.now + 7

abbrev pub decreases-last_branch : goal.decreases-last_branch
decreases-last_branch l = calls_left l.self + 32 * branch_size l.branch.now + 8

abbrev pub decreases-kept : goal.decreases-kept
decreases-kept l = calls_left l.self + 32 * branch_size l.branch.now + 8

abbrev pub decreases-chain : goal.decreases-chain
decreases-chain l = calls_left l.self + 32 * (branches_size l.branches.now + last_size l.otherwise.now) + 9

abbrev pub decreases-goes_on : goal.decreases-goes_on
decreases-goes_on l = calls_left l.self + 32 * expr_size l.test.now + 2

abbrev pub decreases-turn : goal.decreases-turn
decreases-turn l = calls_left l.self + 32 * (head_size l.head.now + stmt_size l.stmt.now) + 6

abbrev pub decreases-turns : goal.decreases-turns
decreases-turns l = calls_left l.self + 32 * (head_size l.head.now + stmt_size l.stmt.now) + 7

abbrev pub decreases-loop_of : goal.decreases-loop_of
decreases-loop_of l = calls_left l.self + 32 * (head_size l.head.now + stmt_size l.stmt.now) + 8

abbrev pub decreases-label : goal.decreases-label
decreases-label l = calls_left l.self + 32 * expr_size l.label.now + 2

abbrev pub decreases-labels : goal.decreases-labels
decreases-labels l = calls_left l.self + 32 * exprs_size l.labels.now + 3

abbrev pub decreases-static_arm : goal.decreases-static_arm
decreases-static_arm l = calls_left l.self + 32 * case_size l.arm.now + 7

abbrev pub decreases-static_case : goal.decreases-static_case
decreases-static_case l = calls_left l.self + 32 * (cases_size l.arms.now + last_size l.otherwise.now) + 8

abbrev pub decreases-open_arm : goal.decreases-open_arm
decreases-open_arm l = calls_left l.self + 32 * case_size l.arm.now + 7

abbrev pub decreases-open_case : goal.decreases-open_case
decreases-open_case l = calls_left l.self + 32 * (cases_size l.arms.now + last_size l.otherwise.now) + 8

abbrev pub decreases-cases : goal.decreases-cases
decreases-cases l = calls_left l.self + 32 * (expr_size l.subject.now + (cases_size l.arms.now + last_size l.otherwise.now)) + 9

-- ---- loops over lists: what is left

abbrev pub decreases-all-loop-item : goal.decreases-all-loop-item
decreases-all-loop-item l = length l.rest

abbrev pub invariant-all-loop-item : goal.invariant-all-loop-item
invariant-all-loop-item l = record {
  same : spec.all l.self l.items l.locals l.fn.work ≡ carrying.all_from l.values (spec.expressions l.self l.rest) l.locals l.work;
  within : exprs_size l.rest ≤ exprs_size l.items;
}

abbrev pub decreases-chained-loop-op : goal.decreases-chained-loop-op
decreases-chained-loop-op l = length l.rest

abbrev pub invariant-chained-loop-op : goal.invariant-chained-loop-op
invariant-chained-loop-op l = record {
  same : spec.chained l.self l.ops (kind l.from) l.fn.first l.operands l.locals l.fn.work ≡ spec.chained l.self l.left (kind l.from) l.value l.rest l.locals l.work;
  within : exprs_size l.rest ≤ exprs_size l.operands;
}

abbrev pub decreases-suffixed-loop-op : goal.decreases-suffixed-loop-op
decreases-suffixed-loop-op l = length l.left

abbrev pub invariant-suffixed-loop-op : goal.invariant-suffixed-loop-op
invariant-suffixed-loop-op l = record {
  same : spec.suffixed l.self (spec.width l.self (kind l.from)) (spec.fields l.self (kind l.from)) l.ops l.fn.whole l.operands l.locals l.fn.work ≡ spec.suffixed l.self l.bits l.fields l.left l.value l.rest l.locals l.work;
  within : exprs_size l.rest ≤ exprs_size l.operands;
}

abbrev pub decreases-choice-loop-condition : goal.decreases-choice-loop-condition
decreases-choice-loop-condition l = length l.rest

abbrev pub invariant-choice-loop-condition : goal.invariant-choice-loop-condition
invariant-choice-loop-condition l = record {
  same : spec.choice l.self l.conditions l.values l.locals l.work ≡ carrying.choice_from (spec.fault_of l.self) l.work l.arms (spec.expressions l.self l.left) (spec.expressions l.self l.rest) l.locals l.count;
  asked : exprs_size l.left ≤ exprs_size l.conditions;
  within : exprs_size l.rest ≤ exprs_size l.values;
}

abbrev pub decreases-run-loop-stmt : goal.decreases-run-loop-stmt
decreases-run-loop-stmt l = length l.rest

abbrev pub invariant-run-loop-stmt : goal.invariant-run-loop-stmt
invariant-run-loop-stmt l = record {
  same : spec.run l.self l.stmts l.fn.locals l.fn.work ≡ spec.run l.self l.rest l.locals l.work;
  within : stmts_size l.rest ≤ stmts_size l.stmts;
}

abbrev pub decreases-chain-loop-branch : goal.decreases-chain-loop-branch
decreases-chain-loop-branch l = length l.rest

abbrev pub invariant-chain-loop-branch : goal.invariant-chain-loop-branch
invariant-chain-loop-branch l = record {
  same : spec.chain l.self l.branches l.otherwise l.fn.locals l.work ≡ carrying.chain_from l.work l.arms (spec.branches l.self l.rest) (spec.last_of l.self l.otherwise) l.locals l.count;
  within : branches_size l.rest ≤ branches_size l.branches;
}

abbrev pub decreases-labels-loop-label : goal.decreases-labels-loop-label
decreases-labels-loop-label l = length l.rest

abbrev pub invariant-labels-loop-label : goal.invariant-labels-loop-label
invariant-labels-loop-label l = record {
  same : spec.labels l.self l.subject l.labels l.locals l.fn.count ≡ spec.labels_from l.self l.subject l.found l.rest l.locals l.work;
  within : exprs_size l.rest ≤ exprs_size l.labels;
}

abbrev pub decreases-static_case-loop-arm : goal.decreases-static_case-loop-arm
decreases-static_case-loop-arm l = length l.rest

abbrev pub invariant-static_case-loop-arm : goal.invariant-static_case-loop-arm
invariant-static_case-loop-arm l = record {
  same : spec.static_case l.self l.subject l.arms l.otherwise l.fn.locals l.fn.work ≡ spec.static_case_from l.self l.subject l.taken l.rest l.otherwise l.locals l.work;
  within : cases_size l.rest ≤ cases_size l.arms;
}

abbrev pub decreases-open_case-loop-arm : goal.decreases-open_case-loop-arm
decreases-open_case-loop-arm l = length l.rest

abbrev pub invariant-open_case-loop-arm : goal.invariant-open_case-loop-arm
invariant-open_case-loop-arm l = record {
  same : spec.open_case l.self l.subject l.arms l.otherwise l.fn.locals l.work ≡ spec.open_case_from l.self l.subject l.work l.pending l.rest l.otherwise l.fn.locals l.count;
  within : cases_size l.rest ≤ cases_size l.arms;
}

abbrev pub invariant-turns-loop-turn : goal.invariant-turns-loop-turn
invariant-turns-loop-turn l =
    spec.turns_of l.self l.head l.stmt l.fn.locals l.fn.work
    ≡ spec.turns l.self (4096 - l._turn) l.head l.stmt l.locals l.work
