use Rattle.std.proofs.Common.{◌+◌, ◌*◌, max, ◌≡◌, ◌≤◌, map, length, [], Some}
use Rattle.bsv_ast.specs.Depths.{expr_depth, suffix_depth, field_depth, greatest}
use Rattle.bsv_types.specs.Kinds.{bit, kind}
use Rattle.bsv_typing.specs.Operands as sharing
use Rattle.bsv_typing.specs.Forms as spec
use Rattle.bsv_typing.specs.Typing as table
use Rattle.bsv_context.specs.Seen.{limits, params_of}
use Rattle.bsv_typing.specs.Seen.{all_seen, fields_seen, suffixes_seen, front_of}
use Rattle.bsv_typing.proofs.Lists.{deepest, with_front}
use Rattle.bsv_typing.proofs.Values.{with_values}
use Rattle.bsv_typing.proofs.expressions.+typing.Given as goal

abbrev pub decreases-typing : goal.decreases-typing
decreases-typing l = 16 * expr_depth l.expr.now

abbrev pub decreases-chain : goal.decreases-chain
decreases-chain l = 16 * deepest l.operands.now + 9

abbrev pub decreases-chained : goal.decreases-chained
decreases-chained l = 16 * deepest l.operands.now + 8

abbrev pub decreases-by_first : goal.decreases-by_first
decreases-by_first l = 16 * deepest l.operands.now + 3

abbrev pub decreases-agree_with_result : goal.decreases-agree_with_result
decreases-agree_with_result l = 16 * deepest l.operands.now + 4

abbrev pub decreases-agree : goal.decreases-agree
decreases-agree l = 16 * deepest l.operands.now + 4

abbrev pub decreases-truths : goal.decreases-truths
decreases-truths l = 16 * deepest l.operands.now + 3

abbrev pub decreases-numbers : goal.decreases-numbers
decreases-numbers l = 16 * deepest l.operands.now + 6

abbrev pub decreases-bits : goal.decreases-bits
decreases-bits l = 16 * deepest l.operands.now + 6

abbrev pub decreases-amounts : goal.decreases-amounts
decreases-amounts l = 16 * deepest l.operands.now + 2

abbrev pub decreases-shift : goal.decreases-shift
decreases-shift l = 16 * deepest l.operands.now + 3

abbrev pub decreases-order : goal.decreases-order
decreases-order l = 16 * deepest l.operands.now + 6

abbrev pub decreases-equality : goal.decreases-equality
decreases-equality l = 16 * deepest l.operands.now + 6

abbrev pub decreases-all_as : goal.decreases-all_as
decreases-all_as l = 16 * deepest l.operands.now + 1

abbrev pub decreases-unary : goal.decreases-unary
decreases-unary l = 16 * expr_depth l.operand.now + 8

abbrev pub decreases-around : goal.decreases-around
decreases-around l = 16 * max (expr_depth l.operand.now) (max (deepest l.front.now) (deepest l.after.now)) + 2

abbrev pub decreases-amount : goal.decreases-amount
decreases-amount l = 16 * expr_depth l.operand.now + 1

abbrev pub decreases-choice : goal.decreases-choice
decreases-choice l = 16 * max (deepest l.conditions.now) (deepest l.values.now) + 6

abbrev pub decreases-joined : goal.decreases-joined
decreases-joined l = 16 * deepest l.parts.now + 1

abbrev pub decreases-concat : goal.decreases-concat
decreases-concat l = 16 * deepest l.parts.now + 2

abbrev pub decreases-valid : goal.decreases-valid
decreases-valid l = 16 * expr_depth l.payload.now + 1

abbrev pub decreases-call : goal.decreases-call
decreases-call l = 16 * deepest l.given.now + 5

abbrev pub decreases-given_call : goal.decreases-given_call
decreases-given_call l = 16 * deepest l.given.now + 4

abbrev pub decreases-call_of_one : goal.decreases-call_of_one
decreases-call_of_one l = 16 * expr_depth l.operand.now + 2

abbrev pub decreases-truncate : goal.decreases-truncate
decreases-truncate l = 16 * expr_depth l.operand.now + 1

abbrev pub decreases-extend : goal.decreases-extend
decreases-extend l = 16 * expr_depth l.operand.now + 1

abbrev pub decreases-unpack : goal.decreases-unpack
decreases-unpack l = 16 * expr_depth l.operand.now + 1

abbrev pub decreases-from_integer : goal.decreases-from_integer
decreases-from_integer l = 16 * expr_depth l.operand.now + 1

abbrev pub decreases-pack : goal.decreases-pack
decreases-pack l = 16 * expr_depth l.operand.now + 1

abbrev pub decreases-is_valid : goal.decreases-is_valid
decreases-is_valid l = 16 * expr_depth l.operand.now + 1

abbrev pub decreases-valid_value : goal.decreases-valid_value
decreases-valid_value l = 16 * expr_depth l.operand.now + 1

abbrev pub decreases-from_maybe : goal.decreases-from_maybe
decreases-from_maybe l = 16 * max (expr_depth l.default.now) (expr_depth l.operand.now) + 1

abbrev pub decreases-function_call : goal.decreases-function_call
decreases-function_call l = 16 * deepest l.given.now + 3

abbrev pub decreases-arguments : goal.decreases-arguments
decreases-arguments l = 16 * deepest l.given.now + 1

abbrev pub decreases-construct : goal.decreases-construct
decreases-construct l = 16 * greatest (map field_depth l.given.now) + 2

abbrev pub decreases-field_values : goal.decreases-field_values
decreases-field_values l = 16 * greatest (map field_depth l.given.now) + 1

abbrev pub decreases-front : goal.decreases-front
decreases-front l = 16 * expr_depth l.expr.now + 1

abbrev pub decreases-postfix : goal.decreases-postfix
decreases-postfix l = 16 * max (expr_depth l.primary.now) (greatest (map suffix_depth l.suffixes.now)) + 2

abbrev pub decreases-behind : goal.decreases-behind
decreases-behind l = 16 * suffix_depth l.suffix.now + 1

abbrev pub decreases-method_after : goal.decreases-method_after
decreases-method_after l = 16 * deepest l.given.now + 2

abbrev pub decreases-index_after : goal.decreases-index_after
decreases-index_after l = 16 * expr_depth l.place.now + 2

abbrev pub decreases-bit_of : goal.decreases-bit_of
decreases-bit_of l = 16 * expr_depth l.place.now + 1

abbrev pub decreases-all_as-loop-operand : goal.decreases-all_as-loop-operand
decreases-all_as-loop-operand l = length l.rest

abbrev pub invariant-all_as-loop-operand : goal.invariant-all_as-loop-operand
invariant-all_as-loop-operand l = record {
  same : with_front l.found (sharing.all_as (kind l.ty) (all_seen l.context l.variables l.rest)) ≡ sharing.all_as (kind l.ty) (all_seen l.context l.variables l.operands);
  within : deepest l.rest ≤ deepest l.operands;
}

abbrev pub decreases-amounts-loop-operand : goal.decreases-amounts-loop-operand
decreases-amounts-loop-operand l = length l.rest

abbrev pub invariant-amounts-loop-operand : goal.invariant-amounts-loop-operand
invariant-amounts-loop-operand l = record {
  same : with_front l.found (spec.amounts (all_seen l.context l.variables l.rest)) ≡ spec.amounts (all_seen l.context l.variables l.operands);
  within : deepest l.rest ≤ deepest l.operands;
}

abbrev pub decreases-joined-loop-part : goal.decreases-joined-loop-part
decreases-joined-loop-part l = length l.rest

abbrev pub invariant-joined-loop-part : goal.invariant-joined-loop-part
invariant-joined-loop-part l = record {
  same : with_values l.found (spec.joined (kind l.ty) (all_seen l.context l.variables l.rest)) ≡ spec.joined (bit 0) (all_seen l.context l.variables l.parts);
  within : deepest l.rest ≤ deepest l.parts;
}

abbrev pub decreases-arguments-loop-argument : goal.decreases-arguments-loop-argument
decreases-arguments-loop-argument l = length l.rest

abbrev pub invariant-arguments-loop-argument : goal.invariant-arguments-loop-argument
invariant-arguments-loop-argument l = record {
  same : with_front l.found (spec.arguments (params_of l.types) (all_seen l.context l.variables l.rest)) ≡ spec.arguments (params_of l.params) (all_seen l.context l.variables l.given);
  within : deepest l.rest ≤ deepest l.given;
}

abbrev pub decreases-field_values-loop-value : goal.decreases-field_values-loop-value
decreases-field_values-loop-value l = length l.rest

abbrev pub invariant-field_values-loop-value : goal.invariant-field_values-loop-value
invariant-field_values-loop-value l = record {
  same : with_values l.found (spec.field_values (limits l.context) (kind l.ty) l.numbers (fields_seen l.context l.variables l.rest)) ≡ spec.field_values (limits l.context) (kind l.ty) [] (fields_seen l.context l.variables l.given);
  within : greatest (map field_depth l.rest) ≤ greatest (map field_depth l.given);
}

abbrev pub decreases-postfix-loop-suffix : goal.decreases-postfix-loop-suffix
decreases-postfix-loop-suffix l = length l.rest

abbrev pub invariant-postfix-loop-suffix : goal.invariant-postfix-loop-suffix
invariant-postfix-loop-suffix l = record {
  same : table.all_after (suffixes_seen l.context l.variables l.rest) (front_of l.found) ≡ table.all_after (suffixes_seen l.context l.variables l.suffixes) (front_of l.initial.found);
  within : greatest (map suffix_depth l.rest) ≤ greatest (map suffix_depth l.suffixes);
}

abbrev pub decreases-call_of_header : goal.decreases-call_of_header
decreases-call_of_header l = 16 * deepest l.given.now + 2
