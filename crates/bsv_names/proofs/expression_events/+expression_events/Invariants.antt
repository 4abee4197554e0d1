use Rattle.std.proofs.Common.{◌≡◌, ◌≤◌, ◌+◌, ◌*◌, ◌++◌, max, length}
use Rattle.bsv_names.specs.ExpressionEvents as spec
use Rattle.bsv_ast.specs.Depths.{expr_depth, suffix_depth}
use Rattle.bsv_names.proofs.Deepest.{deepest_expr, deepest_suffix, deepest_field}
use Rattle.bsv_names.proofs.expression_events.+expression_events.Given as goal

abbrev pub decreases-expr_events : goal.decreases-expr_events
decreases-expr_events l = 4 * expr_depth l.expr.now

abbrev pub decreases-exprs_events : goal.decreases-exprs_events
decreases-exprs_events l = 4 * deepest_expr l.exprs.now + 1

abbrev pub decreases-fields_events : goal.decreases-fields_events
decreases-fields_events l = 4 * deepest_field l.fields.now + 1

abbrev pub decreases-suffix_events : goal.decreases-suffix_events
decreases-suffix_events l = 4 * suffix_depth l.suffix.now

abbrev pub decreases-suffixes_events : goal.decreases-suffixes_events
decreases-suffixes_events l = 4 * deepest_suffix l.suffixes.now + 1

abbrev pub decreases-choice_events : goal.decreases-choice_events
decreases-choice_events l = 4 * max (deepest_expr l.conditions.now) (deepest_expr l.values.now) + 2

abbrev pub decreases-exprs_events-loop-expr : goal.decreases-exprs_events-loop-expr
decreases-exprs_events-loop-expr l = length l.rest

abbrev pub decreases-fields_events-loop-field : goal.decreases-fields_events-loop-field
decreases-fields_events-loop-field l = length l.rest

abbrev pub decreases-suffixes_events-loop-suffix : goal.decreases-suffixes_events-loop-suffix
decreases-suffixes_events-loop-suffix l = length l.rest

abbrev pub decreases-choice_events-loop-condition : goal.decreases-choice_events-loop-condition
decreases-choice_events-loop-condition l = length l.conditions

abbrev pub invariant-exprs_events-loop-expr : goal.invariant-exprs_events-loop-expr
invariant-exprs_events-loop-expr l = record {
  made : l.found ++ spec.exprs_events l.rest ≡ l.fn.found ++ spec.exprs_events l.exprs;
  within : deepest_expr l.rest ≤ deepest_expr l.exprs;
}

abbrev pub invariant-fields_events-loop-field : goal.invariant-fields_events-loop-field
invariant-fields_events-loop-field l = record {
  made : l.found ++ spec.fields_events l.rest ≡ l.fn.found ++ spec.fields_events l.fields;
  within : deepest_field l.rest ≤ deepest_field l.fields;
}

abbrev pub invariant-suffixes_events-loop-suffix : goal.invariant-suffixes_events-loop-suffix
invariant-suffixes_events-loop-suffix l = record {
  made : l.found ++ spec.suffixes_events l.rest ≡ l.fn.found ++ spec.suffixes_events l.suffixes;
  within : deepest_suffix l.rest ≤ deepest_suffix l.suffixes;
}

abbrev pub invariant-choice_events-loop-condition : goal.invariant-choice_events-loop-condition
invariant-choice_events-loop-condition l = record {
  made : l.found ++ spec.choice_events l.conditions l.values ≡ l.fn.found ++ spec.choice_events l.fn.conditions l.fn.values;
  conditions : deepest_expr l.conditions ≤ deepest_expr l.fn.conditions;
  values : deepest_expr l.values ≤ deepest_expr l.fn.values;
}
