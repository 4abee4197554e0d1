-- Within one depth each function calls those of a lower rank.
use Rattle.std.proofs.Common.{◌≡◌, [], ◌∷◌, false, ◌+◌, ◌-◌, ◌*◌}
use Rattle.bsv_lex.specs.declared.terminal.Terminal.TheVariants as word
use Rattle.bsv_expr.specs.Reading.{turns}
use Rattle.bsv_expr.specs.Expressions.{always, snoc, expression_first}
use Rattle.bsv_expr.specs.Grammar.{Grammar}
use Rattle.bsv_blocks.specs.Statements as grammar
use Rattle.bsv_blocks.specs.Statements.{Nested, within, stmt_first}
use Rattle.bsv_blocks.specs.StatementTrees.{is_open, with_else}
use Rattle.bsv_blocks.proofs.statements.+statements.Given as goal

abbrev pub decreases-stmt : goal.decreases-stmt
decreases-stmt l = 100 * l.depth + 0

abbrev pub decreases-stmts : goal.decreases-stmts
decreases-stmts l = 100 * l.depth + 1

abbrev pub decreases-block : goal.decreases-block
decreases-block l = 100 * l.depth + 2

abbrev pub decreases-arm : goal.decreases-arm
decreases-arm l = 100 * l.depth + 3

abbrev pub decreases-branch : goal.decreases-branch
decreases-branch l = 100 * l.depth + 4

abbrev pub decreases-else_part : goal.decreases-else_part
decreases-else_part l = 100 * l.depth + 5

abbrev pub decreases-all_branches : goal.decreases-all_branches
decreases-all_branches l = 100 * l.depth + 6

abbrev pub decreases-if_stmt : goal.decreases-if_stmt
decreases-if_stmt l = 100 * l.depth + 7

abbrev pub decreases-arm_or_if : goal.decreases-arm_or_if
decreases-arm_or_if l = 100 * l.depth + 8

abbrev pub decreases-inner_for : goal.decreases-inner_for
decreases-inner_for l = 100 * l.depth + 9

abbrev pub decreases-for_body : goal.decreases-for_body
decreases-for_body l = 100 * l.depth + 10

abbrev pub decreases-for_stmt : goal.decreases-for_stmt
decreases-for_stmt l = 100 * l.depth + 11

abbrev pub decreases-case_arm : goal.decreases-case_arm
decreases-case_arm l = 100 * l.depth + 9

abbrev pub decreases-case_arms : goal.decreases-case_arms
decreases-case_arms l = 100 * l.depth + 10

abbrev pub decreases-default_arm : goal.decreases-default_arm
decreases-default_arm l = 100 * l.depth + 9

abbrev pub decreases-case_inside : goal.decreases-case_inside
decreases-case_inside l = 100 * l.depth + 11

abbrev pub decreases-case_stmt : goal.decreases-case_stmt
decreases-case_stmt l = 100 * l.depth + 12

abbrev pub decreases-stmt_body : goal.decreases-stmt_body
decreases-stmt_body l = 100 * l.depth + 13

abbrev pub invariant-stmts-loop-turn : goal.invariant-stmts-loop-turn
invariant-stmts-loop-turn l =
    within l.source l.depth grammar.stmts l.lexemes
    ≡ turns false stmt_first always snoc (within l.source l.depth (Grammar.hole Nested.statement)) (l._turn-end - l._turn) l.found l.rest

abbrev pub invariant-all_branches-loop-turn : goal.invariant-all_branches-loop-turn
invariant-all_branches-loop-turn l =
    within l.source l.depth grammar.branches l.lexemes
    ≡ turns false (word.Else ∷ []) is_open with_else (within l.source l.depth grammar.else_part) (l._turn-end - l._turn) l.found l.rest

abbrev pub invariant-case_arms-loop-turn : goal.invariant-case_arms-loop-turn
invariant-case_arms-loop-turn l =
    within l.source l.depth grammar.case_arms l.lexemes
    ≡ turns false expression_first always snoc (within l.source l.depth grammar.case_arm) (l._turn-end - l._turn) l.found l.rest
