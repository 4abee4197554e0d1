-- Within one depth each function calls those of a lower rank.
use Rattle.std.proofs.Common.{◌≡◌, [], ◌∷◌, false, length, None, ◌+◌, ◌-◌, ◌*◌}
use Rattle.bsv_lex.specs.declared.terminal.Terminal.TheVariants as word
use Rattle.bsv_expr.specs.Reading.{turns}
use Rattle.bsv_expr.specs.Expressions.{always, snoc}
use Rattle.bsv_parse.specs.Modules as grammar
use Rattle.bsv_parse.specs.Modules.{within, mstmt_first}
use Rattle.bsv_parse.specs.ModuleTrees.{is_open, with_else, one_branch}
use Rattle.bsv_parse.proofs.modules.+modules.Given as goal

abbrev pub decreases-mstmt : goal.decreases-mstmt
decreases-mstmt l = 100 * l.depth + 0

abbrev pub decreases-nested : goal.decreases-nested
decreases-nested l = 100 * l.depth + 1

abbrev pub decreases-repeated : goal.decreases-repeated
decreases-repeated l = 100 * l.depth + 2

abbrev pub decreases-mstmts : goal.decreases-mstmts
decreases-mstmts l = 100 * l.depth + 3

abbrev pub decreases-block : goal.decreases-block
decreases-block l = 100 * l.depth + 4

abbrev pub decreases-arm : goal.decreases-arm
decreases-arm l = 100 * l.depth + 5

abbrev pub decreases-branch : goal.decreases-branch
decreases-branch l = 100 * l.depth + 6

abbrev pub decreases-else_part : goal.decreases-else_part
decreases-else_part l = 100 * l.depth + 7

abbrev pub decreases-else_parts : goal.decreases-else_parts
decreases-else_parts l = 100 * l.depth + 8

abbrev pub decreases-all_branches : goal.decreases-all_branches
decreases-all_branches l = 100 * l.depth + 9

abbrev pub decreases-if_stmt : goal.decreases-if_stmt
decreases-if_stmt l = 100 * l.depth + 10

abbrev pub decreases-arm_or_if : goal.decreases-arm_or_if
decreases-arm_or_if l = 100 * l.depth + 11

abbrev pub decreases-inner_for : goal.decreases-inner_for
decreases-inner_for l = 100 * l.depth + 12

abbrev pub decreases-for_body : goal.decreases-for_body
decreases-for_body l = 100 * l.depth + 13

abbrev pub decreases-for_stmt : goal.decreases-for_stmt
decreases-for_stmt l = 100 * l.depth + 14

abbrev pub decreases-mstmt_body : goal.decreases-mstmt_body
decreases-mstmt_body l = 100 * l.depth + 15

abbrev pub invariant-repeated-loop-turn : goal.invariant-repeated-loop-turn
invariant-repeated-loop-turn l =
    turns false mstmt_first always snoc (within l.source l.depth grammar.nested) (length l.lexemes) [] l.lexemes
    ≡ turns false mstmt_first always snoc (within l.source l.depth grammar.nested) (l._turn-end - l._turn) l.found l.rest

abbrev pub invariant-else_parts-loop-turn : goal.invariant-else_parts-loop-turn
invariant-else_parts-loop-turn l =
    turns false (word.Else ∷ []) is_open with_else (within l.source l.depth grammar.else_part) (length l.lexemes) (one_branch l.fn.first) l.lexemes
    ≡ turns false (word.Else ∷ []) is_open with_else (within l.source l.depth grammar.else_part) (l._turn-end - l._turn) (record { span = l.span; branches = l.branches; otherwise = None }) l.rest
