-- Within one depth each function calls those of a lower rank.
use Rattle.std.proofs.Common.{◌≡◌, [], ◌∷◌, false, ◌+◌, ◌-◌, ◌*◌, length, Ok}
use Rattle.bsv_lex.specs.declared.terminal.Terminal.TheVariants as word
use Rattle.bsv_expr.specs.Reading.{◌>>=◌, turns}
use Rattle.bsv_expr.specs.Readers as spec
use Rattle.bsv_expr.specs.Trees.{with_operand, with_arm, choice_of}
use Rattle.bsv_expr.specs.Readers.{part}
use Rattle.bsv_expr.specs.Expressions as grammar
use Rattle.bsv_expr.specs.Expressions.{always, snoc}
use Rattle.bsv_expr.proofs.reader.+expr.Given as goal

abbrev pub decreases-expr : goal.decreases-expr
decreases-expr l = 100 * l.depth + 0

abbrev pub decreases-exprs : goal.decreases-exprs
decreases-exprs l = 100 * l.depth + 1

abbrev pub decreases-arguments : goal.decreases-arguments
decreases-arguments l = 100 * l.depth + 2

abbrev pub decreases-field : goal.decreases-field
decreases-field l = 100 * l.depth + 1

abbrev pub decreases-field_list : goal.decreases-field_list
decreases-field_list l = 100 * l.depth + 2

abbrev pub decreases-fields : goal.decreases-fields
decreases-fields l = 100 * l.depth + 3

abbrev pub decreases-named : goal.decreases-named
decreases-named l = 100 * l.depth + 5

abbrev pub decreases-labelled : goal.decreases-labelled
decreases-labelled l = 100 * l.depth + 5

abbrev pub decreases-group : goal.decreases-group
decreases-group l = 100 * l.depth + 1

abbrev pub decreases-concat : goal.decreases-concat
decreases-concat l = 100 * l.depth + 2

abbrev pub decreases-primary : goal.decreases-primary
decreases-primary l = 100 * l.depth + 6

abbrev pub decreases-method : goal.decreases-method
decreases-method l = 100 * l.depth + 4

abbrev pub decreases-bracketed : goal.decreases-bracketed
decreases-bracketed l = 100 * l.depth + 1

abbrev pub decreases-suffixed : goal.decreases-suffixed
decreases-suffixed l = 100 * l.depth + 5

abbrev pub decreases-suffixes : goal.decreases-suffixes
decreases-suffixes l = 100 * l.depth + 6

abbrev pub decreases-postfix : goal.decreases-postfix
decreases-postfix l = 100 * l.depth + 7

abbrev pub decreases-operated : goal.decreases-operated
decreases-operated l = 100 * l.depth + 8

abbrev pub decreases-tagged : goal.decreases-tagged
decreases-tagged l = 100 * l.depth + 8

abbrev pub decreases-operand : goal.decreases-operand
decreases-operand l = 100 * l.depth + 9

abbrev pub decreases-optional_arguments : goal.decreases-optional_arguments
decreases-optional_arguments l = 100 * l.depth + 3

abbrev pub decreases-optional_fields : goal.decreases-optional_fields
decreases-optional_fields l = 100 * l.depth + 4

abbrev pub decreases-chain : goal.decreases-chain
decreases-chain l = 100 * l.depth + (10 + 4 * length l.levels.now)

abbrev pub decreases-chain_at : goal.decreases-chain_at
decreases-chain_at l = 100 * l.depth + (13 + 4 * length l.tighter.now)

abbrev pub decreases-operation : goal.decreases-operation
decreases-operation l = 100 * l.depth + (11 + 4 * length l.tighter.now)

abbrev pub decreases-operations : goal.decreases-operations
decreases-operations l = 100 * l.depth + (12 + 4 * length l.tighter.now)

abbrev pub decreases-arm : goal.decreases-arm
decreases-arm l = 100 * l.depth + 51

abbrev pub decreases-choice : goal.decreases-choice
decreases-choice l = 100 * l.depth + 52

abbrev pub invariant-exprs-loop-turn : goal.invariant-exprs-loop-turn
invariant-exprs-loop-turn l =
    part l.source l.depth false grammar.exprs l.lexemes
    ≡ turns false (word.Comma ∷ []) always snoc (part l.source l.depth false (grammar.behind word.Comma grammar.expression)) (l._turn-end - l._turn) l.found l.rest

abbrev pub invariant-field_list-loop-turn : goal.invariant-field_list-loop-turn
invariant-field_list-loop-turn l =
    part l.source l.depth false grammar.field_list l.lexemes
    ≡ turns false (word.Comma ∷ []) always snoc (part l.source l.depth false (grammar.behind word.Comma grammar.field)) (l._turn-end - l._turn) l.found l.rest

abbrev pub invariant-suffixes-loop-turn : goal.invariant-suffixes-loop-turn
invariant-suffixes-loop-turn l =
    part l.source l.depth l.soft grammar.suffixes l.lexemes
    ≡ turns l.soft (word.Dot ∷ word.OpenBracket ∷ []) always snoc (part l.source l.depth l.soft grammar.suffixed) (l._turn-end - l._turn) l.found l.rest

abbrev pub invariant-operations-loop-turn : goal.invariant-operations-loop-turn
invariant-operations-loop-turn l =
    spec.operations l.source l.depth l.soft l.level l.tighter l.fn.first l.lexemes
    ≡ turns l.soft (grammar.words_of l.level) always with_operand (part l.source l.depth l.soft (grammar.operation l.level (grammar.chain l.tighter))) (l._turn-end - l._turn) (record { first = l.first; operators = l.operators; others = l.others }) l.rest

abbrev pub invariant-choice-loop-turn : goal.invariant-choice-loop-turn
invariant-choice-loop-turn l =
    part l.source l.depth l.soft grammar.choice l.lexemes
    ≡ (turns l.soft (word.Question ∷ []) always with_arm (part l.source l.depth l.soft grammar.arm) (l._turn-end - l._turn) (l.conditions, l.values, l.last) l.rest >>= λ found. Ok (choice_of found.0, found.1))
