use Rattle.std.proofs.Common.{◌≡◌, [], ◌∷◌, false, ◌-◌}
use Rattle.bsv_lex.specs.declared.terminal.Terminal.TheVariants as word
use Rattle.bsv_expr.specs.Reading.{turns}
use Rattle.bsv_expr.specs.Expressions.{always, snoc}
use Rattle.bsv_parse.specs.Places.{part}
use Rattle.bsv_parse.specs.Definitions as grammar
use Rattle.bsv_parse.proofs.definitions.method_headers.Given as goal

abbrev pub invariant-loop-turn : goal.invariant-loop-turn
invariant-loop-turn l =
    part l.source l.depth grammar.method_headers l.lexemes
    ≡ turns false (word.Method ∷ []) always snoc (part l.source l.depth grammar.method_header) (l._turn-end - l._turn) l.found l.rest
