use Rattle.std.proofs.Common.{◌≡◌, [], ◌∷◌, false, ◌-◌}
use Rattle.bsv_lex.specs.declared.terminal.Terminal.TheVariants as word
use Rattle.bsv_expr.specs.Reading.{turns}
use Rattle.bsv_expr.specs.Expressions.{always, snoc}
use Rattle.bsv_parse.specs.Places.{part}
use Rattle.bsv_parse.specs.Definitions as grammar
use Rattle.bsv_parse.proofs.params.params.Given as goal

abbrev pub invariant-loop-turn : goal.invariant-loop-turn
invariant-loop-turn l =
    part l.source l.depth grammar.params l.lexemes
    ≡ turns false (word.Comma ∷ []) always snoc (part l.source l.depth grammar.next_param) (l._turn-end - l._turn) l.found l.rest
