use Rattle.std.proofs.Common.{◌≡◌, ℕ, [], ◌∷◌, false, ◌-◌}
use Rattle.bsv_lex.specs.declared.terminal.Terminal.TheVariants as word
use Rattle.bsv_expr.specs.Reading.{turns}
use Rattle.bsv_expr.specs.Expressions.{always, snoc}
use Rattle.bsv_parse.specs.Places.{part}
use Rattle.bsv_parse.specs.Definitions as grammar
use Rattle.bsv_parse.proofs.attributes.groups.Given as goal

abbrev pub invariant-loop-turn : goal.invariant-loop-turn
invariant-loop-turn l =
    (n : ℕ)
    → part l.source n grammar.groups l.lexemes
    ≡ turns false (word.OpenAttribute ∷ []) always snoc (part l.source n grammar.group) (l._turn-end - l._turn) l.found l.rest
