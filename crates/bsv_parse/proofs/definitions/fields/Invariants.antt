use Rattle.std.proofs.Common.{◌≡◌, [], ◌∷◌, false, ◌-◌}
use Rattle.bsv_expr.specs.Reading.{turns}
use Rattle.bsv_expr.specs.Expressions.{always, snoc}
use Rattle.bsv_blocks.specs.Types.{type_first}
use Rattle.bsv_parse.specs.Places.{part}
use Rattle.bsv_parse.specs.Definitions as grammar
use Rattle.bsv_parse.proofs.definitions.fields.Given as goal

abbrev pub invariant-loop-turn : goal.invariant-loop-turn
invariant-loop-turn l =
    part l.source l.depth grammar.fields l.lexemes
    ≡ turns false type_first always snoc (part l.source l.depth grammar.field) (l._turn-end - l._turn) l.found l.rest
