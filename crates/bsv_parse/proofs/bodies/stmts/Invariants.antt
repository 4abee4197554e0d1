use Rattle.std.proofs.Common.{◌≡◌, [], ◌∷◌, false, ◌-◌}
use Rattle.bsv_expr.specs.Reading.{turns}
use Rattle.bsv_expr.specs.Expressions.{always, snoc}
use Rattle.bsv_expr.specs.Grammar.{Grammar}
use Rattle.bsv_parse.specs.Places.{Hole}
use Rattle.bsv_blocks.specs.Statements.{stmt_first}
use Rattle.bsv_parse.specs.Places.{part}
use Rattle.bsv_parse.specs.Places as grammar
use Rattle.bsv_parse.proofs.bodies.stmts.Given as goal

abbrev pub invariant-loop-turn : goal.invariant-loop-turn
invariant-loop-turn l =
    part l.source l.depth grammar.stmts l.lexemes
    ≡ turns false stmt_first always snoc (part l.source l.depth (Grammar.hole Hole.statement)) (l._turn-end - l._turn) l.found l.rest
