use Rattle.std.proofs.Common.{◌≡◌, false, Ok, ◌-◌}
use Rattle.bsv_expr.specs.Reading.{◌>>=◌, turns}
use Rattle.bsv_expr.specs.Expressions.{always, snoc}
use Rattle.bsv_parse.specs.Packages as grammar
use Rattle.bsv_parse.specs.Packages.{within}
use Rattle.bsv_parse.specs.ModuleTrees.{bare_of}
use Rattle.bsv_parse.proofs.items.bare.Given as goal

abbrev pub invariant-loop-turn : goal.invariant-loop-turn
invariant-loop-turn l =
    within l.source l.depth grammar.bare l.lexemes
    ≡ (turns false grammar.item_first always snoc (within l.source l.depth grammar.item) (l._turn-end - l._turn) l.found l.rest >>= λ a. Ok (bare_of a.0, a.1))
