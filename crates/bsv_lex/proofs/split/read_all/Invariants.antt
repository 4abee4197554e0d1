use Rattle.std.proofs.Common.{◌≡◌, ◌+◌, ◌-◌, length}
use Rattle.bsv_lex.specs.Reading.{tokens_of, tokens_from}
use Rattle.bsv_lex.proofs.split.read_all.Given as goal

abbrev pub invariant-loop-turn : goal.invariant-loop-turn
invariant-loop-turn l = (l.at + length l.rest ≡ length l.source) × (tokens_of l.source ≡ tokens_from (l._turn-end - l._turn) l.out.items l.at l.rest)
