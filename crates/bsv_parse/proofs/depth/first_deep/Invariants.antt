use Rattle.std.proofs.Common.{◌≡◌, ◌≤◌, drop}
use Rattle.bsv_parse.specs.Depths as spec
use Rattle.bsv_parse.proofs.depth.first_deep.Given as goal

abbrev pub invariant-loop-lexeme : goal.invariant-loop-lexeme
invariant-loop-lexeme l = (l.count ≤ 64) × (spec.first_deep 0 l.lexemes ≡ spec.first_deep l.count (drop l.lexeme-index l.lexemes))
