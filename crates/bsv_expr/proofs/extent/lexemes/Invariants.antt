use Rattle.std.proofs.Common.{◌≡◌, map, take}
use Rattle.bsv_expr.specs.Lexemes as spec
use Rattle.bsv_expr.proofs.extent.lexemes.Given as goal

abbrev pub invariant-loop-token : goal.invariant-loop-token
invariant-loop-token l = l.out.items ≡ map (spec.lexeme l.source) (take l.token-index l.tokens)
