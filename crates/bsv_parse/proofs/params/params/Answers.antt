use Rattle.std.proofs.Common.{arith}
use Rattle.bsv_expr.proofs.Turns.{turns_of}
use Rattle.bsv_parse.proofs.params.params.Goals as goal

pub loop-turn-preserved : goal.loop-turn-preserved
loop-turn-preserved c = grind (arith, turns_of)
