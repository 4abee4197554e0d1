use Rattle.std.proofs.Common.{arith}
use Rattle.std.proofs.lemmas.Grind.{common_steps}
use Rattle.bsv_design.specs.design.Guards.{needs_from}
use Rattle.bsv_guard.proofs.needs.needs_of.Goals as goal

pub loop-number-preserved : goal.loop-number-preserved
unfolding needs_from
loop-number-preserved c = grind (arith, common_steps)

pub returns : goal.returns
unfolding needs_from
returns c = grind (arith, common_steps)
