use Rattle.std.proofs.Common.{arith}
use Rattle.bsv_top.proofs.form.size_said.Goals as goal

pub returns-clause-none : goal.returns-clause-none
returns-clause-none c = λ n least most is. c.loop-size.invariant n least (omega (arith, most, c.loop-size-test.false)) is
