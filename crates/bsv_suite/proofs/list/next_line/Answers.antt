use Rattle.bsv_suite.proofs.Naming.{next_first, next_rest}
use Rattle.bsv_suite.proofs.list.next_line.Goals as goal

pub returns-in-Some : goal.returns-in-Some
returns-in-Some c = λ after enough. next_first c.args.held.now after c.in-Some.parts.0.now c.in-Some.parts.1.now c.in-Some.ensures.line

pub returns-in-None : goal.returns-in-None
returns-in-None c = λ after enough. next_rest c.args.held.now after c.in-None.ensures.none c.requires enough
