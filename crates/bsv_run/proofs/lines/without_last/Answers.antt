use Rattle.bsv_run.proofs.Listed.{with_last, with_other}
use Rattle.bsv_run.proofs.lines.without_last.Goals as goal

pub returns-in-Some : goal.returns-in-Some
returns-in-Some c = with_last c.args.byte c.args.bytes.now c.in-Some.front.now c.in-Some.last.now c.in-Some.ensures.cases.0 c.if-last-byte.true

pub returns-in_default : goal.returns-in_default
returns-in_default c = with_other c.args.byte c.args.bytes.now c.in-Some.front.now c.in-Some.last.now c.in-Some.ensures.cases.0 c.if-last-byte.false
