use Rattle.std.proofs.Common.{arith}
use Rattle.bsv_schedule.proofs.BehindLemmas.{all_in}
use Rattle.bsv_schedule.proofs.urgency_order.behind.least_action_in.Goals as goal

pub returns-clause-none : goal.returns-clause-none
returns-clause-none c = λ m a.
    c.loop-m.invariant m (omega (arith, c.count-m-end.ensures.count, all_in c.args.list.now _ m c.requires a.there)) a
