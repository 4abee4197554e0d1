use Rattle.bsv_schedule.proofs.OrderLaws.{ordered_holds}
use Rattle.bsv_schedule.proofs.laws.ordered.Goals as goal

pub returns : goal.returns
returns c = ordered_holds
