use Rattle.bsv_schedule.proofs.OneUrgency.{one}
use Rattle.bsv_schedule.proofs.laws.one_urgency.Goals as goal

pub returns : goal.returns
returns c = one
