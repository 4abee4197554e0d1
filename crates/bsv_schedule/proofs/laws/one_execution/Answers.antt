use Rattle.bsv_schedule.proofs.OneExecution.{one}
use Rattle.bsv_schedule.proofs.laws.one_execution.Goals as goal

pub returns : goal.returns
returns c = one
