use Rattle.bsv_schedule.proofs.OrderLaws.{ordering_before, urging_stands}
use Rattle.bsv_schedule.proofs.laws.obeyed.Goals as goal

pub returns : goal.returns
returns c = record { execution = ordering_before; urgency = urging_stands }
