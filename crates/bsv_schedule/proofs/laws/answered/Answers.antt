use Rattle.bsv_schedule.proofs.Answering.{executes_or_refused, urges_or_declined, stops_exist}
use Rattle.bsv_schedule.proofs.laws.answered.Goals as goal

pub returns : goal.returns
returns c = record { execution = executes_or_refused; urgency = urges_or_declined; stops = stops_exist }
