use Rattle.bsv_attr.proofs.Answering.{some, one}
use Rattle.bsv_attr.proofs.laws.answered.Goals as goal

pub returns : goal.returns
returns c = record { some = some; one = one }
