use Rattle.bsv_attr.proofs.Attributes.{obeys}
use Rattle.bsv_attr.proofs.laws.obeyed.Goals as goal

pub returns : goal.returns
returns c = obeys c.obeyed.ensures.execution c.obeyed.ensures.urgency
