use Rattle.bsv_attr.proofs.Attributes.{list_stops, stops_listed}
use Rattle.bsv_attr.proofs.laws.listed.Goals as goal

pub returns : goal.returns
returns c r s f n agrees u are = (stops_listed r s f n u are, list_stops r s f n c.obeyed.ensures.urgency agrees u are)
