use Rattle.bsv_attr.proofs.Alike.{obeys_alike}
use Rattle.bsv_attr.proofs.laws.same_obeyed.Goals as goal

pub returns : goal.returns
returns c = obeys_alike
