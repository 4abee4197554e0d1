use Rattle.bsv_attr.proofs.Alike.{accepted_alike, implicit_alike, stopper_alike}
use Rattle.bsv_attr.proofs.laws.same_asserted.Goals as goal

pub returns : goal.returns
returns c = record { accepted = accepted_alike; no_implicit = implicit_alike; fires = stopper_alike }
