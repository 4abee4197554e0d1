use Rattle.std.proofs.Common.{refl}
use Rattle.bsv_guard.proofs.lifting.lift_element.Goals as goal

pub returns-in-Some : goal.returns-in-Some
returns-in-Some c = (refl, rw c.in-Some.is at c.in_ok-breach.ensures)
