use Rattle.bsv_clock.proofs.CarriedAlike.{carried_to}
use Rattle.bsv_clock.proofs.laws.carried.Goals as goal

pub returns : goal.returns
returns c = λ g S T made cells widths gives al h. carried_to g S T made al cells widths gives h
