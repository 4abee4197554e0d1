use Rattle.bsv_clock.proofs.Clocks.{clock_fed}
use Rattle.bsv_clock.proofs.Steadily.{steady_scheme}
use Rattle.bsv_clock.proofs.laws.fed.Goals as goal

pub returns : goal.returns
returns c = λ g S made q s together. clock_fed g S made q s together (steady_scheme g S together.lawful)
