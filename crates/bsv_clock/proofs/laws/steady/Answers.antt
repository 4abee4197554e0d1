use Rattle.bsv_clock.proofs.Steadily.{steady_scheme, looks_decide}
use Rattle.bsv_clock.proofs.laws.steady.Goals as goal

pub returns : goal.returns
returns c = record { steady = steady_scheme; looks = looks_decide }
