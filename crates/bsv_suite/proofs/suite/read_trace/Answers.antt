use Rattle.std.proofs.Common.{refl}
use Rattle.bsv_suite.proofs.suite.read_trace.Goals as goal

pub returns-in-Err-Failed-clause-kept : goal.returns-in-Err-Failed-clause-kept
returns-in-Err-Failed-clause-kept g c = λ h. absurd (h c.in_ok-blamed.blamed refl)
