use Rattle.bsv_check.proofs.RightProgram.{programs_right}
use Rattle.bsv_check.proofs.law.programs_are_right.Goals as goal

pub returns : goal.returns
returns c = programs_right
