use Rattle.bsv_flow.proofs.Programs.{one_program, a_program}
use Rattle.bsv_flow.proofs.Trees.{same, apart, some, of_building}
use Rattle.bsv_flow.proofs.building.one_building.Goals as goal

pub returns-clause-same : goal.returns-clause-same
returns-clause-same c = same

pub returns-clause-apart : goal.returns-clause-apart
returns-clause-apart c = apart

pub returns-clause-some : goal.returns-clause-some
returns-clause-some c = some

pub returns-clause-one_program : goal.returns-clause-one_program
returns-clause-one_program c = one_program

pub returns-clause-a_program : goal.returns-clause-a_program
returns-clause-a_program c = a_program

pub returns-clause-one_refusal : goal.returns-clause-one_refusal
returns-clause-one_refusal c = of_building
