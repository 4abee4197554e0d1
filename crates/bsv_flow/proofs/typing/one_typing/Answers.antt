use Rattle.bsv_flow.proofs.OneRefusal.{one_program, of_typing}
use Rattle.bsv_flow.proofs.Outcomes.{same, apart, some}
use Rattle.bsv_flow.proofs.typing.one_typing.Goals as goal

pub returns-clause-same : goal.returns-clause-same
returns-clause-same c = same

pub returns-clause-apart : goal.returns-clause-apart
returns-clause-apart c = apart

pub returns-clause-some : goal.returns-clause-some
returns-clause-some c = some

pub returns-clause-one_program : goal.returns-clause-one_program
returns-clause-one_program c = one_program

pub returns-clause-one_refusal : goal.returns-clause-one_refusal
returns-clause-one_refusal c = of_typing
