use Rattle.bsv_flow.proofs.Decided.{same, apart, some}
use Rattle.bsv_flow.proofs.OneRefusal.{of_loading}
use Rattle.bsv_flow.proofs.loading.one_loading.Goals as goal

pub returns-clause-same : goal.returns-clause-same
returns-clause-same c = same

pub returns-clause-apart : goal.returns-clause-apart
returns-clause-apart c = apart

pub returns-clause-some : goal.returns-clause-some
returns-clause-some c = some

pub returns-clause-one_refusal : goal.returns-clause-one_refusal
returns-clause-one_refusal c = of_loading
