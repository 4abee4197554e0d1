use Rattle.std.proofs.Common.{sym, subst}
use Rattle.bsv_schedule.specs.relating.Relations.{relating_of}
use Rattle.bsv_schedule.specs.execution_order.Answers.{IsExecutionAnswer}
use Rattle.bsv_schedule.proofs.OneExecution.{exact}
use Rattle.bsv_schedule.proofs.execution_order.order.execution.Goals as goal

pub returns-clause-exact : goal.returns-clause-exact
returns-clause-exact g c = λ answer h.
    exact (relating_of c.in_ok-relations.relations) c.order_of.result answer c.order_of.ensures.ok c.order_of.ensures.err
    (subst (λ r. IsExecutionAnswer r answer) (sym c.in_ok-relations.ensures.relating) h)
