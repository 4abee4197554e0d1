use Rattle.std.proofs.Common.{◌≡◌, arith, ◌∙◌, add-one, append_assoc}
use Rattle.bsv_schedule.proofs.execution_order.values.join_value.Goals as goal

pub loop-e-preserved : goal.loop-e-preserved
loop-e-preserved c = (
  c.join_between.ensures.size ∙ c.loop-e.invariant.0,
  λ es m. rw (add-one, append_assoc) (c.join_between.ensures.gains _ (c.loop-e.invariant.1 es m)),
)

pub returns-clause-gains : goal.returns-clause-gains
returns-clause-gains c = λ es m.
    let e : c.loop-e.e ≡ c.count-e-end.result = omega arith in
    rw (← c.count-e-end.ensures.count, ← e) (c.loop-e.invariant.1 es m)
