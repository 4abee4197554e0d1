use Rattle.std.proofs.Common.{refl, subst, ℕ}
use Rattle.bsv_graph.specs.Orders.{In}
use Rattle.bsv_graph.proofs.LeastLemmas.{in_read}
use Rattle.bsv_schedule.proofs.BehindLemmas.{not_in_more}
use Rattle.bsv_schedule.proofs.urgency_order.behind.is_in.Goals as goal

pub returns-then-item-number : goal.returns-then-item-number
returns-then-item-number c = (
  λ h. subst (λ (k : ℕ). In c.args.list.now k) c.if-item-number.true (in_read c.args.list.now c.loop-item.item-index 0 c.loop-item-test.true),
  λ h. refl,
)

pub loop-item-preserved : goal.loop-item-preserved
loop-item-preserved c = not_in_more c.args.list.now c.loop-item.item-index 0 c.args.number c.loop-item-test.true c.loop-item.invariant c.if-item-number.false
