use Rattle.std.proofs.Common.{ap, sym, subst, ◌∙◌}
use Rattle.bsv_schedule.specs.relating.Elements.{is_urging, edges_of}
use Rattle.bsv_schedule.specs.relating.Relating.{Relating}
use Rattle.bsv_schedule.specs.relating.Relations.{relating_of}
use Rattle.bsv_schedule.specs.urgency_order.Answers.{IsUrgencyAnswer}
use Rattle.bsv_schedule.proofs.OneUrgency.{exact}
use Rattle.bsv_schedule.proofs.UrgencyLemmas.{urging_of}
use Rattle.bsv_schedule.proofs.urgency_order.order.urgency.Goals as goal

pub order_of-requires-clause-pairs : goal.order_of-requires-clause-pairs
order_of-requires-clause-pairs c =
    ap (λ (r : Relating). r.urging) c.in_ok-relations.ensures.relating
    ∙ (urging_of c.args.design.now ∙ ap (λ ps. edges_of is_urging ps) (sym c.as_slice.ensures))

pub returns-clause-exact : goal.returns-clause-exact
returns-clause-exact c = λ answer h.
    let pairs = c.as_slice.ensures in
    exact (relating_of c.in_ok-relations.relations) c.args.design.now.pairs c.order_of.result answer c.order_of.ensures.ok
    (rw pairs at c.order_of.ensures.err) (subst (λ r. IsUrgencyAnswer r c.args.design.now.pairs answer) (sym c.in_ok-relations.ensures.relating) h)
