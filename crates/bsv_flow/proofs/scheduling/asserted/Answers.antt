use Rattle.std.proofs.Common.{Err, refl, sym, ap, ◌∙◌}
use Rattle.bsv_flow.proofs.ScheduledTrees.{told_same, unasserted_implicit, unasserted_stopped}
use Rattle.bsv_flow.proofs.scheduling.asserted.Goals as goal

pub returns-in-Ok-clause-accepted : goal.returns-in-Ok-clause-accepted
returns-in-Ok-clause-accepted c = c.in-Ok.ensures.accepted.0 refl

pub returns-in_ok-refusal-in-Err-NoImplicit-clause-refused : goal.returns-in_ok-refusal-in-Err-NoImplicit-clause-refused
returns-in_ok-refusal-in-Err-NoImplicit-clause-refused c =
    let case = c.in-Err-NoImplicit in
    λ r e. unasserted_implicit c.args.design.now c.args.schedule.now case.rule case.place r
    ((case.ensures.no_implicit case.rule case.place).0 (ap Err case.field-0-is))
    (sym (told_same c.in_ok-refusal-in-Err-NoImplicit.refusal r e) ∙ c.in_ok-refusal-in-Err-NoImplicit.ensures)

pub returns-in_ok-refusal-in-Err-FireWhenEnabled-clause-refused : goal.returns-in_ok-refusal-in-Err-FireWhenEnabled-clause-refused
returns-in_ok-refusal-in-Err-FireWhenEnabled-clause-refused c =
    let case = c.in-Err-FireWhenEnabled in
    λ r e. unasserted_stopped c.args.design.now c.args.schedule.now case.rule case.element r
    ((case.ensures.fires case.rule case.element).0 (ap Err case.field-0-is))
    (sym (told_same c.in_ok-refusal-in-Err-FireWhenEnabled.refusal r e) ∙ c.in_ok-refusal-in-Err-FireWhenEnabled.ensures)
