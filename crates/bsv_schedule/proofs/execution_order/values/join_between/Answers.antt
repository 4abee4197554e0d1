use Rattle.std.proofs.Common.{sym, ◌∙◌}
use Rattle.bsv_schedule.specs.relating.Relations.{relating_of}
use Rattle.bsv_schedule.proofs.StageLemmas.{between_first, between_second}
use Rattle.bsv_schedule.proofs.execution_order.values.join_between.Goals as goal

pub returns-then-goes_before_only-clause-gains : goal.returns-then-goes_before_only-clause-gains
returns-then-goes_before_only-clause-gains c = λ es m.
    rw (between_first (relating_of c.args.relations.now) c.args.v c.args.e (sym c.is_value.ensures ∙ c.if-is_value.false) (sym c.goes_before_only.ensures ∙ c.if-goes_before_only.true)) (c.join.ensures.gains es m)

pub returns-then-goes_before_only-2-clause-gains : goal.returns-then-goes_before_only-2-clause-gains
returns-then-goes_before_only-2-clause-gains c = λ es m.
    rw (between_second (relating_of c.args.relations.now) c.args.v c.args.e (sym c.is_value.ensures ∙ c.if-is_value.false) (sym c.goes_before_only.ensures ∙ c.if-goes_before_only.false) (sym c.goes_before_only-2.ensures ∙ c.if-goes_before_only-2.true)) (c.join-then-goes_before_only-2.ensures.gains es m)
