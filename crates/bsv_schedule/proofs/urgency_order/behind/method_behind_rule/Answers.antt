use Rattle.std.proofs.Common.{sym, ◌∙◌}
use Rattle.std.proofs.lemmas.List.{take_all}
use Rattle.bsv_schedule.specs.relating.Relations.{relating_of}
use Rattle.bsv_schedule.proofs.BehindLemmas.{slice_rest, first_rule, least_after, none_after, none_at_all, rules_more}
use Rattle.bsv_schedule.proofs.urgency_order.behind.method_behind_rule.Goals as goal

pub returns-in-Some-clause-method : goal.returns-in-Some-clause-method
returns-in-Some-clause-method c =
    let k = c.loop-place.place in
    let xs = c.args.order.now in
    let rule = sym c.is_rule.ensures ∙ c.if-is_rule.true in
    let e = slice_rest c.args.order.now c.loop-place.place in
    least_after (relating_of c.args.relations.now) xs k 0 c.loop-place-test.true rule c.loop-place.invariant
    c.in-Some.method (rw e at c.in-Some.ensures.some)

pub returns-in-Some-clause-rule : goal.returns-in-Some-clause-rule
returns-in-Some-clause-rule c =
    let k = c.loop-place.place in
    let xs = c.args.order.now in
    let rule = sym c.is_rule.ensures ∙ c.if-is_rule.true in
    first_rule (relating_of c.args.relations.now) xs k 0 c.loop-place-test.true rule c.loop-place.invariant

pub returns-in-None-clause-none : goal.returns-in-None-clause-none
returns-in-None-clause-none c =
    let k = c.loop-place.place in
    let xs = c.args.order.now in
    let rule = sym c.is_rule.ensures ∙ c.if-is_rule.true in
    let e = slice_rest c.args.order.now c.loop-place.place in
    none_after (relating_of c.args.relations.now) xs k 0 c.loop-place-test.true rule c.loop-place.invariant
    (rw e at c.in-None.ensures.none)

pub loop-place-preserved : goal.loop-place-preserved
loop-place-preserved c =
    let k = c.loop-place.place in
    let xs = c.args.order.now in
    let other = sym c.is_rule.ensures ∙ c.if-is_rule.false in
    rules_more (relating_of c.args.relations.now) xs k _ c.loop-place-test.true c.loop-place.invariant other

pub returns-clause-none : goal.returns-clause-none
returns-clause-none c =
    let none = rw (take_all c.loop-place.place c.args.order.now c.loop-place-test.false) at c.loop-place.invariant in
    none_at_all (relating_of c.args.relations.now) c.args.order.now none
