use Rattle.std.proofs.Common.{inl, inr, sym, ◌∙◌}
use Rattle.std.proofs.lemmas.Bool.{both_ways}
use Rattle.bsv_schedule.specs.relating.Relating.{feed_edges}
use Rattle.bsv_schedule.specs.relating.Relations.{relating_of}
use Rattle.bsv_schedule.proofs.StageLemmas.{graph_more, graph_other, acyclic_more, cycle_more}
use Rattle.bsv_schedule.proofs.execution_order.values.clashes.Goals as goal

pub returns-then-not-is_value-clause-gains : goal.returns-then-not-is_value-clause-gains
returns-then-not-is_value-clause-gains c = λ h.
    graph_other (relating_of c.args.relations.now) c.args.v (sym c.is_value.ensures ∙ c.if-not-is_value.true) c.args.graph.now c.requires.before

pub returns-in-Some-clause-clash : goal.returns-in-Some-clause-clash
returns-in-Some-clause-clash c = λ h.
    let t = sym c.is_value.ensures ∙ c.if-not-is_value.false in
    let m = c.join_value.ensures.gains _ c.requires.before in
    (t, inr (c.in-Some.field-0, cycle_more (relating_of c.args.relations.now) c.args.v t c.requires.element (feed_edges (relating_of c.args.relations.now)) c.in-Some.field-0 (c.in-Some.ensures.some _ m).cycle))

pub returns-in-None-clause-none : goal.returns-in-None-clause-none
returns-in-None-clause-none c = λ h k.
    let t = sym c.is_value.ensures ∙ c.if-not-is_value.false in
    let m = c.join_value.ensures.gains _ c.requires.before in
    elim k.1 [
      | inl n ↦ both_ways c.has_neither.result c.if-has_neither.false (c.has_neither.ensures.1 n)
      | inr w ↦ acyclic_more (relating_of c.args.relations.now) c.args.v t c.requires.element (feed_edges (relating_of c.args.relations.now)) (c.in-None.ensures.none _ m) w.0 w.1
    ]

pub returns-in-None-clause-gains : goal.returns-in-None-clause-gains
returns-in-None-clause-gains c = λ h.
    let t = sym c.is_value.ensures ∙ c.if-not-is_value.false in
    graph_more (relating_of c.args.relations.now) c.args.v t c.requires.element (feed_edges (relating_of c.args.relations.now)) c.join_value.new.graph (c.join_value.ensures.gains _ c.requires.before)
