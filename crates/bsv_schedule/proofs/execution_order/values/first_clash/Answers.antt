use Rattle.std.proofs.Common.{◌≡◌, refl, arith, add-one, ◌∙◌}
use Rattle.bsv_schedule.specs.relating.Relations.{relating_of}
use Rattle.bsv_schedule.proofs.ValueLemmas.{acyclic_zero, acyclic_next}
use Rattle.bsv_schedule.proofs.StageLemmas.{graph_zero, clash_next}
use Rattle.bsv_schedule.proofs.execution_order.values.first_clash.Goals as goal

pub loop-v-init : goal.loop-v-init
loop-v-init c = record {
  size = refl;
  graph = graph_zero (relating_of c.args.relations.now) c.args.graph.now c.requires.feeds.graph;
  none = λ u h k. absurd (omega arith);
  acyclic = acyclic_zero (relating_of c.args.relations.now) c.requires.feeds.feeds;
}

pub loop-v-preserved : goal.loop-v-preserved
loop-v-preserved c =
    let r = relating_of c.args.relations.now in
    let n = c.clashes.ensures.none c.if-clashes.false in
    record {
      size = c.clashes.ensures.size ∙ c.loop-v.invariant.size;
      graph = rw add-one (c.clashes.ensures.gains c.if-clashes.false);
      none = clash_next r c.loop-v.v c.loop-v.invariant.none n;
      acyclic = rw add-one (acyclic_next r c.loop-v.v c.loop-v.invariant.acyclic n);
    }

pub returns-clause-none : goal.returns-clause-none
returns-clause-none c =
    let e : c.loop-v.v ≡ c.count-v-end.result = omega arith in
    let p = e ∙ c.count-v-end.ensures.count in
    record {
      size = c.loop-v.invariant.size ∙ c.requires.feeds.size;
      graph = rw p at c.loop-v.invariant.graph;
      feeds = c.requires.feeds.feeds;
      values = λ v h. c.loop-v.invariant.none v (omega (arith, p, h));
      early = rw p at c.loop-v.invariant.acyclic;
    }
