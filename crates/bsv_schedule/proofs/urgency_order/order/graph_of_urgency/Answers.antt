use Rattle.std.proofs.Common.{◌<◌, length, arith, ◌∙◌}
use Rattle.bsv_graph.proofs.WalkLemmas.{none_acyclic}
use Rattle.bsv_schedule.proofs.UrgencyLemmas.{as_many}
use Rattle.bsv_schedule.proofs.urgency_order.order.graph_of_urgency.Goals as goal

pub cycle_at-requires : goal.cycle_at-requires
cycle_at-requires c =
    let p = c.urging.ensures.urging in
    let l : c.in-Some.place < length c.urging.result.now = c.in-Some.ensures.within in
    omega (arith, l, as_many c.args.pairs.now c.urging.result.now (p ∙ c.requires.pairs))

pub returns-in-Some-clause-err : goal.returns-in-Some-clause-err
returns-in-Some-clause-err c =
    let p = c.urging.ensures.urging in
    let h = c.cycle_at.ensures in
    rw h.2 (c.in-Some.place, rw p at (c.in-Some.ensures.some _ c.in_ok-graph.ensures.edges), h.1)

pub returns-in-None-clause-ok : goal.returns-in-None-clause-ok
returns-in-None-clause-ok c =
    let p = c.urging.ensures.urging in
    let m = c.in_ok-graph.ensures.edges in
    let n = rw p at (c.in-None.ensures.none _ m) in
    record {
      size = c.in-None.ensures.size ∙ c.in_ok-graph.ensures.size;
      graph = rw p at (c.in-None.ensures.all _ m);
      pairs = n;
      urging = none_acyclic _ _ c.requires.feeds n;
    }
