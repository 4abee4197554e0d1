use Rattle.std.proofs.Common.{◌∙◌, Some, sym, ap}
use Rattle.std.specs.Prelude.{slice_get}
use Rattle.std.proofs.lemmas.Option.{slice_get-get_or}
use Rattle.bsv_graph.proofs.WalkLemmas.{none_acyclic}
use Rattle.bsv_schedule.proofs.execution_order.order.graph_with_pairs.Goals as goal

pub returns-in-Some-clause-err : goal.returns-in-Some-clause-err
returns-in-Some-clause-err c =
    let h = c.in_ok-graph.ensures.ok in
    let e = c.ordering-pairs.ensures.ordering in (
      c.in-Some.k,
      (h.feeds, h.values, rw e at (c.in-Some.ensures.some _ h.graph)),
      record {
        attribute = c.ordering_pair.ensures.attribute;
        edge = ap (λ es. slice_get es c.in-Some.k) (sym e)
            ∙ (slice_get-get_or c.ordering-pairs.result.now c.in-Some.k _ c.in-Some.ensures.within ∙ ap Some (sym c.ordering_pair.ensures.edge));
      },
    )

pub returns-in-None-clause-ok : goal.returns-in-None-clause-ok
returns-in-None-clause-ok c =
    let h = c.in_ok-graph.ensures.ok in
    let e = c.ordering-pairs.ensures.ordering in
    let n = rw e at (c.in-None.ensures.none _ h.graph) in
    record {
      size = c.in-None.ensures.size ∙ h.size;
      graph = rw e at (c.in-None.ensures.all _ h.graph);
      feeds = h.feeds;
      values = h.values;
      pairs = n;
      hard = none_acyclic _ _ h.early n;
    }
