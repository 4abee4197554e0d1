use Rattle.std.proofs.Common.{◌≡◌, ◌∙◌, rules}
use Rattle.bsv_schedule.specs.relating.Relating.{is_soft, soft_edges}
use Rattle.bsv_graph.proofs.EdgeLemmas.{where_graph}
use Rattle.bsv_schedule.specs.relating.Relations.{relating_of}
use Rattle.bsv_schedule.proofs.execution_order.order.order_of.Goals as goal

pub join_kept-requires : goal.join_kept-requires
join_kept-requires c =
    let h = c.in_ok-graph.ensures.ok in
    let r = relating_of c.args.relations.now in
    let e : c.as_slice.result.now ≡ soft_edges r = search rules in
    rw (e, h.size) (where_graph (is_soft r) r.count)

pub least_order-requires : goal.least_order-requires
least_order-requires c =
    let h = c.in_ok-graph.ensures.ok in
    c.join_kept.ensures.acyclic (_, h.graph, h.hard)

pub returns-clause-ok : goal.returns-clause-ok
returns-clause-ok c =
    let h = c.in_ok-graph.ensures.ok in
    let r = relating_of c.args.relations.now in
    let e : c.as_slice.result.now ≡ soft_edges r = search rules in
    let k = rw e at (c.join_kept.ensures.kept _ h.graph) in
    record {
      feeds = h.feeds;
      values = h.values;
      pairs = h.pairs;
      order = (k.0, k.1, rw (c.join_kept.ensures.size ∙ h.size) at (c.in_ok-least_order.ensures.least k.0 k.2));
    }
