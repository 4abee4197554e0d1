-- The graph from which the urgency order is read.
use Rattle.std.specs.Prelude.{◌≡◌}
use Rattle.bsv_graph.specs.declared.graph.Graph.{Graph}
use Rattle.bsv_graph.specs.Graphs.{size_of, IsGraphOf}
use Rattle.bsv_schedule.specs.relating.Relating.{Relating, feed_edges}
use Rattle.bsv_schedule.specs.urgency_order.Orders.{urgency_edges}
use Rattle.bsv_graph.specs.Walks.{IsAcyclic, NoneCloses}

-- it has the feeds and the pairs, of which none closes a cycle
pub record HasUrging (r : Relating) (g : Graph) : Type 0 where
  pub size : size_of g ≡ r.count
  pub graph : IsGraphOf (urgency_edges r) g
  pub pairs : NoneCloses (feed_edges r) r.urging
  pub urging : IsAcyclic (urgency_edges r)
