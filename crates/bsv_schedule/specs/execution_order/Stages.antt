-- What the graph is that gains the hard edges, stage by stage.
use Rattle.std.specs.Prelude.{◌≡◌}
use Rattle.bsv_graph.specs.declared.graph.Graph.{Graph}
use Rattle.bsv_graph.specs.Graphs.{size_of, IsGraphOf}
use Rattle.bsv_schedule.specs.relating.Relating.{Relating, feed_edges, early_edges, hard_edges}
use Rattle.bsv_schedule.specs.execution_order.Orders.{NoValueClash}
use Rattle.bsv_graph.specs.Walks.{IsAcyclic, NoneCloses}

pub record HasFeeds (r : Relating) (g : Graph) : Type 0 where
  pub size : size_of g ≡ r.count
  pub graph : IsGraphOf (feed_edges r) g
  pub feeds : IsAcyclic (feed_edges r)

pub record HasEarly (r : Relating) (g : Graph) : Type 0 where
  pub size : size_of g ≡ r.count
  pub graph : IsGraphOf (early_edges r r.count) g
  pub feeds : IsAcyclic (feed_edges r)
  pub values : NoValueClash r
  pub early : IsAcyclic (early_edges r r.count)

pub record HasHard (r : Relating) (g : Graph) : Type 0 where
  pub size : size_of g ≡ r.count
  pub graph : IsGraphOf (hard_edges r) g
  pub feeds : IsAcyclic (feed_edges r)
  pub values : NoValueClash r
  pub pairs : NoneCloses (early_edges r r.count) r.ordering
  pub hard : IsAcyclic (hard_edges r)
