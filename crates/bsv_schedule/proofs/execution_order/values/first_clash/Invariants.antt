use Rattle.std.proofs.Common.{◌≡◌, ℕ, ◌<◌}
use Rattle.bsv_graph.specs.Graphs.{size_of, IsGraphOf}
use Rattle.bsv_schedule.specs.execution_order.Orders.{IsValueClash}
use Rattle.bsv_schedule.specs.relating.Relating.{early_edges}
use Rattle.bsv_graph.specs.Walks.{IsAcyclic}
use Rattle.bsv_schedule.specs.relating.Relations.{relating_of}
use Rattle.bsv_schedule.proofs.execution_order.values.first_clash.Given as goal

abbrev pub invariant-loop-v : goal.invariant-loop-v
invariant-loop-v l = record {
  size : size_of l.graph ≡ size_of l.initial.graph;
  graph : IsGraphOf (early_edges (relating_of l.relations) l.v) l.graph;
  none : (u : ℕ) → u < l.v → ¬ IsValueClash (relating_of l.relations) u;
  acyclic : IsAcyclic (early_edges (relating_of l.relations) l.v);
}
