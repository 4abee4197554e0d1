use Rattle.std.proofs.Common.{◌≡◌, ◌++◌}
use Rattle.bsv_graph.specs.Graphs.{size_of, IsGraphOf, ForEdges}
use Rattle.bsv_schedule.specs.execution_order.Between.{edges_between}
use Rattle.bsv_schedule.specs.relating.Relations.{relating_of}
use Rattle.bsv_schedule.proofs.execution_order.values.join_value.Given as goal

abbrev pub invariant-loop-e : goal.invariant-loop-e
invariant-loop-e l =
    (size_of l.graph ≡ size_of l.initial.graph)
    × ForEdges l.initial.graph (λ es. IsGraphOf (edges_between (relating_of l.relations) l.v l.e ++ es) l.graph)
