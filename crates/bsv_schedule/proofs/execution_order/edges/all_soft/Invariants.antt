use Rattle.std.proofs.Common.{◌≡◌}
use Rattle.std.specs.List.{flat_map}
use Rattle.bsv_graph.specs.Edges.{edges_from, numbers_below}
use Rattle.bsv_schedule.specs.relating.Relating.{is_soft}
use Rattle.bsv_schedule.specs.relating.Relations.{relating_of}
use Rattle.bsv_schedule.proofs.execution_order.edges.all_soft.Given as goal

abbrev pub invariant-loop-a : goal.invariant-loop-a
invariant-loop-a l =
    l.edges ≡ flat_map (edges_from (is_soft (relating_of l.relations)) (relating_of l.relations).count) (numbers_below l.a)
