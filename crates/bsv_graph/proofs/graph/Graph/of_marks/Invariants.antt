use Rattle.std.proofs.Common.{◌≡◌, ◌-◌}
use Rattle.bsv_graph.specs.Edges.{edges_where}
use Rattle.bsv_graph.specs.Reaching.{Marks}
use Rattle.bsv_graph.specs.Table.{side_of, at}
use Rattle.bsv_graph.proofs.MarkedLemmas.{from_row}
use Rattle.bsv_graph.proofs.graph.Graph.of_marks.Given as goal

abbrev pub invariant-loop-done : goal.invariant-loop-done
invariant-loop-done l =
    (l.graph.reach.side ≡ side_of l.table)
    × Marks (edges_where (side_of l.table) (from_row (at l.table) (side_of l.table - l.done))) l.graph.reach
