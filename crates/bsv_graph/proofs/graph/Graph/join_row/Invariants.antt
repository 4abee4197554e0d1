use Rattle.std.proofs.Common.{◌≡◌, List, ◌++◌}
use Rattle.bsv_graph.specs.declared.edge.Edge.{Edge}
use Rattle.bsv_graph.specs.Edges.{numbers_below}
use Rattle.bsv_graph.specs.Reaching.{Marks}
use Rattle.bsv_graph.specs.Table.{at}
use Rattle.bsv_graph.proofs.EdgeLemmas.{passing}
use Rattle.bsv_graph.proofs.graph.Graph.join_row.Given as goal

abbrev pub invariant-loop-b : goal.invariant-loop-b
invariant-loop-b l =
    (l.self.reach.side ≡ l.initial.self.reach.side)
    × ((es : List Edge) → Marks es l.initial.self.reach → Marks (passing (at l.table) l.a (numbers_below l.b) ++ es) l.self.reach)
