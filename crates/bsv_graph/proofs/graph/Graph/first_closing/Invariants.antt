use Rattle.std.proofs.Common.{◌≡◌, List, take, ◌++◌}
use Rattle.bsv_graph.specs.declared.edge.Edge.{Edge}
use Rattle.bsv_graph.specs.Reaching.{Marks}
use Rattle.bsv_graph.specs.Walks.{NoneCloses}
use Rattle.bsv_graph.proofs.graph.Graph.first_closing.Given as goal

abbrev pub invariant-loop-k : goal.invariant-loop-k
invariant-loop-k l =
    (l.self.reach.side ≡ l.initial.self.reach.side)
    × ((es : List Edge) → Marks es l.initial.self.reach
    → Marks (take l.k l.edges ++ es) l.self.reach × NoneCloses es (take l.k l.edges))
