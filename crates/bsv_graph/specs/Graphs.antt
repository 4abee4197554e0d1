-- What a graph is that gains edges.
use Rattle.std.specs.Prelude.{ℕ, List}
use Rattle.bsv_graph.specs.declared.edge.Edge.{Edge}
use Rattle.bsv_graph.specs.declared.graph.Graph.{Graph}
use Rattle.bsv_graph.specs.Reaching.{Marks}
use Rattle.bsv_graph.specs.Table.{side_of}
use Rattle.bsv_graph.specs.Walks.{IsAcyclic}

-- the graph is on the numbers below it
abbrev pub size_of : Graph → ℕ
size_of g = side_of g.reach

-- it knows the walks over these edges, which lead between its numbers, and no others
abbrev pub IsGraphOf : List Edge → Graph → Type 0
IsGraphOf es g = Marks es g.reach

-- so it is of all edges of which it is the graph
abbrev pub ForEdges : Graph → (List Edge → Type 0) → Type 0
ForEdges g P = (es : List Edge) → IsGraphOf es g → P es

abbrev pub HasNoCycle : Graph → Type 0
HasNoCycle g = (es : List Edge) × IsGraphOf es g × IsAcyclic es
