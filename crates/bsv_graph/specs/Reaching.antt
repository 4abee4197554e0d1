-- Where the walks of a graph lead, as a table of marks.
use Rattle.std.specs.Prelude.{ℕ, ◌<◌, IsTrue, List}
use Rattle.bsv_graph.specs.declared.edge.Edge.{Edge}
use Rattle.bsv_graph.specs.declared.table.Table.{Table}
use Rattle.bsv_graph.specs.Table.{side_of, at}
use Rattle.bsv_graph.specs.Walks.{HasEdge, Walk}

-- the edges lead between numbers below n
abbrev pub AreWithin : ℕ → List Edge → Type 0
AreWithin n es = (a b : ℕ) → HasEdge es a b → (a < n) × (b < n)

-- the graph is on the numbers below the side, and the table marks the pairs of which a walk leads from the first to the
-- second, and no others
pub record Marks (es : List Edge) (t : Table) : Type 0 where
  pub within : AreWithin (side_of t) es
  pub marked : (a b : ℕ) → Walk es a b → IsTrue (at t a b)
  pub walk : (a b : ℕ) → a < side_of t → b < side_of t → IsTrue (at t a b) → Walk es a b
