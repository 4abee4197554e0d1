-- How the elements of a design relate, and the edges that order them. An element is known by its position: a number
-- below the count. "Goes before" is sequential composability (Hoe and Arvind 2004, "Operation-centric hardware
-- description and synthesis"): the first may take effect before the second where both fire in one clock. The pairs are
-- those of the attributes of the Bluespec reference guide, "Scheduling attributes".
use Rattle.std.specs.Prelude.{ℕ, Bool, ◌&&◌, ◌||◌, not, nat_lt, if◌then◌else◌, IsTrue, List, ◌++◌}
use Rattle.bsv_graph.specs.declared.edge.Edge.{Edge}
use Rattle.bsv_graph.specs.Edges.{AllBelow, edges_where}
use Rattle.bsv_graph.specs.Walks.{HasEdge}

-- what the two orders are made from
pub record Relating : Type 0 where
  -- how many elements there are
  pub count : ℕ
  -- a goes before b: each call of a may come before each call of b on the same instance
  pub goes : ℕ → ℕ → Bool
  -- a feeds b: a call of a is seen by a call of b in the same clock
  pub feeds : ℕ → ℕ → Bool
  -- which elements are value methods, and which are rules; the others are Action and ActionValue methods
  pub value : ℕ → Bool
  pub rule : ℕ → Bool
  -- `execution_order` has a directly before b: its pairs in the order of the text
  pub ordering : List Edge
  -- `descending_urgency` has a directly before b, or `preempts` has a on the left and b on the right: the pairs of both
  -- in the order of the text
  pub urging : List Edge
  -- `preempts` has a on the left and b on the right
  pub preempts : ℕ → ℕ → Bool

-- the attributes name elements, and the pairs of `preempts` are among those of urgency
pub record Agrees (r : Relating) : Type 0 where
  pub ordering : AllBelow r.count r.ordering
  pub urging : AllBelow r.count r.urging
  pub preempts : (a b : ℕ) → IsTrue (r.preempts a b) → HasEdge r.urging a b

-- a goes before b, and b does not go before a
abbrev pub goes_only : Relating → ℕ → ℕ → Bool
goes_only r a b = r.goes a b && not (r.goes b a)

-- exactly one of the two is a value method
abbrev pub is_one_value : Relating → ℕ → ℕ → Bool
is_one_value r a b = (r.value a && not (r.value b)) || (not (r.value a) && r.value b)

-- that one
abbrev pub value_of : Relating → ℕ → ℕ → ℕ
value_of r a b = if r.value a then a else b

-- Hard edges lead from a to b in three cases. First, a feeds b.
abbrev pub feed_edges : Relating → List Edge
feed_edges r = edges_where r.count r.feeds

-- Second, exactly one of the two is a value method, a goes before b, and b does not go before a: here those of the value
-- methods below k.
abbrev pub is_value_edge : Relating → ℕ → ℕ → ℕ → Bool
is_value_edge r k a b = (is_one_value r a b && goes_only r a b) && nat_lt (value_of r a b) k

abbrev pub value_edges : Relating → ℕ → List Edge
value_edges r k = edges_where r.count (is_value_edge r k)

-- those of the first two cases, of the value methods below k
abbrev pub early_edges : Relating → ℕ → List Edge
early_edges r k = value_edges r k ++ feed_edges r

-- Third, an `execution_order` has a directly before b.
abbrev pub hard_edges : Relating → List Edge
hard_edges r = r.ordering ++ early_edges r r.count

-- Soft edges lead from a to b where neither is a value method, a goes before b, and b does not go before a. They are
-- taken by the position of a, then by that of b.
abbrev pub is_soft : Relating → ℕ → ℕ → Bool
is_soft r a b = (not (r.value a) && not (r.value b)) && goes_only r a b

abbrev pub soft_edges : Relating → List Edge
soft_edges r = edges_where r.count (is_soft r)
