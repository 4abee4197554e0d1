-- The execution order: the order in which the elements that fire in one clock take effect, one at a time (Hoe and
-- Arvind 2004, "Operation-centric hardware description and synthesis"; Bluespec reference guide, "execution_order").
use Rattle.std.specs.Prelude.{ℕ, suc, ◌<◌, ◌⊎◌, IsTrue, IsFalse, List}
use Rattle.bsv_graph.specs.declared.edge.Edge.{Edge}
use Rattle.bsv_graph.specs.Orders.{IsLeastOrder}
use Rattle.bsv_schedule.specs.relating.Relating.{Relating, feed_edges, early_edges, hard_edges, soft_edges}
use Rattle.bsv_graph.specs.Walks.{HasCycle, IsAcyclic, Keeps, NoneCloses, ClosesFirst, LeastOnCycle}

-- the least list, compared by positions, that respects the hard edges and those of the soft ones that are kept
abbrev pub ExecutionOrder : Relating → List ℕ → Type 0
ExecutionOrder r xs = (es : List Edge) × Keeps (hard_edges r) (soft_edges r) es × IsLeastOrder r.count es xs

-- some element is no value method, and neither goes before the other
abbrev pub HasNeither : Relating → ℕ → Type 0
HasNeither r v =
    (e : ℕ) × (e < r.count) × IsFalse (r.value e) × IsFalse (r.goes v e) × IsFalse (r.goes e v)

-- v is a value method with such an element, or whose hard edges of the second case close a cycle with the feeds and
-- those of the value methods before it
abbrev pub IsValueClash : Relating → ℕ → Type 0
IsValueClash r v = IsTrue (r.value v) × (HasNeither r v ⊎ HasCycle (early_edges r (suc v)))

abbrev pub NoValueClash : Relating → Type 0
NoValueClash r = (v : ℕ) → v < r.count → ¬ IsValueClash r v

pub record IsFirstValueClash (r : Relating) (v : ℕ) : Type 0 where
  pub within : v < r.count
  pub clash : IsValueClash r v
  pub earlier : (u : ℕ) → u < v → ¬ IsValueClash r u

-- Of four answers, each but the last names what is at fault, and comes only where no earlier one does.
-- The feeds have a cycle: the least element on one.
abbrev pub WireCycle : Relating → ℕ → Type 0
WireCycle r a = LeastOnCycle (feed_edges r) a

-- A value method clashes: the first.
abbrev pub ValueClash : Relating → ℕ → Type 0
ValueClash r v = IsAcyclic (feed_edges r) × IsFirstValueClash r v

-- A pair of `execution_order` closes a cycle with the hard edges of the first two cases and the earlier pairs: the
-- place of the first among these pairs.
abbrev pub ExecutionCycle : Relating → ℕ → Type 0
ExecutionCycle r k =
    IsAcyclic (feed_edges r) × NoValueClash r × ClosesFirst (early_edges r r.count) r.ordering k

-- Nothing is at fault: the execution order.
pub record Executes (r : Relating) (xs : List ℕ) : Type 0 where
  pub feeds : IsAcyclic (feed_edges r)
  pub values : NoValueClash r
  pub pairs : NoneCloses (early_edges r r.count) r.ordering
  pub order : ExecutionOrder r xs
