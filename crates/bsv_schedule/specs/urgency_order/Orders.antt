-- The urgency order: which of two elements that may not fire in one clock has the precedence (Bluespec reference guide,
-- "descending_urgency" and "preempts").
use Rattle.std.specs.Prelude.{◌≡◌, ℕ, ◌<◌, IsTrue, IsFalse, List, ◌∷◌, ◌++◌}
use Rattle.bsv_graph.specs.declared.edge.Edge.{Edge}
use Rattle.bsv_graph.specs.Orders.{In, IsBefore, IsLeastOrder}
use Rattle.bsv_schedule.specs.relating.Relating.{Relating, feed_edges}
use Rattle.bsv_graph.specs.Walks.{NoneCloses, ClosesFirst}

abbrev pub urgency_edges : Relating → List Edge
urgency_edges r = r.urging ++ feed_edges r

-- the least list, compared by positions, that respects the feeds and the pairs of `descending_urgency` and `preempts`
abbrev pub UrgencyOrder : Relating → List ℕ → Type 0
UrgencyOrder r xs = IsLeastOrder r.count (urgency_edges r) xs

-- m is an Action or ActionValue method that comes after a rule
pub record IsBehindRule (r : Relating) (xs : List ℕ) (m : ℕ) : Type 0 where
  pub no_value : IsFalse (r.value m)
  pub no_rule : IsFalse (r.rule m)
  pub behind : (q : ℕ) × IsTrue (r.rule q) × IsBefore xs q m

abbrev pub NoneBehindRule : Relating → List ℕ → Type 0
NoneBehindRule r xs = (m : ℕ) → ¬ IsBehindRule r xs m

-- m is the least such method
pub record IsLeastBehindRule (r : Relating) (xs : List ℕ) (m : ℕ) : Type 0 where
  pub behind : IsBehindRule r xs m
  pub lower : (k : ℕ) → k < m → ¬ IsBehindRule r xs k

-- q is the first rule of the list
pub record IsFirstRule (r : Relating) (xs : List ℕ) (q : ℕ) : Type 0 where
  pub before : List ℕ
  pub behind : List ℕ
  pub split : xs ≡ before ++ (q ∷ behind)
  pub rule : IsTrue (r.rule q)
  pub earlier : (p : ℕ) → In before p → IsFalse (r.rule p)

-- Of three answers, each but the last names what is at fault, and comes only where no earlier one does.
-- A pair closes a cycle with the feeds and the earlier pairs: the place of the first among these pairs.
abbrev pub UrgencyCycle : Relating → ℕ → Type 0
UrgencyCycle r k = ClosesFirst (feed_edges r) r.urging k

-- A method comes after a rule: the least such method, and the first rule.
pub record MethodBehindRule (r : Relating) (m q : ℕ) : Type 0 where
  pub pairs : NoneCloses (feed_edges r) r.urging
  pub order : List ℕ
  pub least : UrgencyOrder r order
  pub method : IsLeastBehindRule r order m
  pub rule : IsFirstRule r order q

-- Nothing is at fault: the urgency order.
pub record Urges (r : Relating) (xs : List ℕ) : Type 0 where
  pub pairs : NoneCloses (feed_edges r) r.urging
  pub order : UrgencyOrder r xs
  pub methods : NoneBehindRule r xs
