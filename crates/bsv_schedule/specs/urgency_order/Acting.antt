-- The methods of a list that act.
use Rattle.std.specs.Prelude.{ℕ, ◌<◌, IsFalse, List}
use Rattle.bsv_graph.specs.Orders.{In}
use Rattle.bsv_schedule.specs.relating.Relating.{Relating}

-- m is an Action or ActionValue method of the list
pub record IsActionIn (r : Relating) (xs : List ℕ) (m : ℕ) : Type 0 where
  pub no_value : IsFalse (r.value m)
  pub no_rule : IsFalse (r.rule m)
  pub there : In xs m

abbrev pub NoActionIn : Relating → List ℕ → Type 0
NoActionIn r xs = (m : ℕ) → ¬ IsActionIn r xs m

pub record IsLeastActionIn (r : Relating) (xs : List ℕ) (m : ℕ) : Type 0 where
  pub action : IsActionIn r xs m
  pub lower : (k : ℕ) → k < m → ¬ IsActionIn r xs k
