-- Room for what is told of a clock.
use Rattle.std.specs.Prelude.{◌≤◌, ℕ, vec_capacity}
use Rattle.bsv_design.specs.declared.fired.Fired.{Fired}

-- each list has room for so many
pub record HasRoom (n : ℕ) (f : Fired) : Type 0 where
  pub list : n ≤ vec_capacity f.list
  pub stopped : n ≤ vec_capacity f.stopped
  pub blocked : n ≤ vec_capacity f.blocked
  pub results : n ≤ vec_capacity f.results
