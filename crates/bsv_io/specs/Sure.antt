-- Sources and sinks that never fail.
use Rattle.std.specs.Prelude.{◌≡◌, ◌≢◌, ℕ}
use Rattle.bsv_io.specs.Faults.{last_count}

-- no fault came between two looks at a count: it did not rise, and it can rise still
pub record NoFault (old new : ℕ) : Type 0 where
  pub same : new ≡ old
  pub not_last : new ≢ last_count
