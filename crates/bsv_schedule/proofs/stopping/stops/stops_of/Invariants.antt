use Rattle.std.proofs.Common.{◌≡◌, ◌<◌, ℕ, List, length}
use Rattle.std.specs.Prelude.{slice_get, Some}
use Rattle.bsv_schedule.specs.relating.Relations.{relating_of}
use Rattle.bsv_schedule.specs.stopping.Stops.{Picks, Stops}
use Rattle.bsv_schedule.proofs.stopping.stops.stops_of.Given as goal

abbrev pub invariant-loop-a : goal.invariant-loop-a
invariant-loop-a l = record {
  size : length l.lists ≡ l.a;
  each : (k : ℕ) → k < l.a → (xs : List ℕ) × (slice_get l.lists k ≡ Some xs)
      × Picks (Stops (relating_of l.relations) l.execution l.urgency k) l.urgency xs;
}
