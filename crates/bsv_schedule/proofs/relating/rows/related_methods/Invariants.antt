use Rattle.std.proofs.Common.{◌≡◌, ℕ, ◌<◌, length}
use Rattle.bsv_schedule.specs.relating.Related.{related_by}
use Rattle.bsv_schedule.specs.relating.Rows.{mark}
use Rattle.bsv_schedule.proofs.relating.rows.related_methods.Given as goal

abbrev pub invariant-loop-method : goal.invariant-loop-method
invariant-loop-method l = record {
  count : length l.noted.items ≡ l.method;
  each : (m : ℕ) → m < l.method → mark l.noted.items m ≡ related_by l.relation l.kind l.first m;
}
