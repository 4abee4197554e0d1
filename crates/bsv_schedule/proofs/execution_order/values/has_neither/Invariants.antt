use Rattle.std.proofs.Common.{ℕ, ◌<◌}
use Rattle.std.specs.Prelude.{IsFalse}
use Rattle.bsv_schedule.specs.relating.Relations.{relating_of}
use Rattle.bsv_schedule.proofs.execution_order.values.has_neither.Given as goal

abbrev pub invariant-loop-e : goal.invariant-loop-e
invariant-loop-e l = (k : ℕ) → k < l.e → ¬ (IsFalse ((relating_of l.relations).value k) × IsFalse ((relating_of l.relations).goes l.v k) × IsFalse ((relating_of l.relations).goes k l.v))
