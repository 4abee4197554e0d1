use Rattle.std.proofs.Common.{◌≡◌, ℕ, ◌<◌, Some}
use Rattle.std.specs.Prelude.{slice_get}
use Rattle.bsv_design.specs.declared.attributes.Assert.{Assert}
use Rattle.bsv_schedule.specs.relating.Marks.{IsMarkOf}
use Rattle.bsv_attr.proofs.marks.is_marked.Given as goal

abbrev pub invariant-loop-mark : goal.invariant-loop-mark
invariant-loop-mark l = (k : ℕ) (m : Assert) → k < l.mark-index → slice_get l.marks k ≡ Some m → ¬ IsMarkOf l.fires l.rule m
