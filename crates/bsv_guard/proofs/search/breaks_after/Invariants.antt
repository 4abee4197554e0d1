use Rattle.std.proofs.Common.{◌≡◌, ℕ, ◌<◌, ◌≤◌, true, Some}
use Rattle.std.specs.Prelude.{slice_get}
use Rattle.bsv_design.specs.declared.element.Call.{Call}
use Rattle.bsv_guard.specs.Pairs.{breaks}
use Rattle.bsv_guard.proofs.search.breaks_after.Given as goal

abbrev pub invariant-loop-method : goal.invariant-loop-method
invariant-loop-method l =
    (j : ℕ) (d : Call) → slice_get l.calls j ≡ Some d → l.earlier < j → breaks l.kinds l.one d ≡ true → l.method ≤ d.method
