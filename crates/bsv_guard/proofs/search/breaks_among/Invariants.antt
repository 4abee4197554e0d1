use Rattle.std.proofs.Common.{◌≡◌, ℕ, ◌<◌, true, get_or, Some}
use Rattle.std.specs.Prelude.{slice_get}
use Rattle.bsv_design.specs.declared.element.Call.{Call}
use Rattle.bsv_guard.specs.Pairs.{breaks}
use Rattle.bsv_guard.proofs.search.breaks_among.Given as goal

abbrev pub invariant-loop-later : goal.invariant-loop-later
invariant-loop-later l =
    (k : ℕ) → k < l.later-index → (d : Call) → slice_get l.calls (get_or l.group k 0) ≡ Some d → l.earlier < get_or l.group k 0 → breaks l.kinds l.one d ≡ true → ⊥
