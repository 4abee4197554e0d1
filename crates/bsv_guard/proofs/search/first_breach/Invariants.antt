use Rattle.std.proofs.Common.{◌≡◌, ℕ, ◌<◌, Some}
use Rattle.std.specs.Prelude.{slice_get}
use Rattle.bsv_design.specs.declared.element.Call.{Call}
use Rattle.bsv_guard.specs.Pairs.{NoneAfter}
use Rattle.bsv_guard.proofs.search.first_breach.Given as goal

abbrev pub invariant-loop-earlier : goal.invariant-loop-earlier
invariant-loop-earlier l = (i : ℕ) (c : Call) → i < l.earlier → slice_get l.calls i ≡ Some c → NoneAfter l.kinds l.calls i c
