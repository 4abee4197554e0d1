use Rattle.std.proofs.Common.{◌≡◌, ℕ, ◌<◌, length, Some}
use Rattle.std.specs.Prelude.{slice_get}
use Rattle.bsv_design.specs.declared.element.Call.{Call}
use Rattle.bsv_guard.specs.Groups.{StandsIn, group_of}
use Rattle.bsv_guard.proofs.groups.grouped.Given as goal

abbrev pub invariant-loop-number : goal.invariant-loop-number
invariant-loop-number l = record {
  count : length l.found.items ≡ l.count;
  all : (j : ℕ) (c : Call) → j < l.number → slice_get l.calls j ≡ Some c → StandsIn (group_of l.found.items c.part c.method) j;
}
