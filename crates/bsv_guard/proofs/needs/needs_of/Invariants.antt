use Rattle.std.proofs.Common.{◌≡◌, ◌++◌, drop}
use Rattle.bsv_design.specs.design.Guards.{needs_from}
use Rattle.bsv_guard.proofs.needs.needs_of.Given as goal

abbrev pub invariant-loop-number : goal.invariant-loop-number
invariant-loop-number l = needs_from l.kinds 0 l.calls ≡ l.needs ++ needs_from l.kinds l.number (drop l.number l.calls)
