use Rattle.std.proofs.Common.{◌≡◌, drop}
use Rattle.bsv_guard.specs.Spread.{is_spread, spread_after}
use Rattle.bsv_guard.proofs.spread.is_spread.Given as goal

abbrev pub invariant-loop-number : goal.invariant-loop-number
invariant-loop-number l = is_spread l.calls l.group ≡ spread_after l.calls l.last (drop l.number-index l.rest)
