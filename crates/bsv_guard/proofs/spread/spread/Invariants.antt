use Rattle.std.proofs.Common.{◌≡◌, map, take}
use Rattle.bsv_guard.specs.Spread.{is_spread}
use Rattle.bsv_guard.proofs.spread.spread.Given as goal

abbrev pub invariant-loop-group : goal.invariant-loop-group
invariant-loop-group l = l.found.items ≡ map (is_spread l.calls) (take l.group-index l.groups)
