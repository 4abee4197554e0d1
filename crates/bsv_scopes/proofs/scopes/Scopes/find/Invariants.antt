use Rattle.std.proofs.Common.{◌≡◌, map, reverse, length}
use Rattle.bsv_scopes.specs.Scopes.{find_in}
use Rattle.bsv_scopes.specs.Seen.{entries, scopes}
use Rattle.bsv_scopes.proofs.scopes.Scopes.find.Given as goal

abbrev pub decreases-loop-scope : goal.decreases-loop-scope
decreases-loop-scope g l = length l.rest

abbrev pub invariant-loop-scope : goal.invariant-loop-scope
invariant-loop-scope g l = find_in l.name (reverse (map entries l.rest)) ≡ find_in l.name (scopes l.self)
