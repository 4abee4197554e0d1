use Rattle.std.proofs.Common.{◌≡◌, ◌+◌, map, reverse, length}
use Rattle.bsv_scopes.specs.Scopes.{in_scope}
use Rattle.bsv_scopes.specs.Seen.{entries, scopes}
use Rattle.bsv_scopes.proofs.scopes.Scopes.count.Given as goal

abbrev pub decreases-loop-innermost : goal.decreases-loop-innermost
decreases-loop-innermost g l = length l.rest

abbrev pub invariant-loop-innermost : goal.invariant-loop-innermost
invariant-loop-innermost g l = l.count + in_scope (reverse (map entries l.rest)) ≡ in_scope (scopes l.self)
