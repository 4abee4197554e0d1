use Rattle.std.proofs.Common.{◌≡◌, length, [], ◌∷◌}
use Rattle.bsv_scopes.specs.Seen.{scopes}
use Rattle.bsv_names.specs.Untyped.{leans_from}
use Rattle.bsv_names.specs.UntypedSeen.{reached, variables}
use Rattle.bsv_names.proofs.untyped.Reach.leans.Given as goal

abbrev pub decreases-loop-event : goal.decreases-loop-event
decreases-loop-event l = length l.rest

abbrev pub invariant-loop-event : goal.invariant-loop-event
invariant-loop-event l =
    leans_from (reached l.self) (variables l.variables) (scopes l.locals) l.rest ≡ leans_from (reached l.self) (variables l.variables) ([] ∷ []) l.events
