use Rattle.std.proofs.Common.{◌≡◌, length}
use Rattle.bsv_statements.specs.Bodies.{at}
use Rattle.bsv_context.specs.Seen.{shown}
use Rattle.bsv_modules.specs.Modules as spec
use Rattle.bsv_modules.proofs.params.declare_params.Given as goal

abbrev pub decreases-loop-next : goal.decreases-loop-next
decreases-loop-next l = length l.rest

abbrev pub invariant-loop-next : goal.invariant-loop-next
invariant-loop-next l = at l.span (spec.with_params l.rest (shown l.scopes)) ≡ at l.span (spec.with_params l.params (shown l.fn.scopes))
