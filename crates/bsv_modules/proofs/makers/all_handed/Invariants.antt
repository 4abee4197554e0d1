use Rattle.std.proofs.Common.{◌≡◌, length}
use Rattle.bsv_context.specs.Seen.{shown}
use Rattle.bsv_modules.specs.Modules as spec
use Rattle.bsv_modules.specs.Seen.{kinds, site_of}
use Rattle.bsv_modules.proofs.Gathered.{handed_front}
use Rattle.bsv_modules.proofs.makers.all_handed.Given as goal

abbrev pub decreases-loop-expr : goal.decreases-loop-expr
decreases-loop-expr l = length l.rest

abbrev pub invariant-loop-expr : goal.invariant-loop-expr
invariant-loop-expr l = handed_front l.found (spec.all_handed (site_of l.site) (shown l.scopes) l.rest (kinds l.left)) ≡ spec.all_handed (site_of l.site) (shown l.scopes) l.exprs (kinds l.types)
