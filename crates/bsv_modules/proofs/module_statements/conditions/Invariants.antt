use Rattle.std.proofs.Common.{◌≡◌, map, length}
use Rattle.bsv_context.specs.Seen.{shown}
use Rattle.bsv_statements.proofs.Fronts.{listed}
use Rattle.bsv_modules.specs.Modules as spec
use Rattle.bsv_modules.specs.Seen.{arm_of, site_of}
use Rattle.bsv_modules.proofs.module_statements.conditions.Given as goal

abbrev pub decreases-loop-arm : goal.decreases-loop-arm
decreases-loop-arm l = length l.rest

abbrev pub invariant-loop-arm : goal.invariant-loop-arm
invariant-loop-arm l = listed l.found.items (spec.conditions (site_of l.site) (shown l.scopes) l.span (map (arm_of (site_of l.site)) l.rest)) ≡ spec.conditions (site_of l.site) (shown l.scopes) l.span (map (arm_of (site_of l.site)) l.arms)
