use Rattle.std.proofs.Common.{◌≡◌, length}
use Rattle.bsv_statements.proofs.Fronts.{listed}
use Rattle.bsv_modules.specs.Modules as spec
use Rattle.bsv_modules.proofs.attributes.asked.Given as goal

abbrev pub decreases-loop-group : goal.decreases-loop-group
decreases-loop-group l = length l.rest

abbrev pub invariant-loop-group : goal.invariant-loop-group
invariant-loop-group l = listed l.found (spec.asked l.span l.owner l.rest) ≡ spec.asked l.span l.owner l.groups
