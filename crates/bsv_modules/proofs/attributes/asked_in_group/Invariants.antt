use Rattle.std.proofs.Common.{◌≡◌, length}
use Rattle.bsv_statements.proofs.Fronts.{listed}
use Rattle.bsv_modules.specs.Modules as spec
use Rattle.bsv_modules.proofs.attributes.asked_in_group.Given as goal

abbrev pub decreases-loop-written : goal.decreases-loop-written
decreases-loop-written l = length l.rest

abbrev pub invariant-loop-written : goal.invariant-loop-written
invariant-loop-written l = listed l.found (spec.asked_by l.span l.owner l.rest) ≡ spec.asked_by l.span l.owner l.attributes
