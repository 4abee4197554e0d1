use Rattle.std.proofs.Common.{◌≡◌, ◌++◌, length}
use Rattle.bsv_names.specs.PackageEvents as spec
use Rattle.bsv_names.proofs.package_events.label_events.Given as goal

abbrev pub decreases-loop-label : goal.decreases-loop-label
decreases-loop-label l = length l.rest

abbrev pub invariant-loop-label : goal.invariant-loop-label
invariant-loop-label l = l.found ++ spec.label_events l.rest ≡ l.fn.found ++ spec.label_events l.labels
