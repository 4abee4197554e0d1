use Rattle.std.proofs.Common.{◌≡◌, ◌++◌, length}
use Rattle.bsv_names.specs.PackageEvents as spec
use Rattle.bsv_names.proofs.package_events.fields_events.Given as goal

abbrev pub decreases-loop-field : goal.decreases-loop-field
decreases-loop-field l = length l.rest

abbrev pub invariant-loop-field : goal.invariant-loop-field
invariant-loop-field l = l.found ++ spec.fields_events l.rest ≡ l.fn.found ++ spec.fields_events l.fields
