use Rattle.std.proofs.Common.{◌≡◌, ◌++◌, length}
use Rattle.bsv_names.specs.PackageEvents as spec
use Rattle.bsv_names.proofs.package_events.headers_events.Given as goal

abbrev pub decreases-loop-header : goal.decreases-loop-header
decreases-loop-header l = length l.rest

abbrev pub invariant-loop-header : goal.invariant-loop-header
invariant-loop-header l = l.found ++ spec.headers_events l.rest ≡ l.fn.found ++ spec.headers_events l.headers
