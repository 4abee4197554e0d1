use Rattle.std.proofs.Common.{◌≡◌, length, map}
use Rattle.std.specs.Option.{option_or}
use Rattle.bsv_names.specs.Events.{joined}
use Rattle.bsv_names.specs.PackageEvents.{item_events, package_events}
use Rattle.bsv_names.specs.Faults.{first_fault}
use Rattle.bsv_names.specs.Known.{after_all}
use Rattle.bsv_names.specs.KnownSeen.{known}
use Rattle.bsv_names.proofs.names.Names.over_package.Given as goal

abbrev pub decreases-loop-item : goal.decreases-loop-item
decreases-loop-item l = length l.rest

abbrev pub invariant-loop-item : goal.invariant-loop-item
invariant-loop-item l = record {
  fault : option_or l.first (first_fault l.pass (known l.self) (joined (map item_events l.rest))) ≡ first_fault l.pass (known l.fn.self) (package_events l.«package»);
  after : after_all (known l.self) (joined (map item_events l.rest)) ≡ after_all (known l.fn.self) (package_events l.«package»);
}
