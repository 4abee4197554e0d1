use Rattle.std.proofs.Common.{◌≡◌, length}
use Rattle.std.specs.Option.{option_or}
use Rattle.bsv_names.specs.Faults.{first_fault}
use Rattle.bsv_names.specs.Known.{after_all}
use Rattle.bsv_names.specs.KnownSeen.{known}
use Rattle.bsv_names.proofs.names.Names.over_events.Given as goal

abbrev pub decreases-loop-event : goal.decreases-loop-event
decreases-loop-event l = length l.rest

abbrev pub invariant-loop-event : goal.invariant-loop-event
invariant-loop-event l = record {
  fault : option_or l.first (first_fault l.pass (known l.self) l.rest) ≡ first_fault l.pass (known l.fn.self) l.events;
  after : after_all (known l.self) l.rest ≡ after_all (known l.fn.self) l.events;
}
