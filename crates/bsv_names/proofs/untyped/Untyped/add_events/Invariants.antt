use Rattle.std.proofs.Common.{◌≡◌, length}
use Rattle.bsv_names.specs.Untyped.{with_untyped}
use Rattle.bsv_names.specs.UntypedSeen.{untyped}
use Rattle.bsv_names.proofs.untyped.Untyped.add_events.Given as goal

abbrev pub decreases-loop-event : goal.decreases-loop-event
decreases-loop-event l = length l.rest

abbrev pub invariant-loop-event : goal.invariant-loop-event
invariant-loop-event l = with_untyped l.rest (untyped l.self) ≡ with_untyped l.events (untyped l.fn.self)
