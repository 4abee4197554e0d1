use Rattle.std.proofs.Common.{length}
use Rattle.bsv_serial.specs.Sights.{after_seen}
use Rattle.bsv_serial.proofs.Looking.{LeadsTo}
use Rattle.bsv_serial.proofs.looks.Sight.after_seen.Given as goal

abbrev pub invariant-loop-call : goal.invariant-loop-call
invariant-loop-call l =
    LeadsTo l.self.kind.now l.method l.part l.rest (after_seen l.self.kind.now l.method l.self.plain.now l.self.calls_made.now)

abbrev pub decreases-loop-call : goal.decreases-loop-call
decreases-loop-call l = length l.rest
