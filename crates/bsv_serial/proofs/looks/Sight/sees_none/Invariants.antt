use Rattle.std.proofs.Common.{◌≡◌, length}
use Rattle.bsv_serial.specs.Sights.{AreMethods, sees_none}
use Rattle.bsv_serial.proofs.looks.Sight.sees_none.Given as goal

abbrev pub invariant-loop-call : goal.invariant-loop-call
invariant-loop-call l = record {
  methods : AreMethods l.self.kind.now l.rest;
  rest : sees_none l.self.kind.now l.method l.rest ≡ sees_none l.self.kind.now l.method l.self.calls_made.now;
}

abbrev pub decreases-loop-call : goal.decreases-loop-call
decreases-loop-call l = length l.rest
