use Rattle.std.proofs.Common.{◌≡◌, length}
use Rattle.bsv_serial.specs.Applying.{CanTake, behind}
use Rattle.bsv_serial.proofs.parts.apply.Given as goal

abbrev pub invariant-loop-call : goal.invariant-loop-call
invariant-loop-call l = record {
  take : CanTake l.kind l.part l.rest;
  ends : behind l.kind l.part l.rest ≡ behind l.kind l.initial.part l.calls;
}

abbrev pub decreases-loop-call : goal.decreases-loop-call
decreases-loop-call l = length l.rest
