use Rattle.std.proofs.Common.{◌≡◌, ◌≤◌, length}
use Rattle.bsv_elab.specs.AtHand as at_hand
use Rattle.bsv_elab.specs.Building as spec
use Rattle.bsv_elab.proofs.builder.Builder.top_methods.Given as goal

abbrev pub decreases-loop-method : goal.decreases-loop-method
decreases-loop-method l = length l.rest

abbrev pub invariant-loop-method : goal.invariant-loop-method
invariant-loop-method l = record {
  same : spec.methods_from (at_hand.here l.self) l.done l.done.grown.weight 0 l.methods ≡ spec.methods_from (at_hand.here l.self) l.done l.weight l.number l.rest;
  few : l.number ≤ 512;
}
