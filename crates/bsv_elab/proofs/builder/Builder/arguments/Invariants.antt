use Rattle.std.proofs.Common.{◌≡◌, drop}
use Rattle.bsv_elab.specs.AtHand as at_hand
use Rattle.bsv_elab.specs.Making as spec
use Rattle.bsv_elab.proofs.builder.Builder.arguments.Given as goal

abbrev pub invariant-loop-argument : goal.invariant-loop-argument
invariant-loop-argument l = spec.arguments (at_hand.here l.self) l.arguments l.fn.state ≡ spec.arguments_from (at_hand.here l.self) l.found (drop l.argument-index l.arguments) l.state
