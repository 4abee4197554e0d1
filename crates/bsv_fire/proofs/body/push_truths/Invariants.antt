use Rattle.std.proofs.Common.{◌≡◌, ◌++◌, take}
use Rattle.bsv_fire.specs.Bodies.{truths}
use Rattle.bsv_fire.proofs.body.push_truths.Given as goal

abbrev pub invariant-loop-condition : goal.invariant-loop-condition
invariant-loop-condition l = l.bits ≡ l.initial.bits ++ truths l.places (take l.condition-index l.conditions)
