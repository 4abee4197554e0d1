use Rattle.std.proofs.Common.{◌≡◌, ◌+◌, ◌*◌, ◌≤◌, [], length, map}
use Rattle.bsv_tree.specs.declared.steps.Choice.{out-Choice}
use Rattle.bsv_body.specs.AtHand as spec
use Rattle.bsv_body.specs.Flat as flat
use Rattle.bsv_body.proofs.Sizes.{step_size, arm_size, choice_size, steps_size, arms_size}
use Rattle.bsv_body.proofs.flattener.Flattener.+flat.Given as goal

-- ---- the size of what is laid out, then the rank of the function

abbrev pub decreases-step : goal.decreases-step
decreases-step l = 16 * step_size l.step.now

abbrev pub decreases-steps : goal.decreases-steps
decreases-steps l = 16 * steps_size l.list.now + 1

abbrev pub decreases-called : goal.decreases-called
decreases-called l = 16 * steps_size l.inner.now + 2

abbrev pub decreases-read : goal.decreases-read
decreases-read l = 16 * steps_size l.inner.now + 3

abbrev pub decreases-act : goal.decreases-act
decreases-act l = 16 * steps_size l.inner.now + 3

abbrev pub decreases-need : goal.decreases-need
decreases-need l = 16 * steps_size l.inner.now + 2

abbrev pub decreases-giving : goal.decreases-giving
decreases-giving l = 16 * steps_size l.steps.now + 2

abbrev pub decreases-tested : goal.decreases-tested
decreases-tested l = 16 * arm_size l.arm.now + 1

abbrev pub decreases-body_in : goal.decreases-body_in
decreases-body_in l = 16 * arm_size l.arm.now

abbrev pub decreases-nested_body : goal.decreases-nested_body
decreases-nested_body l = 16 * arm_size l.arm.now + 1

abbrev pub decreases-head : goal.decreases-head
decreases-head l = 16 * arm_size l.arm.now + 2

abbrev pub decreases-nest : goal.decreases-nest
decreases-nest l = 16 * arm_size l.arm.now + 2

abbrev pub decreases-heads : goal.decreases-heads
decreases-heads l = 16 * arms_size l.arms.now + 3

abbrev pub decreases-last : goal.decreases-last
decreases-last l = 16 * steps_size (out-Choice l.choice.now).last + 3

abbrev pub decreases-last_after : goal.decreases-last_after
decreases-last_after l = 16 * steps_size (out-Choice l.choice.now).last + 4

abbrev pub decreases-nests : goal.decreases-nests
decreases-nests l = 16 * arms_size l.arms.now + 3

abbrev pub decreases-arms : goal.decreases-arms
decreases-arms l = 16 * choice_size l.choice.now + 5

abbrev pub decreases-nested : goal.decreases-nested
decreases-nested l = 16 * choice_size l.choice.now + 4

abbrev pub decreases-choose : goal.decreases-choose
decreases-choose l = 16 * choice_size l.choice.now + 6

-- ---- loops

abbrev pub decreases-steps-loop-step : goal.decreases-steps-loop-step
decreases-steps-loop-step l = length l.rest

abbrev pub invariant-steps-loop-step : goal.invariant-steps-loop-step
invariant-steps-loop-step l = record {
  same : spec.steps l.self l.list l.fn.state ≡ flat.in_turn_from l.asked (map flat.flat l.rest) (spec.position l.self) l.state;
  within : steps_size l.rest ≤ steps_size l.list;
}

abbrev pub decreases-heads-loop-arm : goal.decreases-heads-loop-arm
decreases-heads-loop-arm l = length l.rest

abbrev pub invariant-heads-loop-arm : goal.invariant-heads-loop-arm
invariant-heads-loop-arm l = record {
  same : spec.heads l.self l.choice l.arms l.fn.state ≡ flat.heads_from l.choice l.heads (map flat.alternative l.rest) (spec.position l.self) l.left l.state;
  within : arms_size l.rest ≤ arms_size l.arms;
}

abbrev pub decreases-nests-loop-arm : goal.decreases-nests-loop-arm
decreases-nests-loop-arm l = length l.rest

abbrev pub invariant-nests-loop-arm : goal.invariant-nests-loop-arm
invariant-nests-loop-arm l = record {
  same : flat.nest_from [] (map flat.alternative l.arms) (spec.position l.self) l.fn.state ≡ flat.nest_from l.heads (map flat.alternative l.rest) (record { taken = l.taken; branches = l.branches }) l.state;
  within : arms_size l.rest ≤ arms_size l.arms;
}
