use Rattle.std.proofs.Common.{◌≡◌, drop}
use Rattle.bsv_tree.specs.carrying.Arms as spec
use Rattle.bsv_tree.proofs.arms.assigned.Given as goal

abbrev pub invariant-loop-arm : goal.invariant-loop-arm
invariant-loop-arm l = spec.assigned l.arms l.last l.at ≡ spec.assigned (drop l.arm-index l.arms) l.last l.at
