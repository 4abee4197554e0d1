use Rattle.std.proofs.Common.{◌≡◌, drop}
use Rattle.bsv_design.specs.design.Branches.{other_arm_of}
use Rattle.bsv_guard.proofs.pairs.other_arm_of.Given as goal

abbrev pub invariant-loop-other : goal.invariant-loop-other
invariant-loop-other l = other_arm_of l.one l.others ≡ other_arm_of l.one (drop l.other-index l.others)
