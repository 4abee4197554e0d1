use Rattle.std.proofs.Common.{◌≡◌, take}
use Rattle.bsv_tree.specs.carrying.Frames as spec
use Rattle.bsv_tree.proofs.frame.untouched.Given as goal

abbrev pub invariant-loop-old : goal.invariant-loop-old
invariant-loop-old l = l.found ≡ spec.untouched (take l.old-index l.locals)
