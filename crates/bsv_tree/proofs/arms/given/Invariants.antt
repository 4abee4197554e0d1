use Rattle.std.proofs.Common.{◌≡◌, map, take}
use Rattle.bsv_tree.specs.carrying.Arms as spec
use Rattle.bsv_tree.proofs.arms.given.Given as goal

abbrev pub invariant-loop-at : goal.invariant-loop-at
invariant-loop-at l = l.found ≡ map (spec.given_by l.locals) (take l.at-index l.numbers)
