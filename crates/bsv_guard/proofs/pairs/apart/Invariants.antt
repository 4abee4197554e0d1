use Rattle.std.proofs.Common.{◌≡◌, drop}
use Rattle.bsv_design.specs.design.Branches.{apart}
use Rattle.bsv_guard.proofs.pairs.apart.Given as goal

abbrev pub invariant-loop-branch : goal.invariant-loop-branch
invariant-loop-branch l = apart l.branches l.others ≡ apart (drop l.branch-index l.branches) l.others
