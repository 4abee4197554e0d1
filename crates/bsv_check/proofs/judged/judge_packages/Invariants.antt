use Rattle.std.proofs.Common.{◌≡◌, length}
use Rattle.bsv_check.specs.Blame.{packages_judged}
use Rattle.bsv_modules.specs.Seen.{program_of}
use Rattle.bsv_check.specs.Seen.{blame_of}
use Rattle.bsv_check.proofs.judged.judge_packages.Given as goal

abbrev pub decreases-loop-package : goal.decreases-loop-package
decreases-loop-package l = length l.rest

abbrev pub invariant-loop-package : goal.invariant-loop-package
invariant-loop-package l = record {
  same : program_of l.program ≡ program_of l.fn.program;
  left : packages_judged (program_of l.fn.program) (blame_of l.blame) l.number l.rest ≡ packages_judged (program_of l.fn.program) (blame_of l.blame) 0 l.packages;
}
