use Rattle.std.proofs.Common.{◌≡◌, length}
use Rattle.bsv_check.specs.Checked.{all_packages}
use Rattle.bsv_modules.specs.Seen.{program_of}
use Rattle.bsv_check.specs.Seen.{done_of}
use Rattle.bsv_check.proofs.checking.add_packages.Given as goal

abbrev pub decreases-loop-package : goal.decreases-loop-package
decreases-loop-package l = length l.rest

abbrev pub invariant-loop-package : goal.invariant-loop-package
invariant-loop-package l = record {
  same : program_of l.program ≡ program_of l.fn.program;
  left : all_packages (program_of l.fn.program) l.number l.rest (done_of l.done) ≡ all_packages (program_of l.fn.program) 0 l.packages (done_of l.fn.done);
}
