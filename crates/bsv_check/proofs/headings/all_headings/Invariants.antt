use Rattle.std.proofs.Common.{◌≡◌, length}
use Rattle.bsv_check.specs.Headers.{over_all, header_step}
use Rattle.bsv_check.specs.Blame.{all_blame, header_blame}
use Rattle.bsv_modules.specs.Seen.{program_of}
use Rattle.bsv_check.specs.Seen.{blame_of}
use Rattle.bsv_check.proofs.headings.all_headings.Given as goal

abbrev pub decreases-loop-package : goal.decreases-loop-package
decreases-loop-package l = length l.rest

abbrev pub invariant-loop-package : goal.invariant-loop-package
invariant-loop-package l = record {
  program : over_all header_step l.rest (program_of l.program) ≡ over_all header_step l.packages (program_of l.fn.program);
  blame : all_blame header_step header_blame l.number l.rest (program_of l.program) (blame_of l.blame) ≡ all_blame header_step header_blame 0 l.packages (program_of l.fn.program) (blame_of l.fn.blame);
}
