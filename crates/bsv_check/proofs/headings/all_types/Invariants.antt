use Rattle.std.proofs.Common.{◌≡◌, length}
use Rattle.bsv_check.specs.Headers.{over_all, type_step}
use Rattle.bsv_check.specs.Blame.{all_blame, type_blame}
use Rattle.bsv_modules.specs.Seen.{types_of}
use Rattle.bsv_check.specs.Seen.{blame_of}
use Rattle.bsv_check.proofs.headings.all_types.Given as goal

abbrev pub decreases-loop-package : goal.decreases-loop-package
decreases-loop-package l = length l.rest

abbrev pub invariant-loop-package : goal.invariant-loop-package
invariant-loop-package l = record {
  types : over_all type_step l.rest (types_of l.context) ≡ over_all type_step l.packages (types_of l.fn.context);
  blame : all_blame type_step type_blame l.number l.rest (types_of l.context) (blame_of l.blame) ≡ all_blame type_step type_blame 0 l.packages (types_of l.fn.context) (blame_of l.fn.blame);
}
