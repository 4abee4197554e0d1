use Rattle.std.proofs.Common.{◌≡◌, length}
use Rattle.bsv_check.specs.Headers.{over_items, header_step}
use Rattle.bsv_check.specs.Blame.{items_blame, header_blame}
use Rattle.bsv_modules.specs.Seen.{program_of}
use Rattle.bsv_check.specs.Seen.{blame_of}
use Rattle.bsv_check.proofs.headings.add_headings.Given as goal

abbrev pub decreases-loop-item : goal.decreases-loop-item
decreases-loop-item l = length l.rest

abbrev pub invariant-loop-item : goal.invariant-loop-item
invariant-loop-item l = record {
  program : over_items header_step l.rest (program_of l.program) ≡ over_items header_step l.items (program_of l.fn.program);
  blame : items_blame header_step header_blame l.number l.rest (program_of l.program) (blame_of l.blame) ≡ items_blame header_step header_blame l.number l.items (program_of l.fn.program) (blame_of l.fn.blame);
}
