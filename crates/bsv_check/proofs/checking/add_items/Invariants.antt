use Rattle.std.proofs.Common.{◌≡◌, length}
use Rattle.bsv_check.specs.Checked.{all_items}
use Rattle.bsv_modules.specs.Seen.{program_of}
use Rattle.bsv_check.specs.Seen.{done_of}
use Rattle.bsv_check.proofs.checking.add_items.Given as goal

abbrev pub decreases-loop-item : goal.decreases-loop-item
decreases-loop-item l = length l.rest

abbrev pub invariant-loop-item : goal.invariant-loop-item
invariant-loop-item l = record {
  same : program_of l.program ≡ program_of l.fn.program;
  left : all_items (program_of l.fn.program) l.rest (done_of l.done) ≡ all_items (program_of l.fn.program) l.items (done_of l.fn.done);
}
