use Rattle.std.proofs.Common.{◌≡◌, length}
use Rattle.bsv_check.specs.Blame.{items_judged}
use Rattle.bsv_modules.specs.Seen.{program_of}
use Rattle.bsv_check.specs.Seen.{blame_of}
use Rattle.bsv_check.proofs.judged.judge_items.Given as goal

abbrev pub decreases-loop-item : goal.decreases-loop-item
decreases-loop-item l = length l.rest

abbrev pub invariant-loop-item : goal.invariant-loop-item
invariant-loop-item l = record {
  same : program_of l.program ≡ program_of l.fn.program;
  left : items_judged (program_of l.fn.program) (blame_of l.blame) l.rest ≡ items_judged (program_of l.fn.program) (blame_of l.blame) l.items;
}
