use Rattle.std.proofs.Common.{◌≡◌, length}
use Rattle.bsv_check.specs.Headers.{over_items, type_step}
use Rattle.bsv_check.specs.Blame.{items_blame, type_blame}
use Rattle.bsv_modules.specs.Seen.{types_of}
use Rattle.bsv_check.specs.Seen.{blame_of}
use Rattle.bsv_check.proofs.headings.add_types.Given as goal

abbrev pub decreases-loop-item : goal.decreases-loop-item
decreases-loop-item l = length l.rest

abbrev pub invariant-loop-item : goal.invariant-loop-item
invariant-loop-item l = record {
  types : over_items type_step l.rest (types_of l.context) ≡ over_items type_step l.items (types_of l.fn.context);
  blame : items_blame type_step type_blame l.number l.rest (types_of l.context) (blame_of l.blame) ≡ items_blame type_step type_blame l.number l.items (types_of l.fn.context) (blame_of l.fn.blame);
}
