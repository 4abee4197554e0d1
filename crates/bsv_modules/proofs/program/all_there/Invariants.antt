use Rattle.std.proofs.Common.{◌≡◌, length}
use Rattle.std.specs.Vec.Iter.{into_iter_items}
use Rattle.bsv_statements.proofs.Fronts.{listed}
use Rattle.bsv_modules.specs.Programs.{all_there}
use Rattle.bsv_modules.proofs.program.all_there.Given as goal

abbrev pub decreases-loop-place : goal.decreases-loop-place
decreases-loop-place l = length (into_iter_items l.left)

abbrev pub invariant-loop-place : goal.invariant-loop-place
invariant-loop-place l = listed l.found (all_there l.span (into_iter_items l.left)) ≡ all_there l.span l.fn.methods.items
