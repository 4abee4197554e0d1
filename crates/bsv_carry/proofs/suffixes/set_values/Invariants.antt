use Rattle.std.proofs.Common.{◌≡◌, ◌++◌, length}
use Rattle.bsv_tree.specs.carrying.Operated as operated
use Rattle.bsv_carry.proofs.suffixes.set_values.Given as goal

abbrev pub decreases-loop-field : goal.decreases-loop-field
decreases-loop-field l = length l.rest

abbrev pub invariant-loop-field : goal.invariant-loop-field
invariant-loop-field l = operated.set_from 0 l.fields l.ops l.values ≡ l.found ++ operated.set_from (length l.found) l.rest l.ops l.values
