use Rattle.std.proofs.Common.{◌≡◌, length}
use Rattle.bsv_tree.specs.carrying.Operated as operated
use Rattle.bsv_carry.proofs.suffixes.set_to.Given as goal

abbrev pub decreases-loop-op : goal.decreases-loop-op
decreases-loop-op l = length l.rest

abbrev pub invariant-loop-op : goal.invariant-loop-op
invariant-loop-op l = operated.set_to l.number l.ops l.values ≡ operated.set_to l.number l.left l.rest
