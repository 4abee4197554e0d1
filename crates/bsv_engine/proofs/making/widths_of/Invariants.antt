use Rattle.std.proofs.Common.{◌≡◌, [], length}
use Rattle.bsv_engine.specs.Widths.{widths_of}
use Rattle.bsv_engine.proofs.making.widths_of.Given as goal

abbrev pub decreases-loop-node : goal.decreases-loop-node
decreases-loop-node l = length l.rest

-- the nodes that are left give what all of them give
abbrev pub invariant-loop-node : goal.invariant-loop-node
invariant-loop-node l = widths_of l.inputs l.registers l.widths l.rest ≡ widths_of l.inputs l.registers [] l.nodes
