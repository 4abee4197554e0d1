use Rattle.std.proofs.Common.{◌≡◌, [], length}
use Rattle.bsv_vgen.specs.AtHand as hand
use Rattle.bsv_vgen.specs.Lines.{nodes}
use Rattle.bsv_vgen.proofs.lines.Writing.nodes.Given as goal

abbrev pub invariant-loop-node : goal.invariant-loop-node
invariant-loop-node l =
    nodes l.self.inputs.now l.self.registers.now l.known (hand.written l.written) l.rest
    ≡ nodes l.self.inputs.now l.self.registers.now [] (hand.written l.initial.written) l.nodes

abbrev pub decreases-loop-node : goal.decreases-loop-node
decreases-loop-node l = length l.rest
