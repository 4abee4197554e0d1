use Rattle.std.proofs.Common.{◌≡◌, [], take}
use Rattle.bsv_design.specs.design.Bodies.{values}
use Rattle.bsv_serial.specs.AtHand as hand
use Rattle.bsv_serial.proofs.body.Body.compute.Given as goal

abbrev pub invariant-loop-node : goal.invariant-loop-node
invariant-loop-node l =
    l.words.items ≡ values (hand.body_answers l.self) (hand.arguments l.self) l.self.element.now.calls [] (take l.node-index l.self.element.now.nodes)
