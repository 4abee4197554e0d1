use Rattle.std.proofs.Common.{◌≡◌, map, take}
use Rattle.bsv_design.specs.design.Bodies.{at}
use Rattle.bsv_serial.proofs.words.words_at.Given as goal

abbrev pub invariant-loop-node : goal.invariant-loop-node
invariant-loop-node l = l.found ≡ map (at l.words) (take l.node-index l.nodes)
