use Rattle.std.proofs.Common.{◌≡◌, map, take}
use Rattle.bsv_vgen.specs.Lines.{known_at}
use Rattle.bsv_vgen.proofs.told_wires.nexts_of.Given as goal

abbrev pub invariant-loop-node : goal.invariant-loop-node
invariant-loop-node l = l.nexts ≡ map (λ k. (known_at l.known k).atom) (take l.node-index l.nodes)
