use Rattle.std.proofs.Common.{◌≡◌, map, take}
use Rattle.bsv_net.specs.Placing.{node_at}
use Rattle.bsv_fire.proofs.body.nodes_at.Given as goal

abbrev pub invariant-loop-place : goal.invariant-loop-place
invariant-loop-place l = l.found ≡ map (node_at l.nodes) (take l.place-index l.places)
