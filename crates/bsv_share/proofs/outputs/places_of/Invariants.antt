use Rattle.std.proofs.Common.{◌≡◌, map, take}
use Rattle.bsv_share.specs.Outputs.{place_or}
use Rattle.bsv_share.proofs.outputs.places_of.Given as goal

abbrev pub invariant-loop-node : goal.invariant-loop-node
invariant-loop-node l = l.found ≡ map (place_or l.places l.none) (take l.node-index l.nodes)
