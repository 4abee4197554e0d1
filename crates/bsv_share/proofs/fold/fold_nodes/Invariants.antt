use Rattle.std.proofs.Common.{◌≡◌, map, take}
use Rattle.bsv_share.specs.Folding.{Folds}
use Rattle.bsv_share.specs.Keys.{key_of}
use Rattle.bsv_share.proofs.fold.fold_nodes.Given as goal

abbrev pub invariant-loop-node : goal.invariant-loop-node
invariant-loop-node l = record {
  keyed : l.folding.keys.keys ≡ map key_of l.folding.nodes;
  folds : Folds l.words (take l.node-index l.nodes) l.folding.nodes l.places;
}
