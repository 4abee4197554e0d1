-- What is built of a typed program is a tree.
use Rattle.bsv_elab.specs.Rightness.{TreesRight}
use Rattle.bsv_elab.proofs.accepted.Trees.{trees_carried_out}
use Rattle.bsv_elab.proofs.FittingTop.{modules_agree}
use Rattle.bsv_elab.proofs.NamedDirect.{all_named}
use Rattle.bsv_elab.proofs.NamedWhole.{paths, apart, inside}
use Rattle.bsv_elab.proofs.PlacedWhole.{placed, pairs, asserts}

pub trees_right : TreesRight
trees_right t name h e =
    let out = trees_carried_out t name h e in
    record {
      built = out.built;
      top = out.top;
      agrees = modules_agree t name h e;
      paths = paths t name h e;
      apart = apart t name h e;
      named = all_named t name h e;
      inside = inside t name h e;
      placed = placed t name h e;
      pairs = pairs t name h e;
      asserts = asserts t name h e;
      rules = out.rules;
      methods = out.methods;
    }
