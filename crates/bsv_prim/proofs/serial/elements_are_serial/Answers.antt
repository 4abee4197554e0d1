use Rattle.bsv_prim.proofs.Elements.{element_in_turn}
use Rattle.bsv_prim.proofs.Orderly.{orderly_append, fits_after}
use Rattle.bsv_prim.proofs.serial.elements_are_serial.Goals as goal

pub returns : goal.returns
returns g c =
    let t = g.K.Primitive.table in
    let laws = g.met.K.Primitive.laws in
    record {
      element = λ kind. element_in_turn (t kind) (laws kind);
      joined = λ kind. orderly_append (t kind);
      fits = λ kind. fits_after (t kind) (laws kind);
    }
