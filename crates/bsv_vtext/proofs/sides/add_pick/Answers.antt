use Rattle.bsv_io.proofs.Adding.{adds_more, adds_then}
use Rattle.bsv_vtext.proofs.sides.add_pick.Goals as goal

pub returns-in_err-add_atom : goal.returns-in_err-add_atom
returns-in_err-add_atom g c =
    adds_more _ c.from_residual.result c.from_residual.ensures.0 c.in_err-add_atom.ensures

pub returns : goal.returns
returns g c =
    adds_then c.in_ok-add_atom.ensures c.add_two.ensures
