use Rattle.bsv_io.proofs.Adding.{adds_more, adds_then}
use Rattle.bsv_vtext.proofs.sides.add_two.Goals as goal

pub returns-in_err-add : goal.returns-in_err-add
returns-in_err-add g c =
    adds_more _ c.from_residual.result c.from_residual.ensures.0 c.in_err-add.ensures

pub returns-in_err-add_atom : goal.returns-in_err-add_atom
returns-in_err-add_atom g c =
    adds_then c.in_ok-add.ensures (adds_more _ c.from_residual-in_err-add_atom.result c.from_residual-in_err-add_atom.ensures.0 c.in_err-add_atom.ensures)

pub returns-in_err-add-2 : goal.returns-in_err-add-2
returns-in_err-add-2 g c =
    adds_then c.in_ok-add.ensures (adds_then c.in_ok-add_atom.ensures (adds_more _ c.from_residual-in_err-add-2.result c.from_residual-in_err-add-2.ensures.0 c.in_err-add-2.ensures))

pub returns-in_err-add_atom-2 : goal.returns-in_err-add_atom-2
returns-in_err-add_atom-2 g c =
    adds_then c.in_ok-add.ensures (adds_then c.in_ok-add_atom.ensures (adds_then c.in_ok-add-2.ensures (adds_more _ c.from_residual-in_err-add_atom-2.result c.from_residual-in_err-add_atom-2.ensures.0 c.in_err-add_atom-2.ensures)))

pub returns : goal.returns
returns g c =
    adds_then c.in_ok-add.ensures (adds_then c.in_ok-add_atom.ensures (adds_then c.in_ok-add-2.ensures (adds_then c.in_ok-add_atom-2.ensures c.add-3.ensures)))
