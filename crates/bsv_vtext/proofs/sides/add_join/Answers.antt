use Rattle.bsv_io.proofs.Adding.{adds_more, adds_then}
use Rattle.bsv_vtext.proofs.sides.add_join.Goals as goal

pub returns-in_err-add : goal.returns-in_err-add
returns-in_err-add g c =
    adds_more _ c.from_residual.result c.from_residual.ensures.0 c.in_err-add.ensures

pub returns-in_err-add_joined : goal.returns-in_err-add_joined
returns-in_err-add_joined g c =
    adds_then c.in_ok-add.ensures (adds_more _ c.from_residual-in_err-add_joined.result c.from_residual-in_err-add_joined.ensures.0 c.in_err-add_joined.ensures)

pub returns : goal.returns
returns g c =
    adds_then c.in_ok-add.ensures (adds_then c.in_ok-add_joined.ensures c.add-2.ensures)
