use Rattle.bsv_io.proofs.Adding.{adds_more, adds_then}
use Rattle.bsv_vtext.proofs.sides.add_assign.Goals as goal

pub returns-in_err-add : goal.returns-in_err-add
returns-in_err-add g c =
    adds_more _ c.from_residual.result c.from_residual.ensures.0 c.in_err-add.ensures

pub returns-in_err-add_target : goal.returns-in_err-add_target
returns-in_err-add_target g c =
    adds_then c.in_ok-add.ensures (adds_more _ c.from_residual-in_err-add_target.result c.from_residual-in_err-add_target.ensures.0 c.in_err-add_target.ensures)

pub returns-in_err-add-2 : goal.returns-in_err-add-2
returns-in_err-add-2 g c =
    adds_then c.in_ok-add.ensures (adds_then c.in_ok-add_target.ensures (adds_more _ c.from_residual-in_err-add-2.result c.from_residual-in_err-add-2.ensures.0 c.in_err-add-2.ensures))

pub returns-in_err-add_side : goal.returns-in_err-add_side
returns-in_err-add_side g c =
    adds_then c.in_ok-add.ensures (adds_then c.in_ok-add_target.ensures (adds_then c.in_ok-add-2.ensures (adds_more _ c.from_residual-in_err-add_side.result c.from_residual-in_err-add_side.ensures.0 c.in_err-add_side.ensures)))

pub returns : goal.returns
returns g c =
    adds_then c.in_ok-add.ensures (adds_then c.in_ok-add_target.ensures (adds_then c.in_ok-add-2.ensures (adds_then c.in_ok-add_side.ensures c.add-3.ensures)))
