use Rattle.bsv_vtext.specs.VText.{header}
use Rattle.bsv_io.proofs.Adding.{adds_more, adds_then}
use Rattle.bsv_vtext.proofs.ports.add_header.Goals as goal

pub returns-in_err-add : goal.returns-in_err-add
unfolding header
returns-in_err-add g c =
    adds_more _ c.from_residual.result c.from_residual.ensures.0 c.in_err-add.ensures

pub returns-in_err-add-2 : goal.returns-in_err-add-2
unfolding header
returns-in_err-add-2 g c =
    adds_then c.in_ok-add.ensures (adds_more _ c.from_residual-in_err-add-2.result c.from_residual-in_err-add-2.ensures.0 c.in_err-add-2.ensures)

pub returns-in_err-add-3 : goal.returns-in_err-add-3
unfolding header
returns-in_err-add-3 g c =
    adds_then c.in_ok-add.ensures (adds_then c.in_ok-add-2.ensures (adds_more _ c.from_residual-in_err-add-3.result c.from_residual-in_err-add-3.ensures.0 c.in_err-add-3.ensures))

pub returns-in_err-add_ports : goal.returns-in_err-add_ports
unfolding header
returns-in_err-add_ports g c =
    adds_then c.in_ok-add.ensures (adds_then c.in_ok-add-2.ensures (adds_then c.in_ok-add-3.ensures (adds_more _ c.from_residual-in_err-add_ports.result c.from_residual-in_err-add_ports.ensures.0 c.in_err-add_ports.ensures)))

pub returns : goal.returns
unfolding header
returns g c =
    adds_then c.in_ok-add.ensures (adds_then c.in_ok-add-2.ensures (adds_then c.in_ok-add-3.ensures (adds_then c.in_ok-add_ports.ensures c.add-4.ensures)))
