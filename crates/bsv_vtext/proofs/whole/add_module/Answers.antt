use Rattle.bsv_vtext.specs.VText.{vtext}
use Rattle.bsv_io.proofs.Adding.{adds_more, adds_then}
use Rattle.bsv_vtext.proofs.whole.add_module.Goals as goal

pub returns-in_err-add_front : goal.returns-in_err-add_front
unfolding vtext
returns-in_err-add_front g c =
    adds_more _ c.from_residual.result c.from_residual.ensures.0 c.in_err-add_front.ensures

pub returns-in_err-add_signals : goal.returns-in_err-add_signals
unfolding vtext
returns-in_err-add_signals g c =
    adds_then c.in_ok-add_front.ensures (adds_more _ c.from_residual-in_err-add_signals.result c.from_residual-in_err-add_signals.ensures.0 c.in_err-add_signals.ensures)

pub returns-in_err-add_equations : goal.returns-in_err-add_equations
unfolding vtext
returns-in_err-add_equations g c =
    adds_then c.in_ok-add_front.ensures (adds_then c.in_ok-add_signals.ensures (adds_more _ c.from_residual-in_err-add_equations.result c.from_residual-in_err-add_equations.ensures.0 c.in_err-add_equations.ensures))

pub returns-in_err-add_clocked : goal.returns-in_err-add_clocked
unfolding vtext
returns-in_err-add_clocked g c =
    adds_then c.in_ok-add_front.ensures (adds_then c.in_ok-add_signals.ensures (adds_then c.in_ok-add_equations.ensures (adds_more _ c.from_residual-in_err-add_clocked.result c.from_residual-in_err-add_clocked.ensures.0 c.in_err-add_clocked.ensures)))

pub returns : goal.returns
unfolding vtext
returns g c =
    adds_then c.in_ok-add_front.ensures (adds_then c.in_ok-add_signals.ensures (adds_then c.in_ok-add_equations.ensures (adds_then c.in_ok-add_clocked.ensures c.add.ensures)))
