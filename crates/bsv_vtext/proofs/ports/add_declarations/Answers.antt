use Rattle.std.proofs.Common.{sym, append-nil}
use Rattle.bsv_vtext.specs.VText.{declarations}
use Rattle.bsv_io.proofs.Adding.{adds_more, adds_then, adds_text}
use Rattle.bsv_vtext.proofs.ports.add_declarations.Goals as goal

pub returns-in_err-add : goal.returns-in_err-add
unfolding declarations
returns-in_err-add g c =
    adds_more _ c.from_residual.result c.from_residual.ensures.0 c.in_err-add.ensures

pub returns-in_err-add_ports : goal.returns-in_err-add_ports
unfolding declarations
returns-in_err-add_ports g c =
    adds_then c.in_ok-add.ensures (adds_more _ c.from_residual-in_err-add_ports.result c.from_residual-in_err-add_ports.ensures.0 c.in_err-add_ports.ensures)

pub returns-in_err-add_registers : goal.returns-in_err-add_registers
unfolding declarations
returns-in_err-add_registers g c =
    adds_then c.in_ok-add.ensures (adds_then c.in_ok-add_ports.ensures (adds_more _ c.from_residual-in_err-add_registers.result c.from_residual-in_err-add_registers.ensures.0 c.in_err-add_registers.ensures))

pub returns : goal.returns
unfolding declarations
returns g c =
    adds_then c.in_ok-add.ensures (adds_then c.in_ok-add_ports.ensures (adds_then c.in_ok-add_registers.ensures (adds_text (sym (append-nil _)) c.add_wires.ensures)))
