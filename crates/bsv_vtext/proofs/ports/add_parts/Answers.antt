use Rattle.bsv_vtext.proofs.Listed.{listed-ports_of}
use Rattle.bsv_io.proofs.Adding.{adds_more, adds_then, adds_text}
use Rattle.bsv_vtext.proofs.ports.add_parts.Goals as goal

pub returns-in_err-add_arguments : goal.returns-in_err-add_arguments
returns-in_err-add_arguments g c =
    adds_text (listed-ports_of c.args.listing c.args.name.now c.args.args.now c.args.action c.args.gives) (adds_more _ c.from_residual.result c.from_residual.ensures.0 c.in_err-add_arguments.ensures)

pub returns-in_err-add_enable : goal.returns-in_err-add_enable
returns-in_err-add_enable g c =
    adds_text (listed-ports_of c.args.listing c.args.name.now c.args.args.now c.args.action c.args.gives) (adds_then c.in_ok-add_arguments.ensures (adds_more _ c.from_residual-in_err-add_enable.result c.from_residual-in_err-add_enable.ensures.0 c.in_err-add_enable.ensures))

pub returns-in_err-add_ready : goal.returns-in_err-add_ready
returns-in_err-add_ready g c =
    adds_text (listed-ports_of c.args.listing c.args.name.now c.args.args.now c.args.action c.args.gives) (adds_then c.in_ok-add_arguments.ensures (adds_then c.in_ok-add_enable.ensures (adds_more _ c.from_residual-in_err-add_ready.result c.from_residual-in_err-add_ready.ensures.0 c.in_err-add_ready.ensures)))

pub returns : goal.returns
returns g c =
    adds_text (listed-ports_of c.args.listing c.args.name.now c.args.args.now c.args.action c.args.gives) (adds_then c.in_ok-add_arguments.ensures (adds_then c.in_ok-add_enable.ensures (adds_then c.in_ok-add_ready.ensures c.add_result.ensures)))
