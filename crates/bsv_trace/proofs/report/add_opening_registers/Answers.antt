use Rattle.bsv_trace.specs.Texts.{opening_text}
use Rattle.bsv_trace.specs.Texts as texts
use Rattle.bsv_io.proofs.Adding.{adds_more, adds_then}
use Rattle.bsv_trace.proofs.report.add_opening_registers.Goals as goal

pub returns-in_err-add : goal.returns-in_err-add
unfolding opening_text
returns-in_err-add g c = λ ps shown.
    adds_more (texts.state_lines c.args.instances.now ps) c.from_residual.result c.from_residual.ensures.0 c.in_err-add.ensures

pub returns : goal.returns
unfolding opening_text
returns g c = λ ps shown.
    adds_then c.in_ok-add.ensures (c.add_registers.ensures ps shown)
