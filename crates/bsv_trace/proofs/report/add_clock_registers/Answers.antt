use Rattle.bsv_trace.specs.Texts.{clock_text}
use Rattle.bsv_trace.specs.Texts as texts
use Rattle.bsv_io.proofs.Adding.{adds_more, fails_more, adds_then}
use Rattle.bsv_trace.proofs.report.add_clock_registers.Goals as goal

pub returns-in_err-add_number : goal.returns-in_err-add_number
unfolding clock_text
returns-in_err-add_number g c = λ ps shown.
    adds_more (texts.state_lines c.args.instances.now ps) c.from_residual.result c.from_residual.ensures.0 (fails_more (texts.event_lines (texts.name_at c.args.elements.now) c.args.fired.now) c.in_err-add_number.ensures)

pub returns-in_err-add_events : goal.returns-in_err-add_events
unfolding clock_text
returns-in_err-add_events g c = λ ps shown.
    adds_more (texts.state_lines c.args.instances.now ps) c.from_residual-in_err-add_events.result c.from_residual-in_err-add_events.ensures.0 (adds_then c.in_ok-add_number.ensures c.in_err-add_events.ensures)

pub returns : goal.returns
unfolding clock_text
returns g c = λ ps shown.
    adds_then (adds_then c.in_ok-add_number.ensures c.in_ok-add_events.ensures) (c.add_registers.ensures ps shown)
