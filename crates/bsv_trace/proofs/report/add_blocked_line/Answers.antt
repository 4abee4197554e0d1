use Rattle.bsv_trace.specs.Texts as texts
use Rattle.bsv_io.proofs.Adding.{adds_more, adds_then}
use Rattle.bsv_trace.proofs.report.add_blocked_line.Goals as goal

pub returns-in_err-add_name : goal.returns-in_err-add_name
returns-in_err-add_name g c =
    adds_more (texts.line_feed) c.from_residual.result c.from_residual.ensures.0 c.in_err-add_name.ensures

pub returns : goal.returns
returns g c =
    adds_then c.in_ok-add_name.ensures c.add.ensures
