use Rattle.std.proofs.Common.{◌++◌, codes}
use Rattle.bsv_trace.specs.Texts as texts
use Rattle.bsv_io.proofs.Adding.{adds_more, fails_more, adds_then}
use Rattle.bsv_trace.proofs.report.add_stopped_line.Goals as goal

pub returns-in_err-add_name : goal.returns-in_err-add_name
returns-in_err-add_name g c =
    adds_more (texts.line_feed) c.from_residual.result c.from_residual.ensures.0 (fails_more (codes " by " ++ (texts.name_at c.args.elements.now) c.args.stopped.1) c.in_err-add_name.ensures)

pub returns-in_err-add_name-2 : goal.returns-in_err-add_name-2
returns-in_err-add_name-2 g c =
    adds_more (texts.line_feed) c.from_residual-in_err-add_name-2.result c.from_residual-in_err-add_name-2.ensures.0 (adds_then c.in_ok-add_name.ensures c.in_err-add_name-2.ensures)

pub returns : goal.returns
returns g c =
    adds_then (adds_then c.in_ok-add_name.ensures c.in_ok-add_name-2.ensures) c.add.ensures
