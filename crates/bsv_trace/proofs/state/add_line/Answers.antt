use Rattle.std.proofs.Common.{codes}
use Rattle.bsv_trace.specs.Texts as texts
use Rattle.bsv_io.proofs.Adding.{adds_more, fails_more, adds_then}
use Rattle.bsv_trace.proofs.state.add_line.Goals as goal

pub returns-in_err-add : goal.returns-in_err-add
returns-in_err-add g c =
    adds_more (texts.line_feed) c.from_residual.result c.from_residual.ensures.0 (fails_more (texts.part_text c.args.part.now) (fails_more (codes " = ") c.in_err-add.ensures))

pub returns-in_err-add-2 : goal.returns-in_err-add-2
returns-in_err-add-2 g c =
    adds_more (texts.line_feed) c.from_residual-in_err-add-2.result c.from_residual-in_err-add-2.ensures.0 (fails_more (texts.part_text c.args.part.now) (adds_then c.in_ok-add.ensures c.in_err-add-2.ensures))

pub returns-in_err-add_part : goal.returns-in_err-add_part
returns-in_err-add_part g c =
    adds_more (texts.line_feed) c.from_residual-in_err-add_part.result c.from_residual-in_err-add_part.ensures.0 (adds_then (adds_then c.in_ok-add.ensures c.in_ok-add-2.ensures) c.in_err-add_part.ensures)

pub returns : goal.returns
returns g c =
    adds_then (adds_then (adds_then c.in_ok-add.ensures c.in_ok-add-2.ensures) c.in_ok-add_part.ensures) c.add-3.ensures
