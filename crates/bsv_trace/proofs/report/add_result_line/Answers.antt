use Rattle.std.proofs.Common.{codes}
use Rattle.bsv_bits.specs.Constants.{constant_text}
use Rattle.bsv_trace.specs.Texts as texts
use Rattle.bsv_io.proofs.Adding.{adds_more, fails_more, adds_then}
use Rattle.bsv_trace.proofs.report.add_result_line.Goals as goal

pub returns-in_err-add_name : goal.returns-in_err-add_name
returns-in_err-add_name g c =
    adds_more (texts.line_feed) c.from_residual.result c.from_residual.ensures.0 (fails_more (constant_text c.args.gave.1) (fails_more (codes " -> ") c.in_err-add_name.ensures))

pub returns-in_err-add : goal.returns-in_err-add
returns-in_err-add g c =
    adds_more (texts.line_feed) c.from_residual-in_err-add.result c.from_residual-in_err-add.ensures.0 (fails_more (constant_text c.args.gave.1) (adds_then c.in_ok-add_name.ensures c.in_err-add.ensures))

pub returns-in_err-add_constant : goal.returns-in_err-add_constant
returns-in_err-add_constant g c =
    adds_more (texts.line_feed) c.from_residual-in_err-add_constant.result c.from_residual-in_err-add_constant.ensures.0 (adds_then (adds_then c.in_ok-add_name.ensures c.in_ok-add.ensures) c.in_err-add_constant.ensures)

pub returns : goal.returns
returns g c =
    adds_then (adds_then (adds_then c.in_ok-add_name.ensures c.in_ok-add.ensures) c.in_ok-add_constant.ensures) c.add-2.ensures
