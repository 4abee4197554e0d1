use Rattle.std.proofs.Common.{decimal}
use Rattle.bsv_trace.specs.Texts as texts
use Rattle.bsv_io.proofs.Adding.{adds_more, fails_more, adds_then}
use Rattle.bsv_trace.proofs.report.add_number.Goals as goal

pub returns-in_err-add : goal.returns-in_err-add
returns-in_err-add g c =
    adds_more (texts.line_feed) c.from_residual.result c.from_residual.ensures.0 (fails_more (decimal c.args.number) c.in_err-add.ensures)

pub returns-in_err-add_decimal : goal.returns-in_err-add_decimal
returns-in_err-add_decimal g c =
    adds_more (texts.line_feed) c.from_residual-in_err-add_decimal.result c.from_residual-in_err-add_decimal.ensures.0 (adds_then c.in_ok-add.ensures c.in_err-add_decimal.ensures)

pub returns : goal.returns
returns g c =
    adds_then (adds_then c.in_ok-add.ensures c.in_ok-add_decimal.ensures) c.add-2.ensures
