use Rattle.std.proofs.Common.{codes}
use Rattle.bsv_trace.specs.Texts as texts
use Rattle.bsv_io.proofs.Adding.{adds_more, fails_more, adds_then}
use Rattle.bsv_trace.proofs.registers.add_line.Goals as goal

pub returns-in_err-add : goal.returns-in_err-add
returns-in_err-add g c = λ p shown.
    adds_more (texts.line_feed) c.from_residual.result c.from_residual.ensures.0 (fails_more (texts.part_text p) (fails_more (codes " = ") c.in_err-add.ensures))

pub returns-in_err-add-2 : goal.returns-in_err-add-2
returns-in_err-add-2 g c = λ p shown.
    adds_more (texts.line_feed) c.from_residual-in_err-add-2.result c.from_residual-in_err-add-2.ensures.0 (fails_more (texts.part_text p) (adds_then c.in_ok-add.ensures c.in_err-add-2.ensures))

pub returns-in_err-add_shown : goal.returns-in_err-add_shown
returns-in_err-add_shown g c = λ p shown.
    adds_more (texts.line_feed) c.from_residual-in_err-add_shown.result c.from_residual-in_err-add_shown.ensures.0 (adds_then (adds_then c.in_ok-add.ensures c.in_ok-add-2.ensures) (c.in_err-add_shown.ensures p shown))

pub returns : goal.returns
returns g c = λ p shown.
    adds_then (adds_then (adds_then c.in_ok-add.ensures c.in_ok-add-2.ensures) (c.in_ok-add_shown.ensures p shown)) c.add-3.ensures
