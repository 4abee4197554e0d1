use Rattle.bsv_trace.specs.Texts as texts
use Rattle.bsv_io.proofs.Adding.{adds_more, fails_more, adds_then}
use Rattle.bsv_trace.proofs.text.add_list.Goals as goal

pub returns-in_err-add : goal.returns-in_err-add
returns-in_err-add g c =
    adds_more (texts.line_feed) c.from_residual.result c.from_residual.ensures.0 (fails_more (texts.names (texts.name_at c.args.elements.now) c.args.places.now) c.in_err-add.ensures)

pub returns-in_err-add_names : goal.returns-in_err-add_names
returns-in_err-add_names g c =
    adds_more (texts.line_feed) c.from_residual-in_err-add_names.result c.from_residual-in_err-add_names.ensures.0 (adds_then c.in_ok-add.ensures c.in_err-add_names.ensures)

pub returns : goal.returns
returns g c =
    adds_then (adds_then c.in_ok-add.ensures c.in_ok-add_names.ensures) c.add-2.ensures
