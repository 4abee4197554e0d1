use Rattle.bsv_trace.specs.Texts as texts
use Rattle.bsv_io.proofs.Adding.{adds_more, adds_then, adds_text}
use Rattle.bsv_trace.proofs.text.add_name.Goals as goal

pub returns-in_err-add : goal.returns-in_err-add
returns-in_err-add g c =
    adds_more (texts.name_at c.args.elements.now c.args.place) c.from_residual.result c.from_residual.ensures.0 c.in_err-add.ensures

pub returns : goal.returns
returns g c =
    adds_then c.in_ok-add.ensures (adds_text (c.name_at.ensures) c.add-2.ensures)
