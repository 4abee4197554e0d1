use Rattle.bsv_io.proofs.Adding.{adds_more, adds_then}
use Rattle.bsv_vtext.proofs.blocks.add_set.Goals as goal

pub returns-in_err-add_texts : goal.returns-in_err-add_texts
returns-in_err-add_texts g c =
    adds_more _ c.from_residual.result c.from_residual.ensures.0 c.in_err-add_texts.ensures

pub returns-in_err-add_atom : goal.returns-in_err-add_atom
returns-in_err-add_atom g c =
    adds_then c.in_ok-add_texts.ensures (adds_more _ c.from_residual-in_err-add_atom.result c.from_residual-in_err-add_atom.ensures.0 c.in_err-add_atom.ensures)

pub returns : goal.returns
returns g c =
    adds_then c.in_ok-add_texts.ensures (adds_then c.in_ok-add_atom.ensures c.add.ensures)
