use Rattle.bsv_vtext.specs.VText.{some_blocks}
use Rattle.bsv_io.proofs.Adding.{adds_more, adds_then}
use Rattle.bsv_vtext.proofs.blocks.add_some_blocks.Goals as goal

pub returns-in_err-add : goal.returns-in_err-add
unfolding some_blocks
returns-in_err-add g c =
    adds_more _ c.from_residual.result c.from_residual.ensures.0 c.in_err-add.ensures

pub returns-in_err-add_lines : goal.returns-in_err-add_lines
unfolding some_blocks
returns-in_err-add_lines g c =
    adds_then c.in_ok-add.ensures (adds_more _ c.from_residual-in_err-add_lines.result c.from_residual-in_err-add_lines.ensures.0 c.in_err-add_lines.ensures)

pub returns-in_err-add-2 : goal.returns-in_err-add-2
unfolding some_blocks
returns-in_err-add-2 g c =
    adds_then c.in_ok-add.ensures (adds_then c.in_ok-add_lines.ensures (adds_more _ c.from_residual-in_err-add-2.result c.from_residual-in_err-add-2.ensures.0 c.in_err-add-2.ensures))

pub returns-in_err-add_lines-2 : goal.returns-in_err-add_lines-2
unfolding some_blocks
returns-in_err-add_lines-2 g c =
    adds_then c.in_ok-add.ensures (adds_then c.in_ok-add_lines.ensures (adds_then c.in_ok-add-2.ensures (adds_more _ c.from_residual-in_err-add_lines-2.result c.from_residual-in_err-add_lines-2.ensures.0 c.in_err-add_lines-2.ensures)))

pub returns-in_err-add-3 : goal.returns-in_err-add-3
unfolding some_blocks
returns-in_err-add-3 g c =
    adds_then c.in_ok-add.ensures (adds_then c.in_ok-add_lines.ensures (adds_then c.in_ok-add-2.ensures (adds_then c.in_ok-add_lines-2.ensures (adds_more _ c.from_residual-in_err-add-3.result c.from_residual-in_err-add-3.ensures.0 c.in_err-add-3.ensures))))

pub returns-in_err-add_nexts : goal.returns-in_err-add_nexts
unfolding some_blocks
returns-in_err-add_nexts g c =
    adds_then c.in_ok-add.ensures (adds_then c.in_ok-add_lines.ensures (adds_then c.in_ok-add-2.ensures (adds_then c.in_ok-add_lines-2.ensures (adds_then c.in_ok-add-3.ensures (adds_more _ c.from_residual-in_err-add_nexts.result c.from_residual-in_err-add_nexts.ensures.0 c.in_err-add_nexts.ensures)))))

pub returns : goal.returns
unfolding some_blocks
returns g c =
    adds_then c.in_ok-add.ensures (adds_then c.in_ok-add_lines.ensures (adds_then c.in_ok-add-2.ensures (adds_then c.in_ok-add_lines-2.ensures (adds_then c.in_ok-add-3.ensures (adds_then c.in_ok-add_nexts.ensures c.add-4.ensures)))))
