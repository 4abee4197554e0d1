use Rattle.bsv_bits.specs.Constants.{constant_text}
use Rattle.bsv_io.proofs.Adding.{adds_more, adds_then}
use Rattle.bsv_trace.proofs.state.add_next_word.Goals as goal

pub returns-in_err-add : goal.returns-in_err-add
returns-in_err-add g c =
    adds_more (constant_text c.args.word) c.from_residual.result c.from_residual.ensures.0 c.in_err-add.ensures

pub returns : goal.returns
returns g c =
    adds_then c.in_ok-add.ensures c.add_constant.ensures
