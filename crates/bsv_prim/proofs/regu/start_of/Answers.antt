use Rattle.std.proofs.Common.{◌∙◌, ◌-◌, ap}
use Rattle.bsv_bits.specs.Words.{Bits, word_slice}
use Rattle.bsv_prim.proofs.OddBits.{start_is_cut}
use Rattle.bsv_prim.proofs.regu.start_of.Goals as goal

pub returns : goal.returns
returns c =
    c.slice.ensures
    ∙ ap (λ (w : Bits). word_slice w (c.args.width - 1) 0) c.in-Some.ensures.word
    ∙ start_is_cut c.args.width c.requires.some c.requires.most
