use Rattle.std.proofs.Common.{◌∙◌, sym}
use Rattle.bsv_bits.proofs.Modulo.{fewer_bits, shifted_out}
use Rattle.bsv_bits.proofs.numbers.shifted_up.Goals as goal

pub returns-then-amount-width : goal.returns-then-amount-width
returns-then-amount-width c = c.reduce.ensures ∙ fewer_bits _ _ c.requires

pub returns-else-amount-width : goal.returns-else-amount-width
returns-else-amount-width c = sym (shifted_out _ _ _ c.if-amount-width.false)
