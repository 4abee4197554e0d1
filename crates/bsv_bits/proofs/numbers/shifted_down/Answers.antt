use Rattle.std.proofs.Common.{sym}
use Rattle.bsv_bits.proofs.Modulo.{shifted_away}
use Rattle.bsv_bits.proofs.numbers.shifted_down.Goals as goal

pub returns-else-amount-width : goal.returns-else-amount-width
returns-else-amount-width c =
    sym (shifted_away c.args.number c.args.amount c.args.width c.requires.below c.if-amount-width.false)
