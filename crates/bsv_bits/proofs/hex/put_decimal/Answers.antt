use Rattle.std.proofs.Common.{◌∙◌, ap, sym, length, arith}
use Rattle.std.proofs.lemmas.Fmt.{decimal_digit}
use Rattle.bsv_bits.proofs.DecimalTexts.{two_digits, three_digits}
use Rattle.bsv_bits.proofs.hex.put_decimal.Goals as goal

pub returns-then-number-lt10-clause-length : goal.returns-then-number-lt10-clause-length
returns-then-number-lt10-clause-length c = c.put.ensures.end ∙ sym (ap length (decimal_digit c.args.number c.if-number-lt10.true))

pub returns-then-number-lt10-clause-front : goal.returns-then-number-lt10-clause-front
returns-then-number-lt10-clause-front c = rw (c.put.ensures.front, c.decimal_glyph.ensures) (sym (decimal_digit c.args.number c.if-number-lt10.true))

pub returns-then-number-lt100-clause-length : goal.returns-then-number-lt100-clause-length
returns-then-number-lt100-clause-length c =
    c.put-then-number-lt100.ensures.end ∙ sym (ap length (two_digits c.args.number (omega arith) c.if-number-lt100.true))

pub returns-then-number-lt100-clause-front : goal.returns-then-number-lt100-clause-front
returns-then-number-lt100-clause-front c =
    rw (c.put-then-number-lt100.ensures.front, c.decimal_glyph-then-number-lt100.ensures, c.decimal_glyph-then-number-lt100-2.ensures)
    (sym (two_digits c.args.number (omega arith) c.if-number-lt100.true))

pub returns-else-number-lt100-clause-length : goal.returns-else-number-lt100-clause-length
returns-else-number-lt100-clause-length c =
    c.put-else-number-lt100.ensures.end ∙ sym (ap length (three_digits c.args.number (omega arith) c.requires.small))

pub returns-else-number-lt100-clause-front : goal.returns-else-number-lt100-clause-front
returns-else-number-lt100-clause-front c =
    rw c.put-else-number-lt100.ensures.front
    (rw (c.decimal_glyph-last.ensures, c.decimal_glyph-tens.ensures, c.decimal_glyph-else-number-lt100.ensures)
    (sym (three_digits c.args.number (omega arith) c.requires.small)))
