use Rattle.bsv_bits.proofs.DigitValues.{value_of-end, value_of-none}
use Rattle.bsv_bits.proofs.digit_values.value_of.Goals as goal

pub returns : goal.returns
returns c = value_of-end c.args.radix c.loop-rest.value c.args.digits.now c.loop-rest.rest.now c.in_default.len_below c.loop-rest.invariant.0 c.loop-rest.invariant.1

pub returns-in-None : goal.returns-in-None
returns-in-None c = value_of-none c.args.radix c.loop-rest.value c.args.digits.now c.loop-rest.rest.now c.with_digit.result c.requires.some c.in-len1-up.len_at_least c.loop-rest.invariant.0 c.with_digit.ensures c.in-None.is
