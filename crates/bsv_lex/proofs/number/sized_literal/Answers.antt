use Rattle.std.proofs.Common.{◌≡◌, None, subst}
use Rattle.bsv_bits.specs.DigitValues.{value_of}
use Rattle.bsv_lex.specs.Numbers.{sized}
use Rattle.bsv_lex.proofs.Values.{sized-none}
use Rattle.bsv_lex.proofs.number.sized_literal.Goals as goal

pub returns-in_default-value_of : goal.returns-in_default-value_of
returns-in_default-value_of c =
    subst (λ base. None ≡ sized c.args.base (value_of 10 c.args.size.now) (value_of base c.args.digits.now)) c.radix.ensures
    (sized-none c.args.base (value_of 10 c.args.size.now) (value_of c.radix.result c.args.digits.now) c.in-Some.size c.value_of.result c.size_of.result c.size_of.ensures c.in-Some.is c.value_of.ensures c.in_default-value_of.is)
