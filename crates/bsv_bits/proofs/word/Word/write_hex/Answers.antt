use Rattle.std.proofs.Common.{◌∙◌, ap, length, arith, decimal}
use Rattle.bsv_bits.specs.Constants.{constant_text}
use Rattle.bsv_bits.proofs.ConstantTexts.{length-width_text, length-constant_text, constant_text_short}
use Rattle.bsv_bits.proofs.Digits.{same_after}
use Rattle.bsv_bits.proofs.word.Word.write_hex.Goals as goal

pub put-digits-requires : goal.put-digits-requires
put-digits-requires c =
    let short = length-width_text c.args.self c.width.ensures.in_range in
    let same = c.put_decimal-base.ensures.length ∙ ap (λ width. length (decimal width)) c.width.ensures.width in
    omega (arith, c.put_decimal-base.auto.out)

pub put_digits-requires : goal.put_digits-requires
put_digits-requires c =
    let word = c.width.ensures.in_range in
    let short = length-width_text c.args.self word in
    let same = c.put_decimal-base.ensures.length ∙ ap (λ width. length (decimal width)) c.width.ensures.width in
    let most = word.most in
    omega (arith, c.put_decimal-base.auto.out, c.put-digits.auto.out)

pub returns-clause-text : goal.returns-clause-text
unfolding constant_text
returns-clause-text c =
    rw (c.put_digits.ensures.front, c.put-digits.ensures.front, c.put_decimal-base.ensures.front, c.width.ensures.width, c.width-2.ensures.width, c.value.ensures.value)

pub returns-clause-length : goal.returns-clause-length
returns-clause-length c =
    let same = c.put_decimal-base.ensures.length ∙ ap (λ width. length (decimal width)) c.width.ensures.width in
    omega (arith, length-constant_text c.args.self, c.width-2.ensures.width)

pub returns-clause-short : goal.returns-clause-short
returns-clause-short c =
    let same = c.put_decimal-base.ensures.length ∙ ap (λ width. length (decimal width)) c.width.ensures.width in
    omega (arith, length-constant_text c.args.self, constant_text_short c.args.self c.width.ensures.in_range, c.width-2.ensures.width)

pub returns-clause-rest : goal.returns-clause-rest
returns-clause-rest c =
    c.put_digits.ensures.rest
    ∙ same_after c.put-digits.new.out c.args.out.now c.put-digits.result c.put_digits.result
    (c.put-digits.ensures.rest ∙ same_after c.put_decimal-base.new.out c.args.out.now c.put_decimal-base.result c.put-digits.result c.put_decimal-base.ensures.rest (omega arith))
    (omega arith)
