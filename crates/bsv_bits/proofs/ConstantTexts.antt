-- How long the text of a word is.
use Rattle.std.proofs.Common.{◌≡◌, ◌+◌, ◌≤◌, ◌++◌, length, decimal, codes, ◌∙◌, arith, length-append}
use Rattle.std.proofs.lemmas.Fmt.{length-decimal-le}
use Rattle.bsv_bits.specs.Words.{Bits, IsWord}
use Rattle.bsv_bits.specs.Constants.{constant_text, digit_count}
use Rattle.bsv_bits.proofs.Digits.{length-hex_digits}

pub length-width_text : (w : Bits) → IsWord w → length (decimal w.width) ≤ 3
length-width_text w word =
    let most : w.width ≤ 128 = word.most in
    length-decimal-le 3 w.width (omega arith) (omega arith) (omega arith)

pub length-constant_text : (w : Bits) → length (constant_text w) ≡ length (decimal w.width) + 2 + digit_count w.width
unfolding constant_text
length-constant_text w =
    length-append (decimal w.width ++ codes "'h") _
    ∙ omega (arith, length-append (decimal w.width) (codes "'h"), length-hex_digits (digit_count w.width) w.value)

pub constant_text_short : (w : Bits) → IsWord w → length (constant_text w) ≤ 37
constant_text_short w word =
    let most : w.width ≤ 128 = word.most in
    omega (arith, length-constant_text w, length-width_text w word)
