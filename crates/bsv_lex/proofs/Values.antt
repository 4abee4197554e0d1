-- A value that is too large for any word fits no size.
use Rattle.std.proofs.Common.{◌≡◌, ℕ, ◌^◌, ◌≤◌, true, false, ◌&&◌, nat_le, nat_lt, if◌then◌else◌, Option, Some, None, arith}
use Rattle.std.proofs.Math.Pow.{pow_mono}
use Rattle.std.proofs.lemmas.Bool.Decides.{nat_tests}
use Rattle.bsv_lemmas.proofs.Choices.{nothing_given}
use Rattle.bsv_ast.specs.declared.text.Base.{Base}
use Rattle.bsv_ast.specs.declared.text.Literal.{Literal}
use Rattle.bsv_lex.specs.Numbers.{sized}
use Rattle.bsv_bits.proofs.DigitValues.{some_if}

-- a value of 2^128 or more fits no size
pub too_large_sized : (base : Base) (size value : ℕ) → nat_lt value (2 ^ 128) ≡ false → (nat_le 1 size && nat_le size 128) ≡ true → ◌≡◌ {A = Option Literal} None (sized base size value)
too_large_sized base size value large fine =
    let most : size ≤ 128 = grind (arith, nat_tests, fine) in
    let up : 2 ^ size ≤ 2 ^ 128 = pow_mono most in
    let test : nat_lt value (2 ^ size) ≡ false = grind (arith, nat_tests, large, up) in
    grind (arith, nat_tests, test)

pub sized-none : (base : Base) (size value n : ℕ) (r s : Option ℕ) → s ≡ (if nat_le 1 size && nat_le size 128 then Some size else None) → s ≡ Some n
    → r ≡ (if nat_lt value (2 ^ 128) then Some value else None) → r ≡ None → ◌≡◌ {A = Option Literal} None (sized base size value)
sized-none base size value n r s sized_is some value_is none =
    too_large_sized base size value (nothing_given (nat_lt value (2 ^ 128)) value r value_is none) (some_if (nat_le 1 size && nat_le size 128) size n s sized_is some)
