-- A number is within its limits.
use Rattle.std.proofs.Common.{◌≡◌, ℕ, ◌^◌, ◌<◌, ◌≤◌, Bool, true, false, cond, eqb, ◌&&◌, nat_le, nat_lt, List, [], ◌∷◌, take, drop, Option, Some, None, refl, arith}
use Rattle.std.specs.Prelude.{IfSome}
use Rattle.std.specs.List.{prefix_len}
use Rattle.std.specs.Char.{is_ascii_digit}
use Rattle.std.proofs.lemmas.Bool.Decides.{nat_tests}
use Rattle.bsv_ast.specs.declared.text.Base.{Base}
use Rattle.bsv_ast.specs.declared.text.Literal.{Literal}
use Rattle.bsv_lex.specs.Bytes.{is_decimal, first_is}
use Rattle.bsv_bits.specs.DigitValues.{value_of}
use Rattle.bsv_lex.specs.Numbers.{base_of, radix, radix_of, unsized, sized, is_digits, with_size, based, in_parts, literal, IsFitting}

abbrev pub Fits : Option Literal → Type 0
Fits o = IfSome o (λ number. IsFitting number.size number.value)

fits_if : (v : Bool) (o : Option Literal) → (v ≡ true → Fits o) → Fits (cond v o None)
fits_if true o h = h refl
fits_if false o h = tt

unsized_fits : (base : Option Base) (value : ℕ) → Fits (unsized base value)
unsized_fits base value = fits_if (nat_lt value (2 ^ 128)) (Some (record { value = value; base = base; size = None })) (λ e. grind (arith, nat_tests))

small : (size value : ℕ) → (nat_le 1 size && nat_le size 128 && nat_lt value (2 ^ size)) ≡ true → (1 ≤ size) × (size ≤ 128) × (value < 2 ^ size)
small size value e = (grind (arith, nat_tests), grind (arith, nat_tests), grind (arith, nat_tests))

sized_fits : (base : Base) (size value : ℕ) → Fits (sized base size value)
sized_fits base size value = fits_if (nat_le 1 size && nat_le size 128 && nat_lt value (2 ^ size)) (Some (record { value = value; base = Some base; size = Some size })) (λ e. small size value e)

with_size_fits : (size : List ℕ) (base : Base) (digits : List ℕ) → Fits (with_size size base digits)
with_size_fits [] base digits = unsized_fits (Some base) (value_of (radix_of (Some base)) digits)
with_size_fits (b ∷ size) base digits = fits_if (is_ascii_digit b) (sized base (value_of 10 (b ∷ size)) (value_of (radix base) digits)) (λ e. sized_fits base (value_of 10 (b ∷ size)) (value_of (radix base) digits))

based_fits : (size : List ℕ) (o : Option Base) (digits : List ℕ) → Fits (based size o digits)
based_fits size None digits = tt
based_fits size (Some base) digits = fits_if (is_digits base digits) (with_size size base digits) (λ e. with_size_fits size base digits)

parts_fit : (front behind : List ℕ) → Fits (in_parts front behind)
parts_fit front [] = fits_if (first_is is_ascii_digit front) (unsized None (value_of (radix_of None) front)) (λ e. unsized_fits None (value_of (radix_of None) front))
parts_fit front (quote ∷ []) = tt
parts_fit front (quote ∷ letter ∷ digits) = fits_if (eqb quote 39) (based front (base_of letter) digits) (λ e. based_fits front (base_of letter) digits)

pub literal_fits : (text : List ℕ) → Fits (literal text)
unfolding literal
literal_fits text = parts_fit (take (prefix_len is_decimal text) text) (drop (prefix_len is_decimal text) text)
