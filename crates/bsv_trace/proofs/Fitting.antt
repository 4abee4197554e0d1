-- Words that can hold a value, and values that no word can hold.
use Rattle.std.proofs.Common.{◌≡◌, ◌↔◌, ℕ, ◌^◌, ◌<◌, ◌≤◌, Bool, true, false, ◌&&◌, nat_le, nat_lt, if◌then◌else◌, List, [], ◌∷◌, Option, Some, None, length, refl, subst, arith}
use Rattle.std.proofs.Math.Pow.{pow_mono}
use Rattle.std.proofs.lemmas.Bool.Decides.{nat_tests}
use Rattle.std.specs.Prelude.{IsSome, IfSome}
use Rattle.bsv_lemmas.proofs.Choices.{nothing_given}
use Rattle.bsv_bits.specs.Words.{Bits, IsWord}
use Rattle.bsv_trace.specs.declared.number.Base.{Base}
use Rattle.bsv_bits.specs.DigitValues.{value_of}
use Rattle.bsv_trace.specs.Reading.{fitting, radix, word_of}

abbrev word : ℕ → ℕ → Bits
word width value = record { width = width; value = value }

abbrev in_range : ℕ → ℕ → Bool
in_range width value = nat_le 1 width && nat_le width 128 && nat_lt value (2 ^ width)

right : (width value : ℕ) → IsWord (word width value) → in_range width value ≡ true
right width value h =
    let some : 1 ≤ width = h.some in
    let most : width ≤ 128 = h.most in
    let below : value < 2 ^ width = h.below in
    grind (arith, nat_tests)

wrong : (width value : ℕ) → in_range width value ≡ true → IsWord (word width value)
wrong width value h = record {
  some = grind (arith, nat_tests, h);
  most = grind (arith, nat_tests, h);
  below = grind (arith, nat_tests, h);
}

by_test : (width value : ℕ) (b : Bool) → in_range width value ≡ b → (r : Option Bits) → (IsSome r ↔ IsWord (word width value)) → IfSome r (λ w. w ≡ word width value)
    → r ≡ (if b then Some (word width value) else None)
by_test width value true e None some is = let t : false ≡ true = some.1 (wrong width value e) in absurd cc
by_test width value true e (Some w) some is = cc
by_test width value false e None some is = refl
by_test width value false e (Some w) some is = let t : in_range width value ≡ true = right width value (some.0 refl) in absurd cc

pub fits : (width value : ℕ) (r : Option Bits) → (IsSome r ↔ IsWord (word width value)) → IfSome r (λ w. w ≡ word width value) → r ≡ fitting width value
fits width value r some is = by_test width value (in_range width value) refl r some is

too_large : (width value : ℕ) (b : Bool) → in_range width value ≡ b → nat_lt value (2 ^ 128) ≡ false → ◌≡◌ {A = Option Bits} None (if b then Some (word width value) else None)
too_large width value false e large = refl
too_large width value true e large =
    let most : width ≤ 128 = grind (arith, nat_tests, e) in
    let below : value < 2 ^ width = grind (arith, nat_tests, e) in
    let up : 2 ^ width ≤ 2 ^ 128 = pow_mono most in
    let test : nat_lt value (2 ^ 128) ≡ true = grind (arith, nat_tests) in
    absurd cc

-- digits whose number is too large are no word
pub no_word : (b : Base) (width n : ℕ) (digits : List ℕ) (r : Option ℕ) → 1 ≤ length digits → n ≡ radix b
    → r ≡ (if nat_lt (value_of n digits) (2 ^ 128) then Some (value_of n digits) else None) → r ≡ None → ◌≡◌ {A = Option Bits} None (word_of b width digits)
no_word b width n [] r some e is none = absurd (omega (arith, some))
no_word b width n (d ∷ digits) r some e is none =
    let P : ℕ → Type 0 = λ m. ◌≡◌ {A = Option Bits} None (fitting width (value_of m (d ∷ digits))) in
    subst P e
    (too_large width (value_of n (d ∷ digits)) (in_range width (value_of n (d ∷ digits))) refl
    (nothing_given (nat_lt (value_of n (d ∷ digits)) (2 ^ 128)) (value_of n (d ∷ digits)) r is none))
