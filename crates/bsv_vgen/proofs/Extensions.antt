-- Words with more bits above: zeros, or copies of the most significant bit.
use Rattle.std.proofs.Common.{◌≡◌, ◌∙◌, ℕ, zero, suc, ◌+◌, ◌-◌, ◌*◌, ◌^◌, ◌<◌, Bool, true, false, refl, sym, ap, ap₂, arith}
use Rattle.std.specs.Prelude.{nat_eq, if◌then◌else◌, ℤ, pos, negsuc, int_lt}
use Rattle.std.proofs.lemmas.Bool.{lt-leb, le-ltb}
use Rattle.std.proofs.Math.Nat.{suc-mul}
use Rattle.std.proofs.lemmas.Nat.{pow-add, pow_pos}
use Rattle.bsv_bits.specs.Words.{Bits, IsWord, bit, zero_word, word_not, word_concat, word_extend}
use Rattle.bsv_bits.specs.Signed.{is_negative, word_less_signed, word_sign_extend}
use Rattle.bsv_bits.proofs.Signs.{sign_extend_negative, sign_extend_other}

abbrev word_of : ℕ → ℕ → Bits
word_of width value = record { width = width; value = value }

-- zeros above a word
pub zeros_above : (a : Bits) (d u : ℕ) → d + a.width ≡ u → word_concat (zero_word d) a ≡ word_extend a u
zeros_above a d u e = ap₂ word_of e (let s : 0 * 2 ^ a.width + a.value ≡ a.value = omega arith in s)

-- as many bits as it has
pub same_bits : (a : Bits) (u : ℕ) → a.width ≡ u → a ≡ word_extend a u
same_bits a u e = ap (λ (w : ℕ). word_of w a.value) e

-- ---- signs

-- below 0 is what has its most significant bit
zero_is_not : (w : ℕ) → is_negative (zero_word w) ≡ false
zero_is_not w = lt-leb (2 ^ (w - 1)) 0 (pow_pos (w - 1))

abbrev value_by : Bits → Bool → ℤ
value_by a b = if b then negsuc (2 ^ a.width - 1 - a.value) else pos a.value

below_zero : (a : Bits) (b c : Bool) → is_negative a ≡ b → is_negative (zero_word a.width) ≡ false → word_less_signed a (zero_word a.width) ≡ is_negative a
below_zero a true c e z =
    ap₂ int_lt (ap (value_by a) e) (ap (value_by (zero_word a.width)) z) ∙ sym e
below_zero a false c e z =
    ap₂ int_lt (ap (value_by a) e) (ap (value_by (zero_word a.width)) z) ∙ le-ltb a.value 0 (omega arith) ∙ sym e

pub less_than_zero : (a : Bits) → word_less_signed a (zero_word a.width) ≡ is_negative a
less_than_zero a = below_zero a (is_negative a) false refl (zero_is_not a.width)

-- a word of ones above
ones_value : (q p v : ℕ) → 0 < q → v < p → (q - 1 - 0) * p + v ≡ q * p - 1 - (p - 1 - v)
ones_value zero p v some below = absurd (omega (arith, some))
ones_value (suc q) p v some below =
    let one : (suc q - 1 - 0) * p ≡ q * p = ap (λ (n : ℕ). n * p) (let e : suc q - 1 - 0 ≡ q = omega arith in e) in
    let other : suc q * p ≡ q * p + p = suc-mul q p in
    omega (arith, below, one, other)

ones_above : (a : Bits) (d u : ℕ) → IsWord a → d + a.width ≡ u → word_concat (word_not (zero_word d)) a ≡ word_not (word_extend (word_not a) u)
ones_above a d u h e =
    ap₂ word_of e
    (ones_value (2 ^ d) (2 ^ a.width) a.value (pow_pos d) h.below
    ∙ ap (λ (n : ℕ). n - 1 - (2 ^ a.width - 1 - a.value)) (sym (pow-add 2 d a.width) ∙ ap (λ (n : ℕ). 2 ^ n) e))

abbrev filled : ℕ → Bool → Bits
filled d b = if nat_eq (bit b).value 1 then word_not (zero_word d) else zero_word d

signed_by : (a : Bits) (d u : ℕ) (b : Bool) → IsWord a → d + a.width ≡ u → is_negative a ≡ b → word_concat (filled d b) a ≡ word_sign_extend a u
signed_by a d u true h e s = ones_above a d u h e ∙ sign_extend_negative a u (omega (arith, e)) s
signed_by a d u false h e s = zeros_above a d u e ∙ sign_extend_other a u h (omega (arith, e)) s

-- copies of the most significant bit above a word
pub signs_above : (a : Bits) (d u : ℕ) → IsWord a → d + a.width ≡ u → word_concat (filled d (word_less_signed a (zero_word a.width))) a ≡ word_sign_extend a u
signs_above a d u h e =
    ap (λ (b : Bool). word_concat (filled d b) a) (less_than_zero a) ∙ signed_by a d u (is_negative a) h e refl

-- as many bits as it has
pub same_number : (a : Bits) (u : ℕ) → IsWord a → a.width ≡ u → a ≡ word_sign_extend a u
same_number a u h e = signed_same (is_negative a) refl
  where
    signed_same : (b : Bool) → is_negative a ≡ b → a ≡ word_sign_extend a u
    signed_same true s =
        ap₂ word_of e (let below = h.below in let v : a.value ≡ 2 ^ a.width - 1 - (2 ^ a.width - 1 - a.value) = omega (arith, below) in v ∙ ap (λ (n : ℕ). 2 ^ n - 1 - (2 ^ a.width - 1 - a.value)) e)
        ∙ sign_extend_negative a u (omega (arith, e)) s
    signed_same false s = same_bits a u e ∙ sign_extend_other a u h (omega (arith, e)) s
