-- Signed words by way of their complements.
use Rattle.std.proofs.Common.{◌≡◌, ℕ, ◌-◌, ◌/◌, ◌%◌, ◌^◌, ◌<◌, ◌≤◌, true, false, arith, ap, sym}
use Rattle.std.proofs.Math.Nat.{mod-eq_of_lt}
use Rattle.std.proofs.Math.Pow.{pow_pos}
use Rattle.std.proofs.lemmas.Nat.{shr_le}
use Rattle.bsv_bits.specs.Words.{Bits, IsWord, word_not, word_shr, word_extend}
use Rattle.bsv_bits.specs.Signed.{is_negative, word_sar, word_sign_extend}
use Rattle.bsv_bits.proofs.Modulo.{below_more_bits}

-- a small number is what is left of it
small : (n width : ℕ) → n < 2 ^ width → n ≡ n % 2 ^ width
small n width h = sym (mod-eq_of_lt h)

complement_below : (a : Bits) → 2 ^ a.width - 1 - a.value < 2 ^ a.width
complement_below a = omega (arith, pow_pos a.width)

pub sar_negative : (a amount : Bits) → is_negative a ≡ true → word_not (word_shr (word_not a) amount) ≡ word_sar a amount
sar_negative a amount e =
    let below : (2 ^ a.width - 1 - a.value) / 2 ^ amount.value < 2 ^ a.width = omega (arith, shr_le (2 ^ a.width - 1 - a.value) amount.value, complement_below a) in
    rw e
    (ap (λ (n : ℕ). record { width = a.width; value = 2 ^ a.width - 1 - n }) (small ((2 ^ a.width - 1 - a.value) / 2 ^ amount.value) a.width below))

pub sar_other : (a amount : Bits) → IsWord a → is_negative a ≡ false → word_shr a amount ≡ word_sar a amount
sar_other a amount word e =
    let below : a.value / 2 ^ amount.value < 2 ^ a.width = omega (arith, shr_le a.value amount.value, word.below) in
    rw e (ap (λ (n : ℕ). record { width = a.width; value = n }) (small (a.value / 2 ^ amount.value) a.width below))

pub sign_extend_negative : (a : Bits) (width : ℕ) → a.width ≤ width → is_negative a ≡ true → word_not (word_extend (word_not a) width) ≡ word_sign_extend a width
sign_extend_negative a width wider e =
    let below = below_more_bits (2 ^ a.width - 1 - a.value) a.width width (complement_below a) wider in
    rw e (ap (λ (n : ℕ). record { width = width; value = 2 ^ width - 1 - n }) (small (2 ^ a.width - 1 - a.value) width below))

pub sign_extend_other : (a : Bits) (width : ℕ) → IsWord a → a.width ≤ width → is_negative a ≡ false → word_extend a width ≡ word_sign_extend a width
sign_extend_other a width word wider e =
    let below = below_more_bits a.value a.width width word.below wider in
    rw e (ap (λ (n : ℕ). record { width = width; value = n }) (small a.value width below))
