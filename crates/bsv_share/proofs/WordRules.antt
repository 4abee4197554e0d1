-- Words that are what operators give: of zeros and ones, of a word turned twice, of a whole word, and of a bit that is picked.
use Rattle.std.proofs.Common.{◌≡◌, ◌∙◌, ℕ, ◌+◌, ◌-◌, ◌/◌, ◌%◌, ◌^◌, ◌<◌, Bool, true, false, refl, sym, ap, ap₂, subst, arith}
use Rattle.std.specs.Prelude.{◌==◌, bit_and, bit_or, pos, negsuc, if◌then◌else◌}
use Rattle.std.specs.Int.Bits.{and_zero_l, and_zero_r, or_zero_l, or_zero_r}
use Rattle.std.proofs.lemmas.Nat.{and_comm, and_mask, le_or_l, le_or_r, or_lt}
use Rattle.std.proofs.lemmas.Bool.{eq-eqb, eqb-true}
use Rattle.bsv_bits.specs.Words.{Bits, IsWord, reduced, word_and, word_or, word_not, word_slice, word_extend}
use Rattle.bsv_bits.specs.Signed.{is_negative, signed_value, word_sign_extend, wrapped}

pub same_bits : (a b : Bits) → a.width ≡ b.width → a.value ≡ b.value → a ≡ b
same_bits a b e f = λ j. record { width = e j; value = f j }

below_mod : (n m : ℕ) → n < m → n % m ≡ n
below_mod n m l = grind arith

-- all bits are 1
pub record AreOnes (a : Bits) : Type 0 where
  pub value : a.value ≡ 2 ^ a.width - 1

pub are_ones : (a : Bits) → IsWord a → (word_not a).value ≡ 0 → AreOnes a
are_ones a word e = record { value = let below = word.below in omega arith }

and_mask_is : (n k : ℕ) → n < 2 ^ k → bit_and n (2 ^ k - 1) ≡ n
and_mask_is n k l = and_mask n k ∙ below_mod n (2 ^ k) l

or_mask_is : (n k : ℕ) → n < 2 ^ k → bit_or (2 ^ k - 1) n ≡ 2 ^ k - 1
or_mask_is n k l =
    let low = le_or_l (2 ^ k - 1) n in
    let high = or_lt k (2 ^ k - 1) n (omega arith) l in
    omega arith

or_mask_too : (n k : ℕ) → n < 2 ^ k → bit_or n (2 ^ k - 1) ≡ 2 ^ k - 1
or_mask_too n k l =
    let low = le_or_r n (2 ^ k - 1) in
    let high = or_lt k n (2 ^ k - 1) l (omega arith) in
    omega arith

module _ (a b : Bits) where
  pub and_zeros_left : a.value ≡ 0 → a ≡ word_and a b
  and_zeros_left e = same_bits a (word_and a b) refl (e ∙ sym (ap (λ (n : ℕ). bit_and n b.value) e ∙ and_zero_l b.value))

  pub and_zeros_right : b.value ≡ 0 → a.width ≡ b.width → b ≡ word_and a b
  and_zeros_right e same = same_bits b (word_and a b) (sym same) (e ∙ sym (ap (bit_and a.value) e ∙ and_zero_r a.value))

  pub and_ones_left : AreOnes a → IsWord b → a.width ≡ b.width → b ≡ word_and a b
  and_ones_left ones word same =
      same_bits b (word_and a b) (sym same)
      (sym (and_comm a.value b.value ∙ (ap (bit_and b.value) (ones.value ∙ ap (λ (w : ℕ). 2 ^ w - 1) same) ∙ and_mask_is b.value b.width word.below)))

  pub and_ones_right : AreOnes b → IsWord a → a.width ≡ b.width → a ≡ word_and a b
  and_ones_right ones word same =
      same_bits a (word_and a b) refl
      (sym (ap (bit_and a.value) (ones.value ∙ ap (λ (w : ℕ). 2 ^ w - 1) (sym same)) ∙ and_mask_is a.value a.width word.below))

  pub or_zeros_left : a.value ≡ 0 → a.width ≡ b.width → b ≡ word_or a b
  or_zeros_left e same = same_bits b (word_or a b) (sym same) (sym (ap (λ (n : ℕ). bit_or n b.value) e ∙ or_zero_l b.value))

  pub or_zeros_right : b.value ≡ 0 → a ≡ word_or a b
  or_zeros_right e = same_bits a (word_or a b) refl (sym (ap (bit_or a.value) e ∙ or_zero_r a.value))

  pub or_ones_left : AreOnes a → IsWord b → a.width ≡ b.width → a ≡ word_or a b
  or_ones_left ones word same =
      same_bits a (word_or a b) refl
      (ones.value ∙ sym (ap (λ (n : ℕ). bit_or n b.value) ones.value
      ∙ or_mask_is b.value a.width (subst (λ (w : ℕ). b.value < 2 ^ w) (sym same) word.below)))

  pub or_ones_right : AreOnes b → IsWord a → a.width ≡ b.width → b ≡ word_or a b
  or_ones_right ones word same =
      same_bits b (word_or a b) (sym same)
      (ones.value ∙ sym (ap (bit_or a.value) ones.value ∙ or_mask_too a.value b.width (subst (λ (w : ℕ). a.value < 2 ^ w) same word.below)))

pub turned_twice : (a : Bits) → IsWord a → a ≡ word_not (word_not a)
turned_twice a word = same_bits a (word_not (word_not a)) refl (let below = word.below in omega arith)

pub whole_slice : (a : Bits) (high low : ℕ) → IsWord a → low ≡ 0 → a.width ≡ high + 1 → a ≡ word_slice a high low
whole_slice a high low word zero_low e =
    let wide : a.width ≡ high - low + 1 = omega arith in
    let shifted : a.value / 2 ^ low ≡ a.value = ap (λ (k : ℕ). a.value / 2 ^ k) zero_low ∙ grind arith in
    same_bits a (word_slice a high low) wide
    (sym (ap₂ (λ (n w : ℕ). n % 2 ^ w) shifted (sym wide) ∙ below_mod a.value (2 ^ a.width) word.below))

pub same_extended : (a : Bits) (width : ℕ) → width ≡ a.width → a ≡ word_extend a width
same_extended a width e = same_bits a (word_extend a width) (sym e) refl

signed_as : (a : Bits) → IsWord a → (b : Bool) → a ≡ wrapped a.width (if b then negsuc (2 ^ a.width - 1 - a.value) else pos a.value)
signed_as a word true =
    let below = word.below in
    let less : 2 ^ a.width - 1 - a.value < 2 ^ a.width = omega arith in
    same_bits a (wrapped a.width (negsuc (2 ^ a.width - 1 - a.value))) refl
    (sym (ap (λ (n : ℕ). 2 ^ a.width - 1 - n) (below_mod (2 ^ a.width - 1 - a.value) (2 ^ a.width) less) ∙ omega arith))
signed_as a word false = same_bits a (reduced a.width a.value) refl (sym (below_mod a.value (2 ^ a.width) word.below))

pub same_sign_extended : (a : Bits) (width : ℕ) → IsWord a → width ≡ a.width → a ≡ word_sign_extend a width
same_sign_extended a width word e = signed_as a word (is_negative a) ∙ ap (λ (w : ℕ). wrapped w (signed_value a)) (sym e)

-- the condition itself, where 1 or 0 is picked
pub picked_bit : (t a b : Bits) → IsWord t → t.width ≡ 1 → a.width ≡ 1 → a.value ≡ 1 → b.width ≡ 1 → b.value ≡ 0 → t ≡ (if t.value == 1 then a else b)
picked_bit t a b word narrow aw av bw bv = of (t.value == 1) refl
  where
    below : t.value < 2
    below = subst (λ (w : ℕ). t.value < 2 ^ w) narrow word.below

    of : (c : Bool) → (t.value == 1) ≡ c → t ≡ (if c then a else b)
    of true e = same_bits t a (narrow ∙ sym aw) (let h = eqb-true t.value 1 e in h ∙ sym av)
    of false e = same_bits t b (narrow ∙ sym bw) (let h = not_one e in let l = below in omega (arith, h, l, bv))
      where
        not_one : (t.value == 1) ≡ false → t.value ≡ 1 → ⊥
        not_one f g = let h = eq-eqb t.value 1 g in let n : ⊥ = cc in n
