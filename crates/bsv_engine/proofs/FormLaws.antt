-- Each form of steps computes the words of its nodes.
use Rattle.std.proofs.Common.{suc, zero, ◌≡◌, ℕ, ◌+◌, ◌-◌, ◌*◌, ◌/◌, ◌%◌, ◌<◌, ◌≤◌, ◌^◌, ◌==◌, Bool, true, false, ◌&&◌, ◌||◌, List, length, slice_index, sym, ap, ap₂, subst, ◌∙◌, arith, refl, if◌then◌else◌, nat_eq, nat_lt, bit_and, bit_or, bit_xor}
use Rattle.std.specs.Prelude.{nat_le, int_lt, pos, negsuc}
use Rattle.std.proofs.Math.Pow.{mod-mod-pow, pow_mono, pow_pos}
use Rattle.std.proofs.Math.Nat.{add-mul-mod_self_left, mod-eq_of_lt}
use Rattle.std.proofs.lemmas.Nat.{and_mask, or_shifted, shr_le}
use Rattle.std.proofs.lemmas.Bool.{ltb-false, eq-eqb}
use Rattle.std.proofs.lemmas.Bool.Decides.{nat_tests}
use Rattle.bsv_bits.specs.Words.{Bits, IsWord, word_not, word_shr, word_extend, word_concat, word_slice}
use Rattle.bsv_bits.specs.Signed.{is_negative, word_less_signed, word_sar, word_sign_extend}
use Rattle.bsv_bits.specs.Operators.{operate, is_shift}
use Rattle.bsv_bits.specs.declared.operator.Operator.{Operator}
use Rattle.bsv_bits.specs.declared.operator.Operator.TheVariants as operator
use Rattle.bsv_bits.proofs.Modulo.{shifted_out, shifted_away, joined_below}
use Rattle.bsv_bits.proofs.Signs.{sar_negative, sar_other, sign_extend_negative, sign_extend_other}
use Rattle.bsv_design.specs.design.Computing.{between, sliced, joined, extended, sign_extended}
use Rattle.bsv_net.specs.Equations.{Values, computed}
use Rattle.bsv_engine.specs.declared.bitwise.Not.{Not}
use Rattle.bsv_engine.specs.declared.bitwise.And.{And}
use Rattle.bsv_engine.specs.declared.bitwise.Or.{Or}
use Rattle.bsv_engine.specs.declared.bitwise.Xor.{Xor}
use Rattle.bsv_engine.specs.declared.sums.Add.{Add}
use Rattle.bsv_engine.specs.declared.sums.Sub.{Sub}
use Rattle.bsv_engine.specs.declared.sums.Mul.{Mul}
use Rattle.bsv_engine.specs.declared.orders.Same.{Same}
use Rattle.bsv_engine.specs.declared.orders.Less.{Less}
use Rattle.bsv_engine.specs.declared.orders.LessSigned.{LessSigned}
use Rattle.bsv_engine.specs.declared.shifts.Shl.{Shl}
use Rattle.bsv_engine.specs.declared.shifts.Shr.{Shr}
use Rattle.bsv_engine.specs.declared.shifts.Sar.{Sar}
use Rattle.bsv_engine.specs.declared.parts.Known.{Known}
use Rattle.bsv_engine.specs.declared.parts.Pick.{Pick}
use Rattle.bsv_engine.specs.declared.parts.Slice.{Slice}
use Rattle.bsv_engine.specs.declared.parts.Join.{Join}
use Rattle.bsv_engine.specs.declared.parts.Extended.{Extended}
use Rattle.bsv_engine.specs.declared.parts.SignExtended.{SignExtended}
use Rattle.bsv_engine.specs.Numbers.{shifted, less, below_if, below_signed, not_number, and_number, or_number, xor_number, add_number, sub_number, mul_number, same_number, less_number, less_signed_number, shl_number, shr_number, sar_number, known_number, pick_number, slice_number, join_number, extended_number, sign_extended_number}
use Rattle.bsv_engine.specs.Rights.{width_at, not_node, not_right, and_node, and_right, or_node, or_right, xor_node, xor_right, add_node, add_right, sub_node, sub_right, mul_node, mul_right, same_node, same_right, less_node, less_right, less_signed_node, less_signed_right, shl_node, shl_right, shr_node, shr_right, sar_node, sar_right, known_node, known_right, pick_node, pick_right, slice_node, slice_right, join_node, join_right, extended_node, extended_right, sign_extended_node, sign_extended_right}
use Rattle.bsv_engine.proofs.Masks.{power_split}

-- ---- numbers below 2^64

pub masked : (n w m : ℕ) → w ≤ 64 → m ≡ 2 ^ w - 1 → bit_and (n % 2 ^ 64) m ≡ n % 2 ^ w
masked n w m h e =
    let s : (64 - w) + w ≡ 64 = omega arith in
    rw e (and_mask (n % 2 ^ 64) w ∙ subst (λ (k : ℕ). n % 2 ^ k % 2 ^ w ≡ n % 2 ^ w) s (mod-mod-pow n (64 - w) w))

-- a number below 2^w, less one below it
complement : (a w m : ℕ) → a < 2 ^ w → w ≤ 64 → m ≡ 2 ^ w - 1 → less m a ≡ 2 ^ w - 1 - a
complement a w m below h e =
    let p : 2 ^ w ≤ 2 ^ 64 = pow_mono {i = w} {j = 64} h in
    let split : m + (2 ^ 64 - a) ≡ (2 ^ w - 1 - a) + 2 ^ 64 * 1 = omega arith in
    ap (λ (n : ℕ). n % 2 ^ 64) split ∙ add-mul-mod_self_left (2 ^ w - 1 - a) (2 ^ 64) 1 ∙ mod-eq_of_lt (omega arith)

-- a borrow past 64 bits is one past fewer
wraps : (a b w : ℕ) → w ≤ 64 → b < 2 ^ w → (a + (2 ^ 64 - b)) % 2 ^ w ≡ (a + (2 ^ w - b)) % 2 ^ w
wraps a b w h l =
    let p : 2 ^ w ≤ 2 ^ 64 = pow_mono {i = w} {j = 64} h in
    let s = power_split w 64 h in
    let one : 2 ^ w * 2 ^ (64 - w) ≡ 2 ^ w + 2 ^ w * (2 ^ (64 - w) - 1) = more (2 ^ w) (2 ^ (64 - w)) (pow_pos (64 - w)) in
    let e : a + (2 ^ 64 - b) ≡ (a + (2 ^ w - b)) + 2 ^ w * (2 ^ (64 - w) - 1) = omega arith in
    ap (λ (n : ℕ). n % 2 ^ w) e ∙ add-mul-mod_self_left (a + (2 ^ w - b)) (2 ^ w) (2 ^ (64 - w) - 1)
  where
    more : (x y : ℕ) → 0 < y → x * y ≡ x + x * (y - 1)
    more x y h = let e : y ≡ (y - 1) + 1 = omega arith in ap (λ (n : ℕ). x * n) e ∙ omega arith

-- a choice that is the same number both ways
chosen : (t : Bool) (x y z : ℕ) → (t ≡ true → x ≡ z) → (t ≡ false → y ≡ z) → (if t then x else y) ≡ z
chosen true x y z f g = f refl
chosen false x y z f g = g refl

shifted_is : (a b w : ℕ) → a < 2 ^ w → w ≤ 64 → shifted a b ≡ a / 2 ^ b
shifted_is a b w below h =
    chosen (nat_lt b 64) (a / 2 ^ b) 0 (a / 2 ^ b) (λ _. refl) (λ e. let l : 64 ≤ b = ltb-false b 64 e in sym (shifted_away a b w below (omega arith)))

shl_is : (a b w m : ℕ) → w ≤ 64 → m ≡ 2 ^ w - 1 → (if nat_lt b 64 then bit_and (a * 2 ^ b % 2 ^ 64) m else 0) ≡ a * 2 ^ b % 2 ^ w
shl_is a b w m h e =
    chosen (nat_lt b 64) (bit_and (a * 2 ^ b % 2 ^ 64) m) 0 (a * 2 ^ b % 2 ^ w) (λ _. masked (a * 2 ^ b) w m h e)
    (λ f. let l : 64 ≤ b = ltb-false b 64 f in sym (shifted_out a b w (omega arith)))

-- ---- operators of words that fit

between_even : (o : Operator) (a b : Bits) → is_shift o ≡ false → a.width ≡ b.width → between o a b ≡ operate o a b
unfolding between
between_even o a b s e =
    ap (λ (t : Bool). if t || (a.width == b.width) then operate o a b else a) s
    ∙ ap (λ (t : Bool). if t then operate o a b else a) (eq-eqb a.width b.width e)

between_shift : (o : Operator) (a b : Bits) → is_shift o ≡ true → between o a b ≡ operate o a b
unfolding between
between_shift o a b s = ap (λ (t : Bool). if t || (a.width == b.width) then operate o a b else a) s

both_le : (a b c d : ℕ) → a ≤ b → c ≤ d → (nat_le a b && nat_le c d) ≡ true
both_le a b c d h k = grind (arith, nat_tests)

le_and_lt : (a b c d : ℕ) → a ≤ b → c < d → (nat_le a b && nat_lt c d) ≡ true
le_and_lt a b c d h k = grind (arith, nat_tests)

le_is : (a b : ℕ) → a ≤ b → nat_le a b ≡ true
le_is a b h = grind (arith, nat_tests)

sliced_is : (a : Bits) (high low : ℕ) → low ≤ high → high < a.width → sliced a high low ≡ word_slice a high low
unfolding sliced
sliced_is a high low h k = ap (λ (t : Bool). if t then word_slice a high low else a) (le_and_lt low high high a.width h k)

joined_words : (a b : Bits) → a.width + b.width ≤ 128 → joined a b ≡ word_concat a b
unfolding joined
joined_words a b h = ap (λ (t : Bool). if t then word_concat a b else a) (le_is (a.width + b.width) 128 h)

extended_is : (a : Bits) (width : ℕ) → a.width ≤ width → width ≤ 128 → extended a width ≡ word_extend a width
unfolding extended
extended_is a width h k = ap (λ (t : Bool). if t then word_extend a width else a) (both_le a.width width width 128 h k)

sign_extended_word : (a : Bits) (width : ℕ) → a.width ≤ width → width ≤ 128 → sign_extended a width ≡ word_sign_extend a width
unfolding sign_extended
sign_extended_word a width h k = ap (λ (t : Bool). if t then word_sign_extend a width else a) (both_le a.width width width 128 h k)

-- ---- words that are read

-- a number and a width of a word of at most 64 bits
pub record IsRead (number width : ℕ) (w : Bits) : Type 0 where
  pub is_value : number ≡ w.value
  pub is_width : width ≡ w.width
  pub some : 1 ≤ w.width
  pub most : w.width ≤ 64
  pub below : w.value < 2 ^ w.width

-- of each place whose word has at most 64 bits
abbrev pub AreRead : List ℕ → List ℕ → Values → Type 0
AreRead us ns V = (k : ℕ) → k < length us → width_at us k ≤ 64 → IsRead (slice_index ns k) (width_at us k) (V k)

turned : (m n t : ℕ) → m ≤ t → n ≤ t → nat_lt m n ≡ nat_lt (t - n) (t - m)
turned m n t h k = grind (arith, nat_tests)

-- the order of signed integers by the signs of both
order_is : (p q : Bool) (m n t : ℕ) → m ≤ t → n ≤ t → below_if p q (nat_lt m n) ≡ int_lt (if p then negsuc (t - m) else pos m) (if q then negsuc (t - n) else pos n)
order_is true true m n t h k = turned m n t h k
order_is true false m n t h k = refl
order_is false true m n t h k = refl
order_is false false m n t h k = refl

less_signed_is : (a b : Bits) (sign : ℕ) → a.width ≡ b.width → a.value < 2 ^ a.width → b.value < 2 ^ b.width → sign ≡ 2 ^ (a.width - 1)
    → below_signed sign a.value b.value ≡ word_less_signed a b
less_signed_is a b sign same h k e =
    let below : b.value < 2 ^ a.width = subst (λ (w : ℕ). b.value < 2 ^ w) (sym same) k in
    let top : ℕ = 2 ^ (a.width - 1) in
    ap (λ s. below_signed s a.value b.value) e
    ∙ order_is (nat_le top a.value) (nat_le top b.value) a.value b.value (2 ^ a.width - 1) (omega (arith, h)) (omega (arith, below))
    ∙ ap (λ w. word_less_signed a (record { width = w; value = b.value })) same

shr_below : (a b w : ℕ) → a < 2 ^ w → a / 2 ^ b < 2 ^ w
shr_below a b w h = omega (arith, shr_le a b)

-- a number that is one word's value or another's
split_sign : (t : Bool) (m n : ℕ) (v w s : Bits)
    → (t ≡ true → (m ≡ v.value) × (v ≡ s)) → (t ≡ false → (n ≡ w.value) × (w ≡ s)) → (if t then m else n) ≡ s.value
split_sign true m n v w s f g = let h = f refl in h.0 ∙ ap (λ (b : Bits). b.value) h.1
split_sign false m n v w s f g = let h = g refl in h.0 ∙ ap (λ (b : Bits). b.value) h.1

not_below : (v w : ℕ) → 2 ^ w - 1 - v < 2 ^ w
not_below v w = let p = pow_pos w in omega arith

sar_is : (a b : Bits) (sign m : ℕ) → IsWord a → a.width ≤ 64 → sign ≡ 2 ^ (a.width - 1) → m ≡ 2 ^ a.width - 1
    → (if nat_le sign a.value then less m (shifted (less m a.value) b.value) else shifted a.value b.value) ≡ (word_sar a b).value
sar_is a b sign m word most e f =
    ap (λ s. if nat_le s a.value then less m (shifted (less m a.value) b.value) else shifted a.value b.value) e
    ∙ split_sign (is_negative a) _ _ (word_not (word_shr (word_not a) b)) (word_shr a b) (word_sar a b)
    (λ t.
    let inner = not_below a.value a.width in
    let moved = shr_below (word_not a).value b.value a.width inner in (
      ap (λ k. less m (shifted k b.value)) (complement a.value a.width m word.below most f)
          ∙ ap (λ k. less m k) (shifted_is (word_not a).value b.value a.width inner most)
          ∙ complement (word_shr (word_not a) b).value a.width m moved most f,
      sar_negative a b t,
    ))
    (λ t. (shifted_is a.value b.value a.width word.below most, sar_other a b word t))

picked_value : (t : ℕ) (a b : Bits) → t < 2 → (if nat_eq t 0 then b.value else a.value) ≡ (if t == 1 then a else b).value
picked_value zero a b h = refl
picked_value (suc zero) a b h = refl
picked_value (suc (suc n)) a b h = absurd (omega arith)

joined_is : (a b j k : ℕ) → a < 2 ^ j → b < 2 ^ k → j + k ≤ 64 → bit_or (a * 2 ^ k % 2 ^ 64) b ≡ a * 2 ^ k + b
joined_is a b j k h l m =
    let p : 2 ^ (j + k) ≤ 2 ^ 64 = pow_mono {i = j + k} {j = 64} m in
    let whole = joined_below a j b k h l in
    let small : a * 2 ^ k < 2 ^ 64 = omega arith in
    ap (λ n. bit_or n b) (mod-eq_of_lt small) ∙ or_shifted a k b l

filled : (a v w f : ℕ) → a < 2 ^ v → v ≤ w → w ≤ 64 → f ≡ 2 ^ w - 2 ^ v → (a + f) % 2 ^ 64 ≡ 2 ^ w - 1 - (2 ^ v - 1 - a)
filled a v w f h k m e =
    let p : 2 ^ v ≤ 2 ^ w = pow_mono {i = v} {j = w} k in
    let q : 2 ^ w ≤ 2 ^ 64 = pow_mono {i = w} {j = 64} m in
    mod-eq_of_lt (omega arith) ∙ omega arith

sign_extended_is : (a : Bits) (width sign f : ℕ) → IsWord a → a.width ≤ width → width ≤ 64 → sign ≡ 2 ^ (a.width - 1) → f ≡ 2 ^ width - 2 ^ a.width
    → (if nat_le sign a.value then (a.value + f) % 2 ^ 64 else a.value) ≡ (word_sign_extend a width).value
sign_extended_is a width sign f word k m e g =
    ap (λ s. if nat_le s a.value then (a.value + f) % 2 ^ 64 else a.value) e
    ∙ split_sign (is_negative a) _ _ (word_not (word_extend (word_not a) width)) (word_extend a width) (word_sign_extend a width)
    (λ t. (filled a.value a.width width f word.below k m g, sign_extend_negative a width k t))
    (λ t. (refl, sign_extend_other a width word k t))

-- ---- the forms

module _ (us ns : List ℕ) (inputs registers : List Bits) (V : Values) (read : AreRead us ns V) where
  abbrev Read : ℕ → Type 0
  Read k = IsRead (slice_index ns k) (width_at us k) (V k)

  -- two operands of one width
  record AreEven (a b : ℕ) : Type 0 where
    first : Read a
    second : Read b
    same : (V a).width ≡ (V b).width

  even : (a b : ℕ) → a < length us → b < length us → width_at us a ≤ 64 → width_at us a ≡ width_at us b → AreEven a b
  even a b h k n e =
      let p = read a h n in
      let q = read b k (subst (λ w. w ≤ 64) e n) in
      record { first = p; second = q; same = sym p.is_width ∙ e ∙ q.is_width }

  as_word : (a : ℕ) → Read a → IsWord (V a)
  as_word a r = record { some = r.some; most = omega (arith, r.most); below = r.below }

  -- an operator of two words of one width, with a number that is its value
  two : (o : Operator) (a b n : ℕ) → is_shift o ≡ false → (V a).width ≡ (V b).width → n ≡ (operate o (V a) (V b)).value → n ≡ (between o (V a) (V b)).value
  two o a b n s e h = h ∙ ap (λ (w : Bits). w.value) (sym (between_even o (V a) (V b) s e))

  shift : (o : Operator) (a b n : ℕ) → is_shift o ≡ true → n ≡ (operate o (V a) (V b)).value → n ≡ (between o (V a) (V b)).value
  shift o a b n s h = h ∙ ap (λ (w : Bits). w.value) (sym (between_shift o (V a) (V b) s))

  mask_of : (a m : ℕ) → Read a → m ≡ 2 ^ width_at us a - 1 → m ≡ 2 ^ (V a).width - 1
  mask_of a m r e = e ∙ ap (λ k. 2 ^ k - 1) r.is_width

  sign_of : (a m : ℕ) → Read a → m ≡ 2 ^ (width_at us a - 1) → m ≡ 2 ^ ((V a).width - 1)
  sign_of a m r e = e ∙ ap (λ k. 2 ^ (k - 1)) r.is_width

  pub and_law : (x : And) → and_right us x → and_number ns x ≡ (computed inputs registers V (and_node x)).value
  and_law x right =
      let e = even x.a x.b right.0.0 right.0.1 right.1 right.2 in
      two operator.And x.a x.b (and_number ns x) refl e.same (ap₂ bit_and e.first.is_value e.second.is_value)

  pub or_law : (x : Or) → or_right us x → or_number ns x ≡ (computed inputs registers V (or_node x)).value
  or_law x right =
      let e = even x.a x.b right.0.0 right.0.1 right.1 right.2 in
      two operator.Or x.a x.b (or_number ns x) refl e.same (ap₂ bit_or e.first.is_value e.second.is_value)

  pub xor_law : (x : Xor) → xor_right us x → xor_number ns x ≡ (computed inputs registers V (xor_node x)).value
  xor_law x right =
      let e = even x.a x.b right.0.0 right.0.1 right.1 right.2 in
      two operator.Xor x.a x.b (xor_number ns x) refl e.same (ap₂ bit_xor e.first.is_value e.second.is_value)

  pub not_law : (x : Not) → not_right us x → not_number ns x ≡ (computed inputs registers V (not_node x)).value
  not_law x right =
      let a = read x.a right.0 right.1 in
      ap (λ p. less x.mask p) a.is_value ∙ complement (V x.a).value (V x.a).width x.mask a.below a.most (mask_of x.a x.mask a right.2)

  pub add_law : (x : Add) → add_right us x → add_number ns x ≡ (computed inputs registers V (add_node x)).value
  add_law x right =
      let e = even x.a x.b right.0.0 right.0.1 right.1 right.2 in
      two operator.Add x.a x.b (add_number ns x) refl e.same
      (ap₂ (λ p q. bit_and ((p + q) % 2 ^ 64) x.mask) e.first.is_value e.second.is_value
      ∙ masked ((V x.a).value + (V x.b).value) (V x.a).width x.mask e.first.most (mask_of x.a x.mask e.first right.3))

  pub mul_law : (x : Mul) → mul_right us x → mul_number ns x ≡ (computed inputs registers V (mul_node x)).value
  mul_law x right =
      let e = even x.a x.b right.0.0 right.0.1 right.1 right.2 in
      two operator.Mul x.a x.b (mul_number ns x) refl e.same
      (ap₂ (λ p q. bit_and ((p * q) % 2 ^ 64) x.mask) e.first.is_value e.second.is_value
      ∙ masked ((V x.a).value * (V x.b).value) (V x.a).width x.mask e.first.most (mask_of x.a x.mask e.first right.3))

  pub sub_law : (x : Sub) → sub_right us x → sub_number ns x ≡ (computed inputs registers V (sub_node x)).value
  sub_law x right =
      let e = even x.a x.b right.0.0 right.0.1 right.1 right.2 in
      let below : (V x.b).value < 2 ^ (V x.a).width = subst (λ (k : ℕ). (V x.b).value < 2 ^ k) (sym e.same) e.second.below in
      two operator.Sub x.a x.b (sub_number ns x) refl e.same
      (ap₂ (λ p q. bit_and ((p + (2 ^ 64 - q)) % 2 ^ 64) x.mask) e.first.is_value e.second.is_value
      ∙ masked ((V x.a).value + (2 ^ 64 - (V x.b).value)) (V x.a).width x.mask e.first.most (mask_of x.a x.mask e.first right.3)
      ∙ wraps (V x.a).value (V x.b).value (V x.a).width e.first.most below)

  pub same_law : (x : Same) → same_right us x → same_number ns x ≡ (computed inputs registers V (same_node x)).value
  same_law x right =
      let e = even x.a x.b right.0.0 right.0.1 right.1 right.2 in
      two operator.Same x.a x.b (same_number ns x) refl e.same (ap₂ (λ p q. if nat_eq p q then 1 else 0) e.first.is_value e.second.is_value)

  pub less_law : (x : Less) → less_right us x → less_number ns x ≡ (computed inputs registers V (less_node x)).value
  less_law x right =
      let e = even x.a x.b right.0.0 right.0.1 right.1 right.2 in
      two operator.Less x.a x.b (less_number ns x) refl e.same (ap₂ (λ p q. if nat_lt p q then 1 else 0) e.first.is_value e.second.is_value)

  pub less_signed_law : (x : LessSigned) → less_signed_right us x → less_signed_number ns x ≡ (computed inputs registers V (less_signed_node x)).value
  less_signed_law x right =
      let e = even x.a x.b right.0.0 right.0.1 right.1 right.2 in
      let is = less_signed_is (V x.a) (V x.b) x.sign e.same e.first.below e.second.below (sign_of x.a x.sign e.first right.3) in
      two operator.LessSigned x.a x.b (less_signed_number ns x) refl e.same
      (ap₂ (λ p q. if below_signed x.sign p q then 1 else 0) e.first.is_value e.second.is_value ∙ ap (λ t. if t then 1 else 0) is)

  pub shl_law : (x : Shl) → shl_right us x → shl_number ns x ≡ (computed inputs registers V (shl_node x)).value
  shl_law x right =
      let a = read x.a right.0.0 right.1 in
      let b = read x.b right.0.1 right.2 in
      shift operator.Shl x.a x.b (shl_number ns x) refl
      (ap₂ (λ p q. if nat_lt q 64 then bit_and (p * 2 ^ q % 2 ^ 64) x.mask else 0) a.is_value b.is_value
      ∙ shl_is (V x.a).value (V x.b).value (V x.a).width x.mask a.most (mask_of x.a x.mask a right.3))

  pub shr_law : (x : Shr) → shr_right us x → shr_number ns x ≡ (computed inputs registers V (shr_node x)).value
  shr_law x right =
      let a = read x.a right.0.0 right.1 in
      let b = read x.b right.0.1 right.2 in
      shift operator.Shr x.a x.b (shr_number ns x) refl
      (ap₂ (λ p q. shifted p q) a.is_value b.is_value ∙ shifted_is (V x.a).value (V x.b).value (V x.a).width a.below a.most)

  pub sar_law : (x : Sar) → sar_right us x → sar_number ns x ≡ (computed inputs registers V (sar_node x)).value
  sar_law x right =
      let a = read x.a right.0.0 right.1 in
      let b = read x.b right.0.1 right.2 in
      shift operator.Sar x.a x.b (sar_number ns x) refl
      (ap₂ (λ p q. if nat_le x.sign p then less x.mask (shifted (less x.mask p) q) else shifted p q) a.is_value b.is_value
      ∙ sar_is (V x.a) (V x.b) x.sign x.mask (as_word x.a a) a.most (sign_of x.a x.sign a right.4) (mask_of x.a x.mask a right.3))

  pub known_law : (x : Known) → known_right us x → known_number ns x ≡ (computed inputs registers V (known_node x)).value
  known_law x right = refl

  pub pick_law : (x : Pick) → pick_right us x → pick_number ns x ≡ (computed inputs registers V (pick_node x)).value
  pick_law x right =
      let e = even x.a x.b right.0.1 right.0.2 right.2 right.3 in
      let one : width_at us x.test ≤ 64 = omega (arith, right.1) in
      let t = read x.test right.0.0 one in
      let small : (V x.test).value < 2 = subst (λ (k : ℕ). (V x.test).value < 2 ^ k) (sym t.is_width ∙ right.1) t.below in
      ap (λ p. if nat_eq p 0 then slice_index ns x.b else slice_index ns x.a) t.is_value
      ∙ ap₂ (λ p q. if nat_eq (V x.test).value 0 then q else p) e.first.is_value e.second.is_value
      ∙ picked_value (V x.test).value (V x.a) (V x.b) small

  pub slice_law : (x : Slice) → slice_right us x → slice_number ns x ≡ (computed inputs registers V (slice_node x)).value
  slice_law x right =
      let a = read x.a right.0.0 right.1 in
      let within : x.high < (V x.a).width = subst (λ (k : ℕ). x.high < k) a.is_width right.3 in
      ap₂ (λ p m. bit_and (p / 2 ^ x.low) m) a.is_value right.4
      ∙ and_mask ((V x.a).value / 2 ^ x.low) (x.high - x.low + 1)
      ∙ ap (λ (w : Bits). w.value) (sym (sliced_is (V x.a) x.high x.low right.2 within))

  pub join_law : (x : Join) → join_right us x → join_number ns x ≡ (computed inputs registers V (join_node x)).value
  join_law x right =
      let low_narrow : width_at us x.b ≤ 64 = omega (arith, right.2) in
      let high_narrow : width_at us x.a ≤ 64 = omega (arith, right.2) in
      let a = read x.a right.0.0 high_narrow in
      let b = read x.b right.0.1 low_narrow in
      let most : (V x.a).width + (V x.b).width ≤ 64 = omega (arith, right.2, a.is_width, b.is_width) in
      ap₂ (λ p q. bit_or (p * 2 ^ x.low % 2 ^ 64) q) a.is_value b.is_value
      ∙ ap (λ k. bit_or ((V x.a).value * 2 ^ k % 2 ^ 64) (V x.b).value) (right.1 ∙ b.is_width)
      ∙ joined_is (V x.a).value (V x.b).value (V x.a).width (V x.b).width a.below b.below most
      ∙ ap (λ (w : Bits). w.value) (sym (joined_words (V x.a) (V x.b) (omega (arith, most))))

  pub extended_law : (x : Extended) → extended_right us x → extended_number ns x ≡ (computed inputs registers V (extended_node x)).value
  extended_law x right =
      let narrow : width_at us x.a ≤ 64 = omega (arith, right.1, right.2) in
      let a = read x.a right.0 narrow in
      let wider : (V x.a).width ≤ x.width = subst (λ (k : ℕ). k ≤ x.width) a.is_width right.1 in
      let most : x.width ≤ 128 = omega (arith, right.2) in
      a.is_value ∙ ap (λ (w : Bits). w.value) (sym (extended_is (V x.a) x.width wider most))

  pub sign_extended_law : (x : SignExtended) → sign_extended_right us x → sign_extended_number ns x ≡ (computed inputs registers V (sign_extended_node x)).value
  sign_extended_law x right =
      let narrow : width_at us x.a ≤ 64 = omega (arith, right.1, right.2) in
      let a = read x.a right.0 narrow in
      let wider : (V x.a).width ≤ x.width = subst (λ (k : ℕ). k ≤ x.width) a.is_width right.1 in
      let most : x.width ≤ 128 = omega (arith, right.2) in
      ap (λ p. if nat_le x.sign p then (p + x.fill) % 2 ^ 64 else p) a.is_value
      ∙ sign_extended_is (V x.a) x.width x.sign x.fill (as_word x.a a) wider right.2 (sign_of x.a x.sign a right.3) (right.4 ∙ ap (λ k. 2 ^ x.width - 2 ^ k) a.is_width)
      ∙ ap (λ (w : Bits). w.value) (sym (sign_extended_word (V x.a) x.width wider most))
