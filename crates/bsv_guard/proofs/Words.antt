-- What operators give are words of their widths.
use Rattle.std.proofs.Common.{◌≡◌, ℕ, ◌+◌, ◌-◌, ◌*◌, ◌/◌, ◌%◌, ◌^◌, ◌<◌, ◌≤◌, Bool, true, false, ◌&&◌, Some, sym, subst, arith}
use Rattle.std.specs.Prelude.{◌==◌, nat_le, nat_lt, bit_and, bit_or, bit_xor, if◌then◌else◌, ℤ, pos, negsuc}
use Rattle.std.specs.Int.{int_shr}
use Rattle.std.proofs.lemmas.Bool.{and_parts, leb-true, ltb-true, eqb-true}
use Rattle.std.proofs.lemmas.Nat.{or_lt, xor_lt, and_le_l, shr_le}
use Rattle.std.proofs.Math.Pow.{pow_pos}
use Rattle.bsv_bits.specs.Words.{Bits, IsWord, bit, reduced, word_not, word_add, word_sub, word_mul, word_and, word_or, word_xor, word_same, word_less, word_slice, word_concat, word_extend}
use Rattle.bsv_bits.specs.Signed.{signed_value, wrapped, word_less_signed, word_sign_extend}
use Rattle.bsv_bits.specs.declared.operator.Operator.{Operator}
use Rattle.bsv_bits.specs.declared.operator.Operator.TheVariants as operator
use Rattle.bsv_bits.proofs.Modulo.{below_more_bits, joined_below}
use Rattle.bsv_prim.specs.Table.{IsWordOf}
use Rattle.bsv_design.specs.design.Computing as computing
use Rattle.bsv_design.specs.design.Widths.{if_width, word_width, two_width, slice_width, join_width, extend_width}
use Rattle.bsv_guard.proofs.Nodes.{where_width}

below_power : (n w : ℕ) → n % 2 ^ w < 2 ^ w
below_power n w = let p : 0 < 2 ^ w = pow_pos w in omega arith

complement_below : (n w : ℕ) → 2 ^ w - 1 - n < 2 ^ w
complement_below n w = let p : 0 < 2 ^ w = pow_pos w in omega arith

-- a word of this width, with any value that it holds
held : (w n v : ℕ) → 1 ≤ w → w ≤ 128 → n < 2 ^ w → w ≡ v → IsWordOf v (record { width = w; value = n })
held w n v some most below same = record { word = record { some = some; most = most; below = below }; same_width = same }

reduced_fits : (w n v : ℕ) → 1 ≤ w → w ≤ 128 → w ≡ v → IsWordOf v (reduced w n)
reduced_fits w n v some most same = held w (n % 2 ^ w) v some most (below_power n w) same

bit_fits : (b : Bool) (v : ℕ) → 1 ≡ v → IsWordOf v (bit b)
bit_fits true v e = record { word = record { some = omega arith; most = omega arith; below = omega arith }; same_width = e }
bit_fits false v e = record { word = record { some = omega arith; most = omega arith; below = omega arith }; same_width = e }

wrapped_fits : (w : ℕ) (z : ℤ) (v : ℕ) → 1 ≤ w → w ≤ 128 → w ≡ v → IsWordOf v (wrapped w z)
wrapped_fits w (pos n) v some most same = reduced_fits w n v some most same
wrapped_fits w (negsuc n) v some most same = held w (2 ^ w - 1 - n % 2 ^ w) v some most (complement_below (n % 2 ^ w) w) same

-- ---- by widths

pub constant_fits : (x : Bits) (v : ℕ) → word_width x ≡ Some v → IsWordOf v x
constant_fits x v e =
    let given = where_width (nat_le 1 x.width && nat_le x.width 128 && nat_lt x.value (2 ^ x.width)) x.width v e in
    let first = and_parts (nat_le 1 x.width && nat_le x.width 128) (nat_lt x.value (2 ^ x.width)) given.0 in
    let own = and_parts (nat_le 1 x.width) (nat_le x.width 128) first.0 in
    held x.width x.value v (leb-true 1 x.width own.0) (leb-true x.width 128 own.1) (ltb-true x.value (2 ^ x.width) first.1) given.1

pub not_fits : (a : Bits) (v : ℕ) → IsWordOf v a → IsWordOf v (word_not a)
not_fits a v h = held a.width (2 ^ a.width - 1 - a.value) v h.word.some h.word.most (complement_below a.value a.width) h.same_width

and_below : (a b : Bits) → IsWord a → bit_and a.value b.value < 2 ^ a.width
and_below a b h = let l = and_le_l a.value b.value in let below = h.below in omega arith

-- of two words of one width
abbrev Chosen : Bits → Bits → Bool → Bits → ℕ → Type 0
Chosen a b t x v = IsWordOf v (if t then x else a)

together : (a b x : Bits) (k v : ℕ) → if_width (a.width == b.width) k ≡ Some v → (a.width ≡ b.width → k ≡ v → IsWordOf v x) → IsWordOf v (if a.width == b.width then x else a)
together a b x k v e h =
    let given = where_width (a.width == b.width) k v e in
    subst (λ (t : Bool). Chosen a b t x v) (sym given.0) (h (eqb-true a.width b.width given.0) given.1)

alone : (a : Bits) (k v : ℕ) → Some k ≡ Some v → k ≡ v
alone a k v e = cc

pub two_fits : (o : Operator) (a b : Bits) (v : ℕ) → IsWord a → IsWord b → two_width o (Some a.width) (Some b.width) ≡ Some v → IsWordOf v (computing.between o a b)
unfolding computing.between
two_fits operator.Add a b v h k e = together a b (word_add a b) a.width v e (λ s t. reduced_fits a.width (a.value + b.value) v h.some h.most t)
two_fits operator.Sub a b v h k e = together a b (word_sub a b) a.width v e (λ s t. reduced_fits a.width (a.value + (2 ^ a.width - b.value)) v h.some h.most t)
two_fits operator.Mul a b v h k e = together a b (word_mul a b) a.width v e (λ s t. reduced_fits a.width (a.value * b.value) v h.some h.most t)
two_fits operator.And a b v h k e = together a b (word_and a b) a.width v e (λ s t. held a.width (bit_and a.value b.value) v h.some h.most (and_below a b h) t)
two_fits operator.Or a b v h k e =
    together a b (word_or a b) a.width v e
    (λ s t. held a.width (bit_or a.value b.value) v h.some h.most (or_lt a.width a.value b.value h.below (subst (λ (n : ℕ). b.value < 2 ^ n) (sym s) k.below)) t)
two_fits operator.Xor a b v h k e =
    together a b (word_xor a b) a.width v e
    (λ s t. held a.width (bit_xor a.value b.value) v h.some h.most (xor_lt a.width a.value b.value h.below (subst (λ (n : ℕ). b.value < 2 ^ n) (sym s) k.below)) t)
two_fits operator.Same a b v h k e = together a b (bit (word_same a b)) 1 v e (λ s t. bit_fits (word_same a b) v t)
two_fits operator.Less a b v h k e = together a b (bit (word_less a b)) 1 v e (λ s t. bit_fits (word_less a b) v t)
two_fits operator.LessSigned a b v h k e = together a b (bit (word_less_signed a b)) 1 v e (λ s t. bit_fits (word_less_signed a b) v t)
two_fits operator.Shl a b v h k e = reduced_fits a.width (a.value * 2 ^ b.value) v h.some h.most (alone a a.width v e)
two_fits operator.Shr a b v h k e =
    let l = shr_le a.value b.value in
    let below = h.below in
    held a.width (a.value / 2 ^ b.value) v h.some h.most (omega arith) (alone a a.width v e)
two_fits operator.Sar a b v h k e = wrapped_fits a.width (int_shr (signed_value a) b.value) v h.some h.most (alone a a.width v e)

pub pick_fits : (t a b : Bits) (u v : ℕ) → IsWordOf v a → IsWordOf v b → IsWordOf v (computing.picked t a b)
pick_fits t a b u v h k = cases (t.value == 1)
  where
    cases : (c : Bool) → IsWordOf v (if c then a else b)
    cases true = h
    cases false = k

pub slice_fits : (a : Bits) (high low v : ℕ) → IsWord a → slice_width (Some a.width) high low ≡ Some v → IsWordOf v (computing.sliced a high low)
unfolding computing.sliced
slice_fits a high low v h e =
    let given = where_width (nat_le low high && nat_lt high a.width) (high - low + 1) v e in
    let parts = and_parts (nat_le low high) (nat_lt high a.width) given.0 in
    let below = ltb-true high a.width parts.1 in
    let most = h.most in
    subst (λ (t : Bool). IsWordOf v (if t then word_slice a high low else a)) (sym given.0)
    (reduced_fits (high - low + 1) (a.value / 2 ^ low) v (omega arith) (omega arith) given.1)

pub join_fits : (a b : Bits) (v : ℕ) → IsWord a → IsWord b → join_width (Some a.width) (Some b.width) ≡ Some v → IsWordOf v (computing.joined a b)
unfolding computing.joined
join_fits a b v h k e =
    let given = where_width (nat_le (a.width + b.width) 128) (a.width + b.width) v e in
    let most = leb-true (a.width + b.width) 128 given.0 in
    let some = h.some in
    subst (λ (t : Bool). IsWordOf v (if t then word_concat a b else a)) (sym given.0)
    (held (a.width + b.width) (a.value * 2 ^ b.width + b.value) v (omega arith) most (joined_below a.value a.width b.value b.width h.below k.below) given.1)

wider : (a : Bits) (width v : ℕ) → extend_width (Some a.width) width ≡ Some v → ((nat_le a.width width && nat_le width 128) ≡ true) × (a.width ≤ width) × (width ≤ 128) × (width ≡ v)
wider a width v e =
    let given = where_width (nat_le a.width width && nat_le width 128) width v e in
    let parts = and_parts (nat_le a.width width) (nat_le width 128) given.0 in
    (given.0, leb-true a.width width parts.0, leb-true width 128 parts.1, given.1)

pub extend_fits : (a : Bits) (width v : ℕ) → IsWord a → extend_width (Some a.width) width ≡ Some v → IsWordOf v (computing.extended a width)
unfolding computing.extended
extend_fits a width v h e =
    let given = wider a width v e in
    let some = h.some in
    let long = given.1 in
    subst (λ (t : Bool). IsWordOf v (if t then word_extend a width else a)) (sym given.0)
    (held width a.value v (omega arith) given.2 (below_more_bits a.value a.width width h.below long) given.3)

pub sign_extend_fits : (a : Bits) (width v : ℕ) → IsWord a → extend_width (Some a.width) width ≡ Some v → IsWordOf v (computing.sign_extended a width)
unfolding computing.sign_extended
sign_extend_fits a width v h e =
    let given = wider a width v e in
    let some = h.some in
    let long = given.1 in
    subst (λ (t : Bool). IsWordOf v (if t then word_sign_extend a width else a)) (sym given.0)
    (wrapped_fits width (signed_value a) v (omega arith) given.2 given.3)
