-- Numbers modulo powers of two.
use Rattle.std.proofs.Common.{◌≡◌, ℕ, ◌+◌, ◌-◌, ◌*◌, ◌/◌, ◌%◌, ◌^◌, ◌<◌, ◌≤◌, arith, ap, subst, sym, ◌∙◌}
use Rattle.std.proofs.Math.Pow.{mod-mod-pow, pow_mono, pow_pos}
use Rattle.std.proofs.Math.Nat.{add-mul-mod_self_left, div-eq_of_lt}
use Rattle.std.proofs.lemmas.Nat.{pow-add, div-mul-add}
use Rattle.bsv_bits.specs.Words.{IsWord}

-- 128 bits first, and then fewer
pub fewer_bits : (n w : ℕ) → w ≤ 128 → n % 2 ^ 128 % 2 ^ w ≡ n % 2 ^ w
fewer_bits n w h =
    let e : (128 - w) + w ≡ 128 = omega arith in
    subst (λ (k : ℕ). n % 2 ^ k % 2 ^ w ≡ n % 2 ^ w) e (mod-mod-pow n (128 - w) w)

-- a number of few bits is one of many
pub below_more_bits : (n v w : ℕ) → n < 2 ^ v → v ≤ w → n < 2 ^ w
below_more_bits n v w h k = omega (arith, pow_mono {i = v} {j = w} k)

pub IsWord-extend : (w v n : ℕ) → IsWord (record { width = v; value = n }) → v ≤ w → w ≤ 128 → IsWord (record { width = w; value = n })
IsWord-extend w v n h k m = record { some = omega (arith, h.some); most = m; below = below_more_bits n v w h.below k }

pub IsWord_zero : (w : ℕ) → 1 ≤ w → w ≤ 128 → IsWord (record { width = w; value = 0 })
IsWord_zero w h m = record { some = h; most = m; below = pow_pos w }

-- a number of one width above one of another has both widths
pub joined_below : (a j b k : ℕ) → a < 2 ^ j → b < 2 ^ k → a * 2 ^ k + b < 2 ^ (j + k)
joined_below a j b k h l =
    rw (pow-add 2 j k)
    (let p : (a + 1) * 2 ^ k ≤ 2 ^ j * 2 ^ k = grind arith in
    let q : (a + 1) * 2 ^ k ≡ a * 2 ^ k + 2 ^ k = omega arith in
    omega arith)

-- the power of a larger width is a multiple
power_split : (w m : ℕ) → w ≤ m → 2 ^ m ≡ 2 ^ w * 2 ^ (m - w)
power_split w m h =
    let e : m ≡ w + (m - w) = omega arith in
    ap (λ (k : ℕ). 2 ^ k) e ∙ pow-add 2 w (m - w)

-- a borrow past 128 bits is one past fewer
pub difference_wraps : (a b w : ℕ) → w ≤ 128 → b < 2 ^ w → (a + (2 ^ 128 - b)) % 2 ^ 128 % 2 ^ w ≡ (a + (2 ^ w - b)) % 2 ^ w
difference_wraps a b w h l =
    fewer_bits (a + (2 ^ 128 - b)) w h
    ∙ (let p : 2 ^ w ≤ 2 ^ 128 = pow_mono {i = w} {j = 128} h in
    let pos : 0 < 2 ^ (128 - w) = pow_pos (128 - w) in
    let s = power_split w 128 h in
    let one : 2 ^ w * 2 ^ (128 - w) ≡ 2 ^ w + 2 ^ w * (2 ^ (128 - w) - 1) = more (2 ^ w) (2 ^ (128 - w)) pos in
    let e : a + (2 ^ 128 - b) ≡ (a + (2 ^ w - b)) + 2 ^ w * (2 ^ (128 - w) - 1) = omega arith in
    ap (λ (n : ℕ). n % 2 ^ w) e ∙ add-mul-mod_self_left (a + (2 ^ w - b)) (2 ^ w) (2 ^ (128 - w) - 1))
  where
    more : (x y : ℕ) → 0 < y → x * y ≡ x + x * (y - 1)
    more x y h = let e : y ≡ (y - 1) + 1 = omega arith in ap (λ (n : ℕ). x * n) e ∙ omega arith

-- nothing is left of a number shifted up by the width or more
pub shifted_out : (n k w : ℕ) → w ≤ k → n * 2 ^ k % 2 ^ w ≡ 0
shifted_out n k w h =
    let s = power_split w k h in
    let e : n * 2 ^ k ≡ 0 + 2 ^ w * (n * 2 ^ (k - w)) = rw s (omega arith) in
    ap (λ (m : ℕ). m % 2 ^ w) e ∙ add-mul-mod_self_left 0 (2 ^ w) (n * 2 ^ (k - w)) ∙ zero_mod (2 ^ w) (pow_pos w)
  where
    zero_mod : (m : ℕ) → 0 < m → 0 % m ≡ 0
    zero_mod m h = grind arith

-- the ones of a width are the upper bits of those of 128
pub ones_above : (w : ℕ) → w ≤ 128 → (2 ^ 128 - 1) / 2 ^ (128 - w) ≡ 2 ^ w - 1
ones_above w h =
    let e : w + (128 - w) ≡ 128 = omega arith in
    let s : 2 ^ 128 ≡ 2 ^ w * 2 ^ (128 - w) = ap (λ (k : ℕ). 2 ^ k) (sym e) ∙ pow-add 2 w (128 - w) in
    let low : 0 < 2 ^ (128 - w) = pow_pos (128 - w) in
    let high : 0 < 2 ^ w = pow_pos w in
    let split : 2 ^ w * 2 ^ (128 - w) ≡ (2 ^ w - 1) * 2 ^ (128 - w) + 2 ^ (128 - w) = one_more (2 ^ w) (2 ^ (128 - w)) high in
    let is : 2 ^ 128 - 1 ≡ (2 ^ w - 1) * 2 ^ (128 - w) + (2 ^ (128 - w) - 1) = omega arith in
    ap (λ (n : ℕ). n / 2 ^ (128 - w)) is ∙ div-mul-add (2 ^ w - 1) (2 ^ (128 - w)) (2 ^ (128 - w) - 1) (omega arith)
  where
    one_more : (x y : ℕ) → 0 < x → x * y ≡ (x - 1) * y + y
    one_more x y h = let e : x ≡ (x - 1) + 1 = omega arith in ap (λ (n : ℕ). n * y) e ∙ omega arith

-- nothing is left of a number shifted down by the width or more
pub shifted_away : (n k w : ℕ) → n < 2 ^ w → w ≤ k → n / 2 ^ k ≡ 0
shifted_away n k w h l = div-eq_of_lt (below_more_bits n w k h l)
