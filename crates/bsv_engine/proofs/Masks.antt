-- Masks of so many bits.
use Rattle.std.proofs.Common.{◌≡◌, ℕ, ◌+◌, ◌-◌, ◌*◌, ◌/◌, ◌^◌, ◌<◌, ◌≤◌, arith, ap, sym, ◌∙◌}
use Rattle.std.proofs.Math.Pow.{pow_mono, pow_pos}
use Rattle.std.proofs.lemmas.Nat.{pow-add, div-mul-add}

one_more : (x y : ℕ) → 0 < x → x * y ≡ (x - 1) * y + y
one_more x y h = let e : x ≡ (x - 1) + 1 = omega arith in ap (λ (n : ℕ). n * y) e ∙ omega arith

-- the ones of a width are the upper bits of those of 64
pub ones_above : (w : ℕ) → w ≤ 64 → (2 ^ 64 - 1) / 2 ^ (64 - w) ≡ 2 ^ w - 1
ones_above w h =
    let e : w + (64 - w) ≡ 64 = omega arith in
    let s : 2 ^ 64 ≡ 2 ^ w * 2 ^ (64 - w) = ap (λ (k : ℕ). 2 ^ k) (sym e) ∙ pow-add 2 w (64 - w) in
    let low : 0 < 2 ^ (64 - w) = pow_pos (64 - w) in
    let high : 0 < 2 ^ w = pow_pos w in
    let split : 2 ^ w * 2 ^ (64 - w) ≡ (2 ^ w - 1) * 2 ^ (64 - w) + 2 ^ (64 - w) = one_more (2 ^ w) (2 ^ (64 - w)) high in
    let is : 2 ^ 64 - 1 ≡ (2 ^ w - 1) * 2 ^ (64 - w) + (2 ^ (64 - w) - 1) = omega arith in
    ap (λ (n : ℕ). n / 2 ^ (64 - w)) is ∙ div-mul-add (2 ^ w - 1) (2 ^ (64 - w)) (2 ^ (64 - w) - 1) (omega arith)

-- the power of a larger width is a multiple
pub power_split : (w m : ℕ) → w ≤ m → 2 ^ m ≡ 2 ^ w * 2 ^ (m - w)
power_split w m h =
    let e : m ≡ w + (m - w) = omega arith in
    ap (λ (k : ℕ). 2 ^ k) e ∙ pow-add 2 w (m - w)

-- a mask of fewer bits is below one of more
pub mask_below : (a b v w : ℕ) → a ≡ 2 ^ v - 1 → b ≡ 2 ^ w - 1 → v ≤ w → a ≤ b
mask_below a b v w e f h = let p : 2 ^ v ≤ 2 ^ w = pow_mono {i = v} {j = w} h in omega arith

pub fill_is : (a b v w : ℕ) → a ≡ 2 ^ v - 1 → b ≡ 2 ^ w - 1 → v ≤ w → b - a ≡ 2 ^ w - 2 ^ v
fill_is a b v w e f h = let p : 2 ^ v ≤ 2 ^ w = pow_mono {i = v} {j = w} h in let q : 0 < 2 ^ v = pow_pos v in omega arith
