-- The width of an enum.
use Rattle.std.proofs.Common.{ℕ, zero, suc, ◌+◌, ◌-◌, ◌^◌, ◌<◌, ◌≤◌, ◌≡◌, Bool, true, false, nat_lt, if◌then◌else◌, arith, refl, sym}
use Rattle.std.proofs.Math.Pow.{pow_mono}
use Rattle.std.proofs.lemmas.Bool.{ltb-false}
use borrow.Author.Tests.{ltb-true}
use Rattle.std.proofs.lemmas.List.{length-map}
use Rattle.bsv_types.specs.Widths.{IsLeast}
use Rattle.bsv_modules.specs.Programs.{width_from, enum_width}

by_test : (b : Bool) (w start rest : ℕ) → (b ≡ true → start ≡ w) → (b ≡ false → rest ≡ w) → (if b then start else rest) ≡ w
by_test true w start rest h k = h refl
by_test false w start rest h k = k refl

-- what the width holds and the start does not
above : (start w n : ℕ) → 2 ^ start ≤ n → n < 2 ^ w → w ≤ start → ⊥
above start w n low high under = let e : 2 ^ w ≤ 2 ^ start = pow_mono under in omega arith

next : (start w : ℕ) → (w ≤ start → ⊥) → start + 1 ≤ w
next start w h = omega (arith, h)

pub least_from : (fuel start w n : ℕ) → IsLeast w n → start ≤ w → w ≤ start + fuel → width_from fuel start n ≡ w
least_from zero start w n least low high = omega arith
least_from (suc fuel) start w n least low high =
    by_test (nat_lt n (2 ^ start)) w start (width_from fuel (start + 1) n)
    (λ is. let e : w ≤ start = least.least start (ltb-true n (2 ^ start) is) in omega arith)
    (λ is. let e : start + 1 ≤ w = next start w (above start w n (ltb-false n (2 ^ start) is) least.holds) in
    least_from fuel (start + 1) w n least e (omega arith))

least_in : (fuel w n : ℕ) → IsLeast w n → n < 2 ^ fuel → w ≡ width_from fuel 0 n
least_in fuel w n least most = let e : w ≤ fuel = least.least fuel most in sym (least_from fuel 0 w n least (omega arith) (omega arith))

pub least_is : (labels w : ℕ) → IsLeast w (labels - 1) → labels ≤ 2 ^ 64 → w ≡ enum_width labels
unfolding enum_width
least_is labels w least most = least_in 64 w (labels - 1) least (omega arith)

pub ruleset widths = (least_is, length-map)
