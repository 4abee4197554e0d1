-- Literals below powers, and below halves of powers.
use Rattle.std.proofs.Common.{ℕ, zero, suc, ◌<◌, ◌≤◌, ◌^◌, ◌*◌, ◌+◌, ◌-◌, ◌≡◌, ◌==◌, nat_lt, nat_le, true, refl, ap, sym, ◌∙◌, arith}
use Rattle.std.proofs.Math.Pow.{pow_mono}
use Rattle.std.proofs.Math.Nat.{pow-suc}
use Rattle.std.proofs.lemmas.Bool.{lt-ltb}
use Rattle.std.proofs.lemmas.Bool.Decides.{nat_tests}

pub below_wide : (value width : ℕ) → value < 2 ^ 128 → 128 ≤ width → nat_lt value (2 ^ width) ≡ true
below_wide value width fits wide = lt-ltb value (2 ^ width) (omega (arith, pow_mono wide))

pub ruleset powers = (below_wide)

double_below : (a b : ℕ) → nat_lt (2 * a) (b * 2) ≡ nat_lt a b
double_below a b = grind (arith, nat_tests)

double_within : (a b : ℕ) → 0 < a → nat_le (2 * a) (b * 2) ≡ nat_lt (a - 1) b
double_within a b some = grind (arith, nat_tests)

power_below : (value width : ℕ) → nat_lt (2 * value) (2 ^ suc width) ≡ nat_lt value (2 ^ width)
power_below value width = ap (nat_lt (2 * value)) (pow-suc 2 width) ∙ double_below value (2 ^ width)

power_within : (value width : ℕ) → 0 < value → nat_le (2 * value) (2 ^ suc width) ≡ nat_lt (value - 1) (2 ^ width)
power_within value width some = ap (nat_le (2 * value)) (pow-suc 2 width) ∙ double_within value (2 ^ width) some

pub below_half : (value width less : ℕ) → less + 1 ≡ width → nat_lt (2 * value) (2 ^ width) ≡ nat_lt value (2 ^ less)
below_half value width less is = let one_more : width ≡ suc less = omega arith in ap (λ w. nat_lt (2 * value) (2 ^ w)) one_more ∙ power_below value less

pub within_half : (value width less : ℕ) → 0 < value → less + 1 ≡ width → nat_le (2 * value) (2 ^ width) ≡ nat_lt (value - 1) (2 ^ less)
within_half value width less some is = let one_more : width ≡ suc less = omega arith in ap (λ w. nat_le (2 * value) (2 ^ w)) one_more ∙ power_within value less some

pub below_one : (value : ℕ) → nat_lt (2 * value) (2 ^ 0) ≡ (value == 0)
below_one value = grind (arith, nat_tests)

pub within_one : (value : ℕ) → 0 < value → nat_le (2 * value) (2 ^ 0) ≡ nat_lt 1 0
within_one value some = grind (arith, nat_tests)

pub zero_within : (power : ℕ) → nat_le (2 * 0) power ≡ true
zero_within power = grind (arith, nat_tests)

pub ruleset halves = (below_half, within_half, below_one, within_one, zero_within)
