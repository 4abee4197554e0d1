-- Numbers that grow by their digits.
use Rattle.std.proofs.Common.{ℕ, ◌+◌, ◌*◌, ◌<◌, ◌≤◌, arith}
use Rattle.std.proofs.Math.Nat.{le-mul_of_pos_right}

pub grows_by_digit : (base number digit : ℕ) → 1 ≤ base → number ≤ number * base + digit
grows_by_digit base number digit some =
    let positive : 0 < base = omega (arith, some) in
    omega (arith, le-mul_of_pos_right {m = base} number positive)
