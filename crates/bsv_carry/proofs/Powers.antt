-- Powers of 2.
use Rattle.std.proofs.Common.{◌≡◌, ℕ, ◌^◌, ◌<◌, ◌≤◌, true, nat_lt, arith}
use Rattle.std.proofs.Math.Pow.{pow_mono}
use Rattle.std.proofs.lemmas.Bool.{lt-ltb}

pub wide : (n k : ℕ) → n < 18446744073709551616 → 64 ≤ k → nat_lt n (2 ^ k) ≡ true
wide n k few le =
    let more : 2 ^ 64 ≤ 2 ^ k = pow_mono le in
    lt-ltb n (2 ^ k) (omega (arith, few, more))

pub ruleset powers = (wide)
