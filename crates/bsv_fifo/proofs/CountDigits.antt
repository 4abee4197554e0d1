-- The width of a count, from its leading zeros.
use Rattle.std.proofs.Common.{◌≡◌, ℕ, zero, suc, ◌+◌, ◌-◌, ◌*◌, ◌<◌, ◌≤◌, ◌^◌, arith, ◌∙◌}
use Rattle.std.specs.Int.Count.{count_leading_zeros}
use Rattle.std.proofs.lemmas.Nat.{leading_length}
use Rattle.std.proofs.Math.Nat.{pow-succ'}
use Rattle.bsv_fifo.specs.Queues.{count_width}
use Rattle.bsv_fifo.specs.CountWidth.{above, least_by, depth_fits, few_count_width}

-- no width that holds the depth is less than the count's
some_exponent : (k n : ℕ) → 1 ≤ n → n < 2 ^ k → 1 ≤ k
some_exponent zero n h l = absurd (let x : n < 1 = l in omega arith)
some_exponent (suc k) n h l = omega arith

count_width_least : (depth : ℕ) → 1 ≤ depth → (width : ℕ) → depth < 2 ^ width → count_width depth ≤ width
count_width_least depth some width l = least_by 6 1 depth width (some_exponent width depth some l) l

-- it is the number of binary digits
count_width_is : (depth digits : ℕ) → 1 ≤ depth → depth ≤ 64 → depth < 2 ^ digits → 2 ^ digits ≤ 2 * depth + 1 → digits ≡ count_width depth
count_width_is depth digits some most below full =
    let least = count_width_least depth some digits below in
    let fits = depth_fits depth most in
    let twice : 2 ^ suc (count_width depth) ≡ 2 * 2 ^ count_width depth = pow-succ' 2 (count_width depth) in
    let longer : digits < suc (count_width depth) = above (2 * depth + 1) digits (suc (count_width depth)) full (rw twice (omega arith)) in
    omega arith

pub digits_are : (depth : ℕ) → 1 ≤ depth → depth ≤ 64 → 32 - count_leading_zeros 32 depth ≡ count_width depth
digits_are depth some most =
    let digits = leading_length 32 depth (omega arith) in
    let rest : count_leading_zeros 32 depth + digits.0 ≡ 32 = digits.1 in
    let same : 32 - count_leading_zeros 32 depth ≡ digits.0 = omega arith in
    same ∙ count_width_is depth digits.0 some most digits.2 digits.3

pub digits_hold : (depth : ℕ) → 1 ≤ depth → depth ≤ 64 → depth < 2 ^ (32 - count_leading_zeros 32 depth)
digits_hold depth some most = rw (digits_are depth some most) (depth_fits depth most)

pub digits_least : (depth width : ℕ) → 1 ≤ depth → depth ≤ 64 → depth < 2 ^ width → 32 - count_leading_zeros 32 depth ≤ width
digits_least depth width some most h =
    rw (digits_are depth some most) (count_width_least depth some width h)

pub few_digits : (depth : ℕ) → 1 ≤ depth → depth ≤ 64 → 32 - count_leading_zeros 32 depth ≤ 7
few_digits depth some most = rw (digits_are depth some most) (few_count_width depth most)

pub ruleset count_digits = (digits_are, digits_hold, digits_least, few_digits)
