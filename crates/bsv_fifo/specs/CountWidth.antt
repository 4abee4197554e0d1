-- The least width that holds a depth.
-- Proof alone: it is in specs/ since the `laws` of an impl may cite nothing of proofs/.
use Rattle.std.proofs.Common.{◌≡◌, ℕ, zero, suc, ◌+◌, ◌^◌, ◌<◌, ◌≤◌, Bool, true, false, refl, subst, arith}
use Rattle.std.specs.Prelude.{nat_lt, if◌then◌else◌}
use Rattle.std.proofs.lemmas.Bool.{ltb-true, ltb-false}
use Rattle.std.proofs.Math.Pow.{pow_mono}
use Rattle.bsv_fifo.specs.Queues.{least_width, count_width}

-- a number below a power has an exponent that is no less
pub above : (n a b : ℕ) → 2 ^ a ≤ n → n < 2 ^ b → a < b
above n a b h k = cases (nat_lt a b) refl
  where
    cases : (t : Bool) → nat_lt a b ≡ t → a < b
    cases true e = ltb-true a b e
    cases false e =
        let grows : 2 ^ b ≤ 2 ^ a = pow_mono (ltb-false a b e) in
        omega arith

-- the width that is found holds the number, where the last one that is tried does
holds_by : (more width n : ℕ) → n < 2 ^ (width + more) → n < 2 ^ least_width more width n
holds_by zero width n h = let same : width + 0 ≡ width = omega arith in subst (λ (k : ℕ). n < 2 ^ k) same h
holds_by (suc more) width n h =
    cases (nat_lt n (2 ^ width)) refl (holds_by more (width + 1) n (subst (λ (k : ℕ). n < 2 ^ k) same h))
  where
    same : width + suc more ≡ width + 1 + more
    same = omega arith

    cases : (t : Bool) → nat_lt n (2 ^ width) ≡ t → n < 2 ^ least_width more (width + 1) n → n < 2 ^ (if t then width else least_width more (width + 1) n)
    cases true e later = ltb-true n (2 ^ width) e
    cases false e later = later

-- no other width from the first one on that holds the number is less
pub least_by : (more width n k : ℕ) → width ≤ k → n < 2 ^ k → least_width more width n ≤ k
least_by zero width n k h l = h
least_by (suc more) width n k h l =
    cases (nat_lt n (2 ^ width)) refl (λ longer. least_by more (width + 1) n k longer l)
  where
    cases : (t : Bool) → nat_lt n (2 ^ width) ≡ t → (width + 1 ≤ k → least_width more (width + 1) n ≤ k) → (if t then width else least_width more (width + 1) n) ≤ k
    cases true e later = h
    cases false e later =
        let longer : width < k = above n width k (ltb-false n (2 ^ width) e) l in
        later (omega arith)

from : (more width n : ℕ) → width ≤ least_width more width n
from zero width n = omega arith
from (suc more) width n = cases (nat_lt n (2 ^ width)) (from more (width + 1) n)
  where
    cases : (t : Bool) → width + 1 ≤ least_width more (width + 1) n → width ≤ (if t then width else least_width more (width + 1) n)
    cases true later = omega arith
    cases false later = omega arith

pub some_count_width : (depth : ℕ) → 1 ≤ count_width depth
some_count_width depth = from 6 1 depth

pub depth_fits : (depth : ℕ) → depth ≤ 64 → depth < 2 ^ count_width depth
depth_fits depth most = holds_by 6 1 depth (omega arith)

pub few_count_width : (depth : ℕ) → depth ≤ 64 → count_width depth ≤ 7
few_count_width depth most = least_by 6 1 depth 7 (omega arith) (omega arith)
