-- The least width of a number, from that of its half.
use Rattle.std.proofs.Common.{◌≡◌, ℕ, zero, suc, ◌+◌, ◌*◌, ◌^◌, ◌<◌, ◌≤◌, ◌/◌, subst, arith}
use Rattle.std.proofs.lemmas.Grind.{pow_more}
use Rattle.bsv_types.specs.Widths.{IsLeast}

pub least_one : IsLeast 1 1
least_one = record { holds = omega arith; least = some }
  where
    some : (fewer : ℕ) → 1 < 2 ^ fewer → 1 ≤ fewer
    some zero h = absurd (omega arith)
    some (suc n) h = omega arith

pub least_more : (width number : ℕ) → 2 ≤ number → IsLeast width (number / 2) → IsLeast (1 + width) number
least_more width number some half =
    let power : 2 ^ (width + 1) ≡ 2 ^ width * 2 = pow_more 2 width in
    let order : width + 1 ≡ 1 + width = omega arith in
    let holds : number / 2 < 2 ^ width = half.holds in
    let below : number < 2 ^ (width + 1) = omega arith in
    record { holds = subst (λ n. number < 2 ^ n) order below; least = least }
  where
    least : (fewer : ℕ) → number < 2 ^ fewer → 1 + width ≤ fewer
    least zero h = absurd (omega arith)
    least (suc n) h =
        let power : 2 ^ (n + 1) ≡ 2 ^ n * 2 = pow_more 2 n in
        let order : suc n ≡ n + 1 = omega arith in
        let below : number < 2 ^ (n + 1) = subst (λ m. number < 2 ^ m) order h in
        let half_below : number / 2 < 2 ^ n = omega arith in
        let fewer : width ≤ n = half.least n half_below in
        omega arith

pub few_bits : (width number : ℕ) → number < 18446744073709551616 → IsLeast width number → width ≤ 64
few_bits width number few least = least.least 64 (omega (arith, few))
