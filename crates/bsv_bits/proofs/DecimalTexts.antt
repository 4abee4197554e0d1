-- The decimal digits of a number below 1,000, one after another.
use Rattle.std.proofs.Common.{◌≡◌, ℕ, ◌+◌, ◌/◌, ◌%◌, ◌<◌, ◌≤◌, [], ◌∷◌, ◌++◌, decimal, ap, ◌∙◌, arith}
use Rattle.std.proofs.lemmas.Fmt.{decimal_digit, decimal_step}

pub two_digits : (n : ℕ) → 10 ≤ n → n < 100 → decimal n ≡ (48 + n / 10) ∷ (48 + n % 10) ∷ []
two_digits n some few =
    let front : n / 10 < 10 = omega arith in
    decimal_step n some (omega arith) ∙ ap (λ digits. digits ++ (48 + n % 10) ∷ []) (decimal_digit (n / 10) front)

pub three_digits : (n : ℕ) → 100 ≤ n → n < 1000 → decimal n ≡ (48 + n / 100) ∷ (48 + n / 10 % 10) ∷ (48 + n % 10) ∷ []
three_digits n some few =
    let more : 10 ≤ n / 10 = omega arith in
    let fewer : n / 10 < 100 = omega arith in
    let same : n / 10 / 10 ≡ n / 100 = omega arith in
    decimal_step n (omega arith) (omega arith)
    ∙ ap (λ digits. digits ++ (48 + n % 10) ∷ []) (two_digits (n / 10) more fewer)
    ∙ ap (λ first. (48 + first) ∷ (48 + n / 10 % 10) ∷ (48 + n % 10) ∷ []) same
