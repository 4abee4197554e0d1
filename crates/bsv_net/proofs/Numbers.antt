-- The numbers below a number, by their places.
use Rattle.std.proofs.Common.{◌≡◌, ◌∙◌, ◌<◌, ◌≤◌, ◌⊎◌, inl, inr, ℕ, zero, suc, [], ◌∷◌, ◌++◌, Some, sym, ap, arith}
use Rattle.std.proofs.lemmas.Bool.{cases_lt}
use Rattle.std.specs.Prelude.{slice_get}
use Rattle.bsv_lemmas.proofs.Places.{at_left, at_right}
use Rattle.bsv_graph.specs.Edges.{numbers_below}
use Rattle.bsv_graph.proofs.Below.{count_below}

number_more : (n k : ℕ) → (k < n → slice_get (numbers_below n) k ≡ Some k) → (k < n) ⊎ (n ≤ k) → k < suc n
    → slice_get (numbers_below n ++ n ∷ []) k ≡ Some k
number_more n k before (inl m) l = at_left (numbers_below n) (n ∷ []) k (omega (arith, count_below n)) ∙ before m
number_more n k before (inr m) l =
    let e : k ≡ n = omega arith in
    ap (slice_get (numbers_below n ++ n ∷ [])) (e ∙ (sym (count_below n) ∙ omega arith))
    ∙ (at_right (numbers_below n) (n ∷ []) 0 ∙ ap (λ j. Some j) (sym e))

pub number_at : (n k : ℕ) → k < n → slice_get (numbers_below n) k ≡ Some k
number_at zero k l = absurd (omega arith)
number_at (suc n) k l = number_more n k (number_at n k) (cases_lt k n) l
