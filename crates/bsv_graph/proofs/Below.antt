-- The numbers below n: how many there are, and one more.
use Rattle.std.proofs.Common.{◌≡◌, ◌∙◌, ℕ, zero, suc, ◌+◌, [], ◌∷◌, ◌++◌, refl, ap, arith, length}
use Rattle.std.proofs.lemmas.List.{length-append}
use Rattle.bsv_graph.specs.Edges.{numbers_below}

pub count_below : (n : ℕ) → length (numbers_below n) ≡ n
count_below zero = refl
count_below (suc n) = length-append (numbers_below n) (n ∷ []) ∙ (ap (λ k. k + 1) (count_below n) ∙ omega arith)

pub numbers_more : (n : ℕ) → numbers_below (n + 1) ≡ numbers_below n ++ n ∷ []
numbers_more n = let next : n + 1 ≡ suc n = omega arith in ap numbers_below next
