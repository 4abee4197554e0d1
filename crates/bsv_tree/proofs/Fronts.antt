-- Fronts of lists.
use Rattle.std.proofs.Common.{◌≡◌, ℕ, zero, suc, ◌≤◌, List, [], ◌∷◌, ◌++◌, length, take, refl, ap, arith}
use Rattle.std.proofs.lemmas.List.{take_all}

pub take_less : {A : Type 0} (n : ℕ) (xs : List A) (x : A) → n ≤ length xs → take n (xs ++ x ∷ []) ≡ take n xs
take_less zero xs x h = refl
take_less (suc n) [] x h = absurd (omega arith)
take_less (suc n) (y ∷ ys) x h = ap (λ zs. y ∷ zs) (take_less n ys x (omega arith))

pub ruleset fronts = (take_less, take_all)
