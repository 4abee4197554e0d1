-- A loop counts its turns up, its definition counts down what is left: one turn, and the end.
use Rattle.std.proofs.Common.{◌≡◌, ℕ, suc, ◌+◌, ◌-◌, ◌<◌, ◌≤◌, ap, arith}

pub one_more : {X : Type 0} (f : ℕ → X) (n at : ℕ) → at < n → f (n - at) ≡ f (suc (n - (at + 1)))
one_more f n at below = let turn : n - at ≡ suc (n - (at + 1)) = omega arith in ap f turn

pub no_more : {X : Type 0} (f : ℕ → X) (n at : ℕ) → n ≤ at → f (n - at) ≡ f 0
no_more f n at done = let none : n - at ≡ 0 = omega arith in ap f none
