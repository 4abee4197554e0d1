-- The sum of a list of sizes, and that of one size which may be missing: what the measures of recursions are made of.
use Rattle.std.proofs.Common.{◌≡◌, ℕ, zero, suc, ◌+◌, ◌≤◌, List, [], ◌∷◌, map, Option, Some, None, arith, ap}
use Rattle.std.specs.Prelude.{slice_get}

abbrev pub total : List ℕ → ℕ
total [] = 0
total (n ∷ ns) = n + total ns

abbrev pub or_zero : Option ℕ → ℕ
or_zero None = 0
or_zero (Some n) = n

-- one of several is no larger than all
pub within : {A : Type 0} (size : A → ℕ) (xs : List A) (k : ℕ) (x : A) → slice_get xs k ≡ Some x → size x ≤ total (map size xs)
within size [] k x is = absurd (let n : ⊥ = cc in n)
within size (y ∷ ys) zero x is = let same : y ≡ x = cc in omega (arith, ap size same)
within size (y ∷ ys) (suc k) x is = omega (arith, within size ys k x is)
