-- A list that is written over another one from its front.
use Rattle.std.proofs.Common.{◌≡◌, ◌∙◌, ℕ, zero, suc, ◌+◌, ◌≤◌, List, [], ◌∷◌, ◌++◌, length, take, drop, slice_get, slice_set, Some, refl, sym, ap, add-one, arith}

module _ {A : Type 0} where
  -- so many items of the one, and after them those of the other
  abbrev pub filled : ℕ → List A → List A → List A
  filled n new old = take n new ++ drop n old

  fill_next : (n : ℕ) (new old : List A) (x : A) → length old ≡ length new → slice_get new n ≡ Some x → slice_set (filled n new old) n x ≡ filled (suc n) new old
  fill_next n [] old x same at = absurd cc
  fill_next n (t ∷ new) [] x same at = absurd (omega arith)
  fill_next zero (t ∷ new) (y ∷ old) x same at = let it : t ≡ x = cc in ap (λ z. z ∷ old) (sym it)
  fill_next (suc n) (t ∷ new) (y ∷ old) x same at =
      let both : length old ≡ length new = omega arith in
      ap (λ zs. t ∷ zs) (fill_next n new old x both at)

  fill_nothing : (n : ℕ) → filled n [] [] ≡ []
  fill_nothing zero = refl
  fill_nothing (suc n) = refl

  -- one item more
  pub fill_more : (n : ℕ) (new old : List A) (x : A) → length old ≡ length new → slice_get new n ≡ Some x → slice_set (filled n new old) n x ≡ filled (n + 1) new old
  fill_more n new old x same at = fill_next n new old x same at ∙ ap (λ m. filled m new old) (sym (add-one n))

  pub fill_all : (n : ℕ) (new old : List A) → length old ≡ length new → length new ≤ n → filled n new old ≡ new
  fill_all n [] [] same up = fill_nothing n
  fill_all n [] (y ∷ old) same up = absurd (omega arith)
  fill_all n (t ∷ new) [] same up = absurd (omega arith)
  fill_all zero (t ∷ new) (y ∷ old) same up = absurd (omega arith)
  fill_all (suc n) (t ∷ new) (y ∷ old) same up =
      let both : length old ≡ length new = omega arith in
      let below : length new ≤ n = omega arith in
      ap (λ zs. t ∷ zs) (fill_all n new old both below)

  pub length-filled : (n : ℕ) (new old : List A) → length old ≡ length new → length (filled n new old) ≡ length new
  length-filled n [] [] same = ap (λ zs. length zs) (fill_nothing n)
  length-filled n [] (y ∷ old) same = absurd (omega arith)
  length-filled n (t ∷ new) [] same = absurd (omega arith)
  length-filled zero (t ∷ new) (y ∷ old) same = same
  length-filled (suc n) (t ∷ new) (y ∷ old) same =
      let both : length old ≡ length new = omega arith in
      ap suc (length-filled n new old both)

  -- what is not written yet is as it was
  pub filled_at : (n : ℕ) (new old : List A) → length old ≡ length new → slice_get (filled n new old) n ≡ slice_get old n
  filled_at n [] [] same = ap (λ zs. slice_get zs n) (fill_nothing n)
  filled_at n [] (y ∷ old) same = absurd (omega arith)
  filled_at n (t ∷ new) [] same = absurd (omega arith)
  filled_at zero (t ∷ new) (y ∷ old) same = refl
  filled_at (suc n) (t ∷ new) (y ∷ old) same =
      let both : length old ≡ length new = omega arith in
      filled_at n new old both
