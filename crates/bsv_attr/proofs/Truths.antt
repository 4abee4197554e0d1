-- The first truth among those of a list, and of two lists.
use Rattle.std.proofs.Common.{◌≡◌, ◌∙◌, ℕ, ◌+◌, ◌<◌, ◌≤◌, Bool, true, false, List, [], ◌∷◌, ◌++◌, map, length, Some, refl, sym, ap, subst, arith, ◌⊎◌, inl, inr, zero, suc}
use Rattle.std.specs.Prelude.{slice_get, option_map}
use Rattle.std.proofs.lemmas.Bool.{cases_order}
use Rattle.std.proofs.lemmas.List.{length-map}
use Rattle.std.proofs.lemmas.Option.{same_Some, slice_get-map, slice_get_within}
use Rattle.bsv_attr.specs.Implicit.{NoneTrueBelow, NoneTrue, IsFirstTrue}

truth_at : {A : Type 0} (f : A → Bool) (xs : List A) (n : ℕ) (x : A) → slice_get xs n ≡ Some x → slice_get (map f xs) n ≡ Some (f x)
truth_at f xs n x at = slice_get-map f xs n ∙ ap (option_map f) at

pub first_at : {A : Type 0} (f : A → Bool) (xs : List A) (n : ℕ) (x : A) → NoneTrueBelow (map f xs) n → slice_get xs n ≡ Some x → f x ≡ true
    → IsFirstTrue (map f xs) n
first_at f xs n x before at is = record { at = truth_at f xs n x at ∙ ap Some is; first = before }

pub none_more : {A : Type 0} (f : A → Bool) (xs : List A) (n : ℕ) (x : A) → NoneTrueBelow (map f xs) n → slice_get xs n ≡ Some x → f x ≡ false
    → NoneTrueBelow (map f xs) (n + 1)
none_more f xs n x before at is j less h = of (cases_order j n) where
  of : (j ≡ n) ⊎ ((j < n) ⊎ (n < j)) → ⊥
  of (inl e) =
      let t : true ≡ f x = same_Some true (f x) (sym h ∙ (ap (slice_get (map f xs)) e ∙ truth_at f xs n x at)) in
      cc
  of (inr (inl e)) = before j e h
  of (inr (inr e)) = omega arith

pub none_all : {A : Type 0} (f : A → Bool) (xs : List A) (n : ℕ) → NoneTrueBelow (map f xs) n → length xs ≤ n → NoneTrue (map f xs)
none_all f xs n before long j h =
    let within : j < length (map f xs) = slice_get_within (map f xs) j true h in
    let same : length (map f xs) ≡ length xs = length-map xs f in
    before j (omega arith) h

-- ---- of two lists

-- the truth is in the first list, or after it
cut : (fs gs : List Bool) (j : ℕ) → slice_get (fs ++ gs) j ≡ Some true
    → (slice_get fs j ≡ Some true) ⊎ ((i : ℕ) × (j ≡ length fs + i) × (slice_get gs i ≡ Some true))
cut [] gs j h = inr (j, omega arith, h)
cut (a ∷ fs) gs zero h = inl h
cut (a ∷ fs) gs (suc j) h = elim (cut fs gs j h) [ inl k ↦ inl k | inr k ↦ inr (k.0, omega (arith, k.1), k.2) ]

left : (fs gs : List Bool) (j : ℕ) → slice_get fs j ≡ Some true → slice_get (fs ++ gs) j ≡ Some true
left [] gs j h = absurd cc
left (a ∷ fs) gs zero h = h
left (a ∷ fs) gs (suc j) h = left fs gs j h

right : (fs gs : List Bool) (j : ℕ) → slice_get gs j ≡ Some true → slice_get (fs ++ gs) (length fs + j) ≡ Some true
right fs gs j h = of fs (length fs + j) refl where
  of : (cs : List Bool) (k : ℕ) → k ≡ length cs + j → slice_get (cs ++ gs) k ≡ Some true
  of [] k e = let same : k ≡ j = omega arith in subst (λ i. slice_get gs i ≡ Some true) (sym same) h
  of (a ∷ cs) zero e = absurd (omega arith)
  of (a ∷ cs) (suc k) e = of cs k (omega arith)

pub first_left : (fs gs : List Bool) (k : ℕ) → IsFirstTrue fs k → IsFirstTrue (fs ++ gs) k
first_left fs gs k f = record {
  at = left fs gs k f.at;
  first = λ j less h. elim (cut fs gs j h) [
    | inl t ↦ f.first j less t
    | inr t ↦ let w : k < length fs = slice_get_within fs k true f.at in omega (arith, t.1)
  ];
}

pub first_right : (fs gs : List Bool) (k : ℕ) → NoneTrue fs → IsFirstTrue gs k → IsFirstTrue (fs ++ gs) (length fs + k)
first_right fs gs k none f = record {
  at = right fs gs k f.at;
  first = λ j less h. elim (cut fs gs j h) [ inl t ↦ none j t | inr t ↦ f.first t.0 (omega (arith, t.1)) t.2 ];
}

pub none_both : (fs gs : List Bool) → NoneTrue fs → NoneTrue gs → NoneTrue (fs ++ gs)
none_both fs gs f g j h = elim (cut fs gs j h) [ inl t ↦ f j t | inr t ↦ g t.0 t.2 ]

pub none_left : (fs gs : List Bool) → NoneTrue (fs ++ gs) → NoneTrue fs
none_left fs gs n j h = n j (left fs gs j h)

pub none_right : (fs gs : List Bool) → NoneTrue (fs ++ gs) → NoneTrue gs
none_right fs gs n j h = n (length fs + j) (right fs gs j h)

-- the first truth is one
pub first_one : (gs : List Bool) (j k : ℕ) → IsFirstTrue gs j → IsFirstTrue gs k → j ≡ k
first_one gs j k f g = of (cases_order j k) where
  of : (j ≡ k) ⊎ ((j < k) ⊎ (k < j)) → j ≡ k
  of (inl e) = e
  of (inr (inl less)) = absurd (g.first j less f.at)
  of (inr (inr more)) = absurd (f.first k more g.at)
