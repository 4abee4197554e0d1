-- The first element of a list that stops another one.
use Rattle.std.proofs.Common.{◌≡◌, ◌∙◌, ℕ, ◌+◌, ◌<◌, Bool, true, false, List, [], ◌∷◌, ◌++◌, length, get_or, take, drop, Some, refl, sym, ap, subst, arith, ◌⊎◌, inl, inr, zero, suc, ◌||◌, nat_eq, eqb-true}
use Rattle.std.specs.Prelude.{slice_get}
use Rattle.std.specs.List.{list_any}
use Rattle.std.proofs.lemmas.List.{take_more}
use Rattle.std.proofs.lemmas.Option.{same_Some}
use Rattle.std.proofs.lemmas.Bool.Decides.{nat_tests}
use Rattle.std.proofs.Math.Bool.{or-true}
use Rattle.bsv_graph.specs.Orders.{In}
use Rattle.bsv_attr.specs.Stopping.{ListStops, NoneStops, IsFirstListed}
use Rattle.bsv_graph.proofs.LeastLemmas.{in_right, in_parts}

-- ---- members

-- ---- what the code asks

found_in : (xs : List ℕ) (a : ℕ) → list_any (λ y. nat_eq y a) xs ≡ true → In xs a
found_in [] a h = absurd cc
found_in (x ∷ xs) a h = of (nat_eq x a) refl (found_in xs a) h where
  of : (b : Bool) → nat_eq x a ≡ b → (list_any (λ y. nat_eq y a) xs ≡ true → In xs a) → (b || list_any (λ y. nat_eq y a) xs) ≡ true → In (x ∷ xs) a
  of true e behind k = inl (sym (eqb-true x a e))
  of false e behind k = inr (behind k)

same_is_true : (x a : ℕ) → a ≡ x → nat_eq x a ≡ true
same_is_true x a e = grind (arith, nat_tests)

in_found : (xs : List ℕ) (a : ℕ) → In xs a → list_any (λ y. nat_eq y a) xs ≡ true
in_found [] a h = absurd h
in_found (x ∷ xs) a (inl e) = ap (λ b. b || list_any (λ y. nat_eq y a) xs) (same_is_true x a e)
in_found (x ∷ xs) a (inr h) = ap (λ b. nat_eq x a || b) (in_found xs a h) ∙ or-true (nat_eq x a)

-- the list of f has r where it is looked for
pub stops_where : (lists : List (List ℕ)) (f r : ℕ) (xs : List ℕ) → slice_get lists f ≡ Some xs → list_any (λ y. nat_eq y r) xs ≡ true → ListStops lists f r
stops_where lists f r xs at h = record { stopped = xs; at = at; has = found_in xs r h }

pub where_stops : (lists : List (List ℕ)) (f r : ℕ) (xs : List ℕ) → slice_get lists f ≡ Some xs → ListStops lists f r → list_any (λ y. nat_eq y r) xs ≡ true
where_stops lists f r xs at h =
    let same : h.stopped ≡ xs = same_Some h.stopped xs (sym h.at ∙ at) in
    in_found xs r (subst (λ ys. In ys r) same h.has)

-- ---- the first stopper

split_at : (us : List ℕ) (n : ℕ) → n < length us → us ≡ take n us ++ (get_or us n 0 ∷ drop (suc n) us)
split_at [] n h = absurd (omega arith)
split_at (u ∷ us) zero h = refl
split_at (u ∷ us) (suc n) h = ap (λ xs. u ∷ xs) (split_at us n (omega arith))

pub first_stopper : (us : List ℕ) (lists : List (List ℕ)) (r n : ℕ) → NoneStops (take n us) lists r → n < length us → ListStops lists (get_or us n 0) r
    → IsFirstListed us lists r (get_or us n 0)
first_stopper us lists r n before within h = record {
  before = take n us;
  behind = drop (suc n) us;
  split = split_at us n within;
  stops = h;
  first = before;
}

pub none_stops_more : (us : List ℕ) (lists : List (List ℕ)) (r n : ℕ) → NoneStops (take n us) lists r → n < length us → ¬ ListStops lists (get_or us n 0) r
    → NoneStops (take (n + 1) us) lists r
none_stops_more us lists r n before within never f i h =
    elim (in_parts (take n us) (get_or us n 0 ∷ []) f (subst (λ xs. In xs f) (take_more us n 0 within) i)) [
      | inl k ↦ before f k h
      | inr k ↦ elim k [ inl e ↦ never (subst (λ g. ListStops lists g r) e h) | inr z ↦ z ]
    ]

-- it is one of the list, and there is one alone
pub stopper_in : (us : List ℕ) (lists : List (List ℕ)) (r f : ℕ) → IsFirstListed us lists r f → In us f
stopper_in us lists r f h = subst (λ xs. In xs f) (sym h.split) (in_right h.before (f ∷ h.behind) f (inl refl))

two_splits : (es bs cs ds : List ℕ) (f g : ℕ) → es ++ (f ∷ bs) ≡ cs ++ (g ∷ ds) → (f ≡ g) ⊎ (In cs f ⊎ In es g)
two_splits [] bs [] ds f g h = inl cc
two_splits [] bs (c ∷ cs) ds f g h = inr (inl (inl cc))
two_splits (a ∷ es) bs [] ds f g h = inr (inr (inl cc))
two_splits (a ∷ es) bs (c ∷ cs) ds f g h = elim (two_splits es bs cs ds f g cc) [
  | inl e ↦ inl e
  | inr k ↦ elim k [ inl i ↦ inr (inl (inr i)) | inr i ↦ inr (inr (inr i)) ]
]

pub stopper_one : (us : List ℕ) (lists : List (List ℕ)) (r f g : ℕ) → IsFirstListed us lists r f → IsFirstListed us lists r g → f ≡ g
stopper_one us lists r f g h k = elim (two_splits h.before h.behind k.before k.behind f g (sym h.split ∙ k.split)) [
  | inl e ↦ e
  | inr o ↦ elim o [ inl i ↦ absurd (k.first f i h.stops) | inr i ↦ absurd (h.first g i k.stops) ]
]
