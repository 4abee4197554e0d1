-- Members of lists of elements, as tests and in what a test keeps.
use Rattle.std.proofs.Common.{◌≡◌, ◌∙◌, ℕ, ◌+◌, ◌<◌, ◌≤◌, ◌⊎◌, inl, inr, Bool, true, false, cond, ◌||◌, List, [], ◌∷◌, length, refl, sym, ap, ap₂, subst, arith}
use Rattle.std.specs.Prelude.{filter, ◌==◌}
use Rattle.std.specs.List.{list_any, AllByRecursion, IsDistinct}
use Rattle.std.proofs.lemmas.Bool.{cases_eq, eq-eqb, eqb-true, ne_eqb, false_from_ne_true, or_cases, or_left, or_right, or_parts}
use Rattle.std.proofs.lemmas.Map.Steps.{length-le_from_distinct_below}
use Rattle.bsv_design.specs.scheme.Serial.{IsIn}
use Rattle.bsv_graph.specs.Orders.{In, IsOnce, place_of}
use Rattle.bsv_graph.proofs.OrderedLemmas.{place_here, place_there}
use Rattle.bsv_clock.specs.Clocks.{is_in}

-- ---- tests of lists

pub some_passes : (t : ℕ → Bool) (xs : List ℕ) → list_any t xs ≡ true → (n : ℕ) × In xs n × (t n ≡ true)
some_passes t [] h = absurd (let n : ⊥ = cc in n)
some_passes t (x ∷ xs) h = elim (or_cases (t x) (list_any t xs) h) [
  | inl e ↦ (x, inl refl, e)
  | inr k ↦ let r = some_passes t xs k in (r.0, inr r.1, r.2)
]

pub passes : (t : ℕ → Bool) (xs : List ℕ) (n : ℕ) → In xs n → t n ≡ true → list_any t xs ≡ true
passes t [] n i h = absurd i
passes t (x ∷ xs) n (inl e) h = or_left (t x) (list_any t xs) (sym (ap t e) ∙ h)
passes t (x ∷ xs) n (inr i) h = or_right (t x) (list_any t xs) (passes t xs n i h)

pub none_passes : (t : ℕ → Bool) (xs : List ℕ) → list_any t xs ≡ false → (n : ℕ) → In xs n → t n ≡ false
none_passes t [] h n i = absurd i
none_passes t (x ∷ xs) h n (inl e) = ap t e ∙ (or_parts (t x) (list_any t xs) h).0
none_passes t (x ∷ xs) h n (inr i) = none_passes t xs (or_parts (t x) (list_any t xs) h).1 n i

pub any_same : (t u : ℕ → Bool) (xs : List ℕ) → ((n : ℕ) → In xs n → t n ≡ u n) → list_any t xs ≡ list_any u xs
any_same t u [] h = refl
any_same t u (x ∷ xs) h = ap₂ (λ a b. a || b) (h x (inl refl)) (any_same t u xs (λ n i. h n (inr i)))

-- ---- what is in a list

pub found : (xs : List ℕ) (n : ℕ) → is_in xs n ≡ true → In xs n
unfolding is_in
found xs n h = let r = some_passes (λ x. x == n) xs h in subst (In xs) (eqb-true r.0 n r.2) r.1

pub is_found : (xs : List ℕ) (n : ℕ) → In xs n → is_in xs n ≡ true
unfolding is_in
is_found xs n i = passes (λ x. x == n) xs n i (eq-eqb n n refl)

pub not_found : (xs : List ℕ) (n : ℕ) → ¬ In xs n → is_in xs n ≡ false
not_found xs n m = false_from_ne_true (is_in xs n) (λ h. m (found xs n h))

pub found_again : (n : ℕ) (xs : List ℕ) → IsIn n xs → In xs n
found_again n [] h = h
found_again n (x ∷ xs) (inl e) = inl e
found_again n (x ∷ xs) (inr h) = inr (found_again n xs h)

pub find_again : (n : ℕ) (xs : List ℕ) → In xs n → IsIn n xs
find_again n [] i = i
find_again n (x ∷ xs) (inl e) = inl e
find_again n (x ∷ xs) (inr i) = inr (find_again n xs i)

-- ---- what a test keeps

pub kept_in : (t : ℕ → Bool) (xs : List ℕ) (n : ℕ) → In (filter t xs) n → In xs n × (t n ≡ true)
kept_in t [] n i = absurd i
kept_in t (x ∷ xs) n i = cases (t x) refl (kept_in t xs n) i
  where
    cases : (b : Bool) → t x ≡ b → (In (filter t xs) n → In xs n × (t n ≡ true)) → In (cond b (x ∷ filter t xs) (filter t xs)) n → In (x ∷ xs) n × (t n ≡ true)
    cases true e rest (inl s) = (inl s, ap t s ∙ e)
    cases true e rest (inr k) = let r = rest k in (inr r.0, r.1)
    cases false e rest k = let r = rest k in (inr r.0, r.1)

pub in_kept : (t : ℕ → Bool) (xs : List ℕ) (n : ℕ) → In xs n → t n ≡ true → In (filter t xs) n
in_kept t [] n i h = i
in_kept t (x ∷ xs) n (inl e) h = subst (λ (b : Bool). In (cond b (x ∷ filter t xs) (filter t xs)) n) (sym (sym (ap t e) ∙ h)) (inl e)
in_kept t (x ∷ xs) n (inr i) h = cases (t x) (in_kept t xs n i h)
  where
    cases : (b : Bool) → In (filter t xs) n → In (cond b (x ∷ filter t xs) (filter t xs)) n
    cases true k = inr k
    cases false k = k

-- ---- places

pub place_within : (xs : List ℕ) (n : ℕ) → In xs n → place_of xs n < length xs
place_within [] n i = absurd i
place_within (x ∷ xs) n i = of (cases_eq n x) i (place_within xs n)
  where
    of : (n ≡ x) ⊎ (n ≡ x → ⊥) → In (x ∷ xs) n → (In xs n → place_of xs n < length xs) → place_of (x ∷ xs) n < length (x ∷ xs)
    of (inl e) _ _ = omega (arith, place_here x n (1 + place_of xs n) e)
    of (inr m) (inl e) _ = absurd (m e)
    of (inr m) (inr k) rest = omega (arith, place_there x n (1 + place_of xs n) m, rest k)

-- numbers below n, none twice, are at most n
pub once_long : (n : ℕ) (xs : List ℕ) → IsOnce xs → ((a : ℕ) → In xs a → a < n) → length xs ≤ n
unfolding IsDistinct
once_long n xs once below = length-le_from_distinct_below xs n (distinct xs once) (λ a h. below a (listed a h))
  where
    apart : (x : ℕ) (ys : List ℕ) → ¬ In ys x → AllByRecursion (λ y. (x == y) ≡ false) ys
    apart x [] m = tt
    apart x (y ∷ ys) m = (ne_eqb x y (λ e. m (inl e)), apart x ys (λ i. m (inr i)))

    distinct : (ys : List ℕ) → IsOnce ys → IsDistinct (λ x y. x == y) ys
    distinct [] o = tt
    distinct (y ∷ ys) o = (apart y ys o.0, distinct ys o.1)

    listed : (a : ℕ) → list_any (λ x. a == x) xs ≡ true → In xs a
    listed a h = let r = some_passes (λ x. a == x) xs h in subst (In xs) (sym (eqb-true a r.0 r.2)) r.1
