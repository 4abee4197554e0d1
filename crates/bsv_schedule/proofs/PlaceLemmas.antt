-- Places in an order, clashes and stops by places, and what a list picks.
use Rattle.std.proofs.Common.{◌≡◌, ℕ, ◌+◌, ◌<◌, ◌≤◌, ◌⊎◌, inl, inr, Bool, true, false, List, [], ◌∷◌, ◌++◌, append-nil, length, get_or, set, take, refl, zero, suc, sym, ◌∙◌, ap, arith, get_or-set_same, get_or-set_other}
use Rattle.std.proofs.lemmas.Bool.{cases_eq, cases_lt}
use Rattle.std.proofs.lemmas.List.{take_more}
use Rattle.std.specs.Prelude.{IsTrue, IsFalse, ◌↔◌, if◌then◌else◌, not, slice_get, Some}
use Rattle.bsv_lemmas.proofs.Places.{at_left}
use Rattle.bsv_graph.specs.Orders.{In, IsOnce, IsBefore, place_of}
use Rattle.bsv_schedule.specs.relating.Relating.{Relating}
use Rattle.bsv_schedule.specs.stopping.Stops.{Clash, Stops, Picks}
use Rattle.bsv_graph.proofs.LeastLemmas.{in_read, in_parts}
use Rattle.bsv_graph.proofs.OrderedLemmas.{in_not, either_before, place_before, place_here, place_there}
use Rattle.bsv_schedule.specs.stopping.Placed.{HasPlaces}

-- a lower place comes before
before_place : (xs : List ℕ) (a b : ℕ) → IsOnce xs → In xs a → In xs b → place_of xs a < place_of xs b → IsBefore xs a b
before_place xs a b o i j h = elim (cases_eq a b) [
  | inl e ↦ absurd (omega (arith, ap (place_of xs) e))
  | inr n ↦ elim (either_before xs a b i j n) [
    | inl k ↦ k
    | inr k ↦ absurd (omega (arith, place_before xs b a o k))
  ]
]

-- the element at a place
place_at : (xs : List ℕ) (i d : ℕ) → IsOnce xs → i < length xs → place_of xs (get_or xs i d) ≡ i
place_at [] i d o h = absurd (omega arith)
place_at (x ∷ xs) zero d o h = place_here x x (1 + place_of xs x) refl
place_at (x ∷ xs) (suc i) d o h =
    let l : i < length xs = omega (arith, h) in
    omega (arith, place_there x (get_or xs i d) (1 + place_of xs (get_or xs i d)) (in_not xs x (get_or xs i d) o.0 (in_read xs i d l)), place_at xs i d o.1 l)

-- one place more is set
pub places_more : (order out : List ℕ) (i x : ℕ) → IsOnce order → x < length out → i < length order → x ≡ get_or order i 0
    → ((a : ℕ) → In (take i order) a → get_or out a 0 ≡ place_of order a)
    → (a : ℕ) → In (take (i + 1) order) a → get_or (set out x i) a 0 ≡ place_of order a
places_more order out i x o l h e f a k = go (cases_eq a x) (in_parts (take i order) (get_or order i 0 ∷ []) a (rw (take_more order i 0 h) at k))
  where
    at_x : place_of order x ≡ i
    at_x = rw e (place_at order i 0 o h)

    go : (a ≡ x) ⊎ (a ≡ x → ⊥) → In (take i order) a ⊎ In (get_or order i 0 ∷ []) a → get_or (set out x i) a 0 ≡ place_of order a
    go (inl p) _ = rw (p, at_x) (get_or-set_same out x i 0 l)
    go (inr p) (inl j) = get_or-set_other out x a i 0 p ∙ f a j
    go (inr p) (inr (inl j)) = absurd (p (j ∙ sym e))
    go (inr p) (inr (inr j)) = absurd j

-- what comes before has a lower place
module _ (n : ℕ) (order places : List ℕ) (h : HasPlaces n order places) (a b : ℕ) (u : a < n) (v : b < n) where
  pub places_before : get_or places a 0 < get_or places b 0 → IsBefore order a b
  places_before l = before_place order a b h.order_of.once (h.order_of.each a u) (h.order_of.each b v) (omega (arith, h.at a u, h.at b v))

  pub before_places : IsBefore order a b → get_or places a 0 < get_or places b 0
  before_places l = omega (arith, h.at a u, h.at b v, place_before order a b h.order_of.once l)

not_true : (b : Bool) → IsTrue (not b) → IsFalse b
not_true true h = cc
not_true false h = refl

true_not : (b : Bool) → IsFalse b → IsTrue (not b)
true_not true h = cc
true_not false h = refl

-- a clash, by the places
module _ (r : Relating) (order places : List ℕ) (h : HasPlaces r.count order places) (a b : ℕ) (u : a < r.count) (v : b < r.count) where
  pub clash_first : (goes : Bool) → goes ≡ r.goes a b → get_or places a 0 < get_or places b 0 → (IsTrue (not goes) ↔ Clash r order a b)
  clash_first goes e l = (
    λ g. inl (places_before r.count order places h a b u v l, rw (← e) (not_true goes g)),
    λ c. elim c [ inl k ↦ true_not goes (rw e k.1) | inr k ↦ absurd (omega (arith, before_places r.count order places h b a v u k.0)) ],
  )

  pub clash_second : (goes : Bool) → goes ≡ r.goes b a → get_or places b 0 < get_or places a 0 → (IsTrue (not goes) ↔ Clash r order a b)
  clash_second goes e l = (
    λ g. inr (places_before r.count order places h b a v u l, rw (← e) (not_true goes g)),
    λ c. elim c [ inl k ↦ absurd (omega (arith, before_places r.count order places h a b u v k.0)) | inr k ↦ true_not goes (rw e k.1) ],
  )

  pub clash_never : get_or places b 0 ≤ get_or places a 0 → get_or places a 0 ≤ get_or places b 0 → ¬ Clash r order a b
  clash_never l m c = elim c [
    | inl k ↦ omega (arith, before_places r.count order places h a b u v k.0)
    | inr k ↦ omega (arith, before_places r.count order places h b a v u k.0)
  ]

-- who stops whom, by the tests
module _ (r : Relating) (execution urgency places : List ℕ) (h : HasPlaces r.count urgency places) (a b : ℕ) (u : a < r.count) (v : b < r.count)
    (preempts : Bool) (e : preempts ≡ r.preempts a b) where
  pub stops_preempted : preempts ≡ true → Stops r execution urgency a b
  stops_preempted p = inr (rw (← e) p)

  pub stops_never : preempts ≡ false → get_or places b 0 ≤ get_or places a 0 → ¬ Stops r execution urgency a b
  stops_never p l s = elim s [
    | inl k ↦ omega (arith, before_places r.count urgency places h a b u v k.0)
    | inr k ↦ let i : r.preempts a b ≡ true = k in cc
  ]

  pub stops_clash : (clash : Bool) → preempts ≡ false → get_or places a 0 < get_or places b 0 → (IsTrue clash ↔ Clash r execution a b)
      → (IsTrue clash ↔ Stops r execution urgency a b)
  stops_clash clash p l i = (
    λ k. inl (places_before r.count urgency places h a b u v l, i.0 k),
    λ s. elim s [ inl k ↦ i.1 k.1 | inr k ↦ let j : r.preempts a b ≡ true = k in absurd (let w : true ≡ false = sym j ∙ (sym e ∙ p) in cc) ],
  )

-- one element more is picked, or left
picks_yes : (P : ℕ → Type 0) (us xs : List ℕ) (u : ℕ) → Picks P us xs → P u → Picks P (us ++ (u ∷ [])) (xs ++ (u ∷ []))
picks_yes P [] xs u e h = inl (h, ([], rw e refl, refl))
picks_yes P (v ∷ us) xs u (inl k) h = inl (k.0, (k.1.0 ++ (u ∷ []), rw k.1.1 refl, picks_yes P us k.1.0 u k.1.2 h))
picks_yes P (v ∷ us) xs u (inr k) h = inr (k.0, picks_yes P us xs u k.1 h)

picks_no : (P : ℕ → Type 0) (us xs : List ℕ) (u : ℕ) → Picks P us xs → ¬ P u → Picks P (us ++ (u ∷ [])) xs
picks_no P [] xs u e h = inr (h, e)
picks_no P (v ∷ us) xs u (inl k) h = inl (k.0, (k.1.0, k.1.1, picks_no P us k.1.0 u k.1.2 h))
picks_no P (v ∷ us) xs u (inr k) h = inr (k.0, picks_no P us xs u k.1 h)

picks_if : (P : ℕ → Type 0) (us xs : List ℕ) (u : ℕ) (b : Bool) → (IsTrue b ↔ P u) → Picks P us xs → Picks P (us ++ (u ∷ [])) (xs ++ (if b then u ∷ [] else []))
picks_if P us xs u true i k = picks_yes P us xs u k (i.0 refl)
picks_if P us xs u false i k = rw append-nil (picks_no P us xs u k (λ h. let e = i.1 h in cc))

pub picks_take : (P : ℕ → Type 0) (us xs : List ℕ) (i d : ℕ) (b : Bool) → i < length us → (IsTrue b ↔ P (get_or us i d)) → Picks P (take i us) xs
    → Picks P (take (i + 1) us) (xs ++ (if b then get_or us i d ∷ [] else []))
picks_take P us xs i d b h f k = rw (take_more us i d h) (picks_if P (take i us) xs (get_or us i d) b f k)

slice_seam : {A : Type 0} (xs : List A) (y : A) → slice_get (xs ++ (y ∷ [])) (length xs) ≡ Some y
slice_seam [] y = refl
slice_seam (x ∷ xs) y = slice_seam xs y

-- one list more
pub lists_more : (P : ℕ → List ℕ → Type 0) (lists : List (List ℕ)) (n : ℕ) (ys : List ℕ) → length lists ≡ n
    → ((k : ℕ) → k < n → (xs : List ℕ) × (slice_get lists k ≡ Some xs) × P k xs) → P n ys
    → (k : ℕ) → k < n + 1 → (xs : List ℕ) × (slice_get (lists ++ (ys ∷ [])) k ≡ Some xs) × P k xs
lists_more P lists n ys e f p k l = elim (cases_lt k n) [
  | inl h ↦ let found = f k h in (found.0, at_left lists (ys ∷ []) k (omega arith) ∙ found.1, found.2)
  | inr h ↦
      let q : k ≡ length lists = omega arith in
      let w : k ≡ n = omega arith in
      (ys, rw q (slice_seam lists ys), rw w p)
]
