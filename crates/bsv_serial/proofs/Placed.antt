-- Each element of an order has its place.
use Rattle.std.proofs.Common.{◌≡◌, ◌≢◌, ◌∙◌, inl, inr, ℕ, zero, suc, ◌+◌, ◌<◌, Bool, true, false, List, [], ◌∷◌, Some, refl, sym, ap, subst, arith, length}
use Rattle.std.specs.Prelude.{slice_get, slice_index, slice_set, replicate, if◌then◌else◌, ◌==◌}
use Rattle.std.specs.List.{AllByRecursion}
use Rattle.std.proofs.lemmas.Bool.{eqb-true, eqb-false}
use Rattle.std.proofs.lemmas.List.{length-set, length-replicate}
use Rattle.bsv_lemmas.proofs.Places.{set_there, set_elsewhere}
use Rattle.bsv_graph.specs.Orders.{In, IsOnce, IsOrderOf, place_of}
use Rattle.bsv_serial.specs.Placing.{all_placed}

pub all_below : (count : ℕ) (ns : List ℕ) → ((n : ℕ) → In ns n → n < count) → AllByRecursion (λ n. n < count) ns
all_below count [] h = tt
all_below count (n ∷ ns) h = (h n (inl refl), all_below count ns (λ m k. h m (inr k)))

placed_long : (places : List ℕ) (at : ℕ) (ns : List ℕ) → length (all_placed places at ns) ≡ length places
unfolding all_placed
placed_long places at [] = refl
placed_long places at (n ∷ ns) = placed_long (slice_set places n at) (at + 1) ns ∙ length-set places n at

-- what is not in the list keeps its place
placed_apart : (places : List ℕ) (at : ℕ) (ns : List ℕ) (n : ℕ) → (In ns n → ⊥) → slice_get (all_placed places at ns) n ≡ slice_get places n
unfolding all_placed
placed_apart places at [] n out = refl
placed_apart places at (m ∷ ns) n out =
    placed_apart (slice_set places m at) (at + 1) ns n (λ k. out (inr k)) ∙ set_elsewhere places m n at (λ e. out (inl (sym e)))

placed_there : (places : List ℕ) (at : ℕ) (ns : List ℕ) (n : ℕ) → IsOnce ns → In ns n → n < length places → slice_get (all_placed places at ns) n ≡ Some (at + place_of ns n)
unfolding all_placed
placed_there places at [] n once there l = absurd there
placed_there places at (m ∷ ns) n once there l = cases (m == n) refl there (λ k. placed_there (slice_set places m at) (at + 1) ns n once.1 k (subst (λ (c : ℕ). n < c) (sym (length-set places m at)) l))
  where
    none : (a : ℕ) → a ≡ a + 0
    none a = omega arith

    more : (a b : ℕ) → a + 1 + b ≡ a + (1 + b)
    more a b = omega arith

    later : m ≢ n → In (m ∷ ns) n → In ns n
    later o (inl e) = absurd (o (sym e))
    later o (inr k) = k

    cases : (b : Bool) → (m == n) ≡ b → In (m ∷ ns) n → (In ns n → slice_get (all_placed (slice_set places m at) (at + 1) ns) n ≡ Some (at + 1 + place_of ns n))
        → slice_get (all_placed (slice_set places m at) (at + 1) ns) n ≡ Some (at + (if b then 0 else 1 + place_of ns n))
    cases true e k ih =
        let is = eqb-true m n e in
        placed_apart (slice_set places m at) (at + 1) ns n (λ i. once.0 (subst (In ns) (sym is) i))
        ∙ ap (λ (j : ℕ). slice_get (slice_set places j at) n) is
        ∙ set_there places n at l ∙ ap (λ (a : ℕ). Some a) (none at)
    cases false e k ih = ih (later (eqb-false m n e) k) ∙ ap (λ (a : ℕ). Some a) (more at (place_of ns n))

index_of : (xs : List ℕ) (n x : ℕ) → slice_get xs n ≡ Some x → slice_index xs n ≡ x
index_of [] n x e = absurd (let z : ⊥ = cc in z)
index_of (y ∷ xs) zero x e = let same : y ≡ x = cc in same
index_of (y ∷ xs) (suc n) x e = index_of xs n x e

pub order_placed : (count : ℕ) (order : List ℕ) → IsOrderOf count order → (n : ℕ) → n < count
    → (n < length (all_placed (replicate count 0) 0 order)) × (slice_index (all_placed (replicate count 0) 0 order) n ≡ place_of order n)
order_placed count order is n l =
    let long = placed_long (replicate count 0) 0 order ∙ length-replicate count 0 in
    let small = subst (λ (c : ℕ). n < c) (sym (length-replicate count 0)) l in (
      subst (λ (c : ℕ). n < c) (sym long) l,
      index_of (all_placed (replicate count 0) 0 order) n (0 + place_of order n) (placed_there (replicate count 0) 0 order n is.once (is.each n l) small) ∙ none (place_of order n),
    )
  where
    none : (a : ℕ) → 0 + a ≡ a
    none a = omega arith
