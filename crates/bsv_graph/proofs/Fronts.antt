-- What has an earlier place in a list of numbers is in the front of it.
use Rattle.std.proofs.Common.{◌≡◌, ◌+◌, ◌<◌, ◌≤◌, ◌⊎◌, inl, inr, ℕ, List, [], ◌∷◌, ◌++◌, refl, arith, length}
use Rattle.std.proofs.lemmas.Bool.{cases_eq}
use Rattle.bsv_graph.specs.Orders.{In, IsOnce, place_of}
use Rattle.bsv_graph.proofs.LeastLemmas.{once_apart}
use Rattle.bsv_graph.proofs.OrderedLemmas.{place_here, place_there}

-- a number after some others, among which it is not, has their count as its place
pub place_after : (us ws : List ℕ) (f : ℕ) → ¬ In us f → length us ≤ place_of (us ++ ws) f
place_after [] ws f out = omega arith
place_after (u ∷ us) ws f out =
    let rest = place_after us ws f (λ i. out (inr i)) in
    let here = place_there u f (1 + place_of (us ++ ws) f) (λ e. out (inl e)) in
    omega (arith, rest, here)

pub place_next : (us rest : List ℕ) (n : ℕ) → ¬ In us n → place_of (us ++ n ∷ rest) n ≡ length us
place_next [] rest n out = place_here n n (1 + place_of rest n) refl
place_next (u ∷ us) rest n out =
    let next = place_next us rest n (λ i. out (inr i)) in
    let here = place_there u n (1 + place_of (us ++ n ∷ rest) n) (λ e. out (inl e)) in
    omega (arith, next, here)

pub is_or_not : (us : List ℕ) (f : ℕ) → In us f ⊎ ¬ In us f
is_or_not [] f = inr (λ i. i)
is_or_not (u ∷ us) f = of (cases_eq f u) (is_or_not us f)
  where
    of : (f ≡ u) ⊎ (f ≡ u → ⊥) → In us f ⊎ ¬ In us f → In (u ∷ us) f ⊎ ¬ In (u ∷ us) f
    of (inl e) k = inl (inl e)
    of (inr m) (inl i) = inl (inr i)
    of (inr m) (inr o) = inr (λ i. elim i [ inl e ↦ m e | inr j ↦ o j ])

pub not_yet : (us rest : List ℕ) (n : ℕ) → IsOnce (us ++ n ∷ rest) → ¬ In us n
not_yet us rest n once i = once_apart us (n ∷ rest) n once i (inl refl)

-- what has an earlier place is in front
pub in_front : (us rest : List ℕ) (n f : ℕ) → IsOnce (us ++ n ∷ rest) → place_of (us ++ n ∷ rest) f < place_of (us ++ n ∷ rest) n → In us f
in_front us rest n f once l = of (is_or_not us f)
  where
    of : In us f ⊎ ¬ In us f → In us f
    of (inl i) = i
    of (inr o) = absurd (let m = place_after us (n ∷ rest) f o in let e = place_next us rest n (not_yet us rest n once) in omega (arith, l, m, e))
