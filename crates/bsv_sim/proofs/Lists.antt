-- Lists of what is told, element by element.
use Rattle.std.proofs.Common.{◌≡◌, ◌∙◌, inl, inr, is_some, ℕ, zero, suc, ◌+◌, ◌≤◌, Bool, true, false, cond, List, [], ◌∷◌, ◌++◌, length, map, Option, Some, None, refl, ap, ap₂, arith, append-nil}
use Rattle.std.specs.Prelude.{filter}
use Rattle.std.specs.List.{AllByRecursion, flat_map}
use Rattle.std.proofs.lemmas.List.Elements.{filter-append}
use Rattle.bsv_bits.specs.Words.{Bits}
use Rattle.bsv_graph.specs.Edges.{numbers_below}
use Rattle.bsv_graph.specs.Orders.{In}
use Rattle.bsv_clock.specs.Events.{gives}
use Rattle.bsv_sim.specs.Events.{all_fired, pair}
use Rattle.bsv_sim.specs.Signals.{Signals, fires}

-- the same is given
pub given_same : (o p : ℕ → Option Bits) (ns : List ℕ) → ((n : ℕ) → In ns n → o n ≡ p n) → flat_map (λ n. gives n (o n)) ns ≡ flat_map (λ n. gives n (p n)) ns
given_same o p [] h = refl
given_same o p (n ∷ ns) h =
    ap₂ (λ (x : Option Bits) (xs : List (ℕ × Bits)). gives n x ++ xs) (h n (inl refl)) (given_same o p ns (λ m k. h m (inr k)))

-- those of which a pair is told are the first of the pairs
pub pairs_of : (o : ℕ → Option ℕ) (t : ℕ → Bool) (ns : List ℕ) → ((n : ℕ) → In ns n → is_some (o n) ≡ t n)
    → map (λ p. p.0) (flat_map (λ n. pair n (o n)) ns) ≡ filter t ns
pairs_of o t [] h = refl
pairs_of o t (n ∷ ns) h = of (o n) (h n (inl refl)) (pairs_of o t ns (λ m k. h m (inr k)))
  where
    of : (x : Option ℕ) → is_some x ≡ t n → map (λ p. p.0) (flat_map (λ n. pair n (o n)) ns) ≡ filter t ns
        → map (λ p. p.0) (pair n x ++ flat_map (λ n. pair n (o n)) ns) ≡ cond (t n) (n ∷ filter t ns) (filter t ns)
    of None e ih = ih ∙ ap (λ (b : Bool). cond b (n ∷ filter t ns) (filter t ns)) e
    of (Some by) e ih = ap (λ (xs : List ℕ). n ∷ xs) ih ∙ ap (λ (b : Bool). cond b (n ∷ filter t ns) (filter t ns)) e

pub each_pair : (P : ℕ × ℕ → Type 0) (o : ℕ → Option ℕ) (ns : List ℕ) → ((n by : ℕ) → In ns n → o n ≡ Some by → P (n, by))
    → AllByRecursion P (flat_map (λ n. pair n (o n)) ns)
each_pair P o [] h = tt
each_pair P o (n ∷ ns) h = of (o n) refl (each_pair P o ns (λ m by k. h m by (inr k)))
  where
    of : (x : Option ℕ) → o n ≡ x → AllByRecursion P (flat_map (λ n. pair n (o n)) ns) → AllByRecursion P (pair n x ++ flat_map (λ n. pair n (o n)) ns)
    of None e ih = ih
    of (Some by) e ih = (h n by (inl refl) e, ih)

-- numbers that do not pass may be left out at the end
pub below_same : (t : ℕ → Bool) (m k : ℕ) → ((j : ℕ) → m ≤ j → t j ≡ false) → filter t (numbers_below (m + k)) ≡ filter t (numbers_below m)
below_same t m zero h = ap (λ (n : ℕ). filter t (numbers_below n)) (none m)
  where
    none : (m : ℕ) → m + 0 ≡ m
    none m = omega arith
below_same t m (suc k) h =
    ap (λ (n : ℕ). filter t (numbers_below n)) (next m k)
    ∙ filter-append t (numbers_below (m + k)) ((m + k) ∷ [])
    ∙ ap (λ (b : Bool). filter t (numbers_below (m + k)) ++ cond b ((m + k) ∷ []) []) (h (m + k) (omega arith))
    ∙ append-nil (filter t (numbers_below (m + k)))
    ∙ below_same t m k h
  where
    next : (m k : ℕ) → m + suc k ≡ suc (m + k)
    next m k = omega arith

-- no more fire than there are
pub fired_most : (r : Signals) (ns : List ℕ) → length (all_fired r ns) ≤ length ns
unfolding all_fired
fired_most r [] = omega arith
fired_most r (n ∷ ns) = of (fires r n) (fired_most r ns)
  where
    of : (b : Bool) → length (filter (λ m. fires r m) ns) ≤ length ns → length (cond b (n ∷ filter (λ m. fires r m) ns) (filter (λ m. fires r m) ns)) ≤ length (n ∷ ns)
    of true ih = omega (arith, ih)
    of false ih = omega (arith, ih)
