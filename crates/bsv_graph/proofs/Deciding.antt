use Rattle.std.proofs.Common.{◌≡◌, ℕ, ◌<◌, ◌⊎◌, inl, inr, Bool, true, false, List, [], ◌∷◌, refl, zero, suc, subst, arith}
use Rattle.std.proofs.lemmas.Bool.{cases_eq, cases_lt}
use Rattle.std.specs.Prelude.{IsTrue, IsFalse}
use Rattle.bsv_graph.specs.declared.edge.Edge.{Edge}
use Rattle.bsv_graph.specs.Orders.{In, IsBefore}
use Rattle.bsv_graph.specs.Reaching.{AreWithin}
use Rattle.bsv_graph.specs.Walks.{Walk, step, more, IsAcyclic, LeastOnCycle, Closes}
use Rattle.bsv_graph.proofs.WalkLemmas.{Upto, Since, walk_with, walk_weaken, walk_through, walk_inside}

-- P holds, or does not
abbrev pub Decided : Type 0 → Type 0
Decided P = P ⊎ ¬ P

pub decide_both : {P Q : Type 0} → Decided P → Decided Q → Decided (P × Q)
decide_both (inl p) (inl q) = inl (p, q)
decide_both (inl p) (inr q) = inr (λ h. q h.1)
decide_both (inr p) d = inr (λ h. p h.0)

pub decide_either : {P Q : Type 0} → Decided P → Decided Q → Decided (P ⊎ Q)
decide_either (inl p) d = inl (inl p)
decide_either (inr p) (inl q) = inl (inr q)
decide_either (inr p) (inr q) = inr (λ h. elim h [ inl x ↦ p x | inr x ↦ q x ])

pub decide_not : {P : Type 0} → Decided P → Decided (¬ P)
decide_not (inl p) = inr (λ n. n p)
decide_not (inr n) = inl n

pub decide_true : (b : Bool) → Decided (IsTrue b)
decide_true true = inl refl
decide_true false = inr (λ h. cc)

pub decide_false : (b : Bool) → Decided (IsFalse b)
decide_false true = inr (λ h. cc)
decide_false false = inl refl

-- a is the first number below n with P
pub record IsFirstWith (P : ℕ → Type 0) (n a : ℕ) : Type 0 where
  pub below : a < n
  pub holds : P a
  pub lower : (b : ℕ) → b < a → ¬ P b

module _ (P : ℕ → Type 0) (decide : (a : ℕ) → Decided (P a)) where
  first_more : (n : ℕ) → ((a : ℕ) → a < n → ¬ P a) ⊎ ((a : ℕ) × IsFirstWith P n a) → Decided (P n)
      → ((a : ℕ) → a < suc n → ¬ P a) ⊎ ((a : ℕ) × IsFirstWith P (suc n) a)
  first_more n (inr f) d = inr (f.0, record { below = omega (arith, f.1.below); holds = f.1.holds; lower = f.1.lower })
  first_more n (inl f) (inl p) = inr (n, record { below = omega arith; holds = p; lower = f })
  first_more n (inl f) (inr p) = inl (λ a l h. elim (cases_lt a n) [
    | inl lt ↦ f a lt h
    | inr ge ↦ let e : a ≡ n = omega arith in p (subst P e h)
  ])

  -- no number below n has P, or there is a first
  pub first_with : (n : ℕ) → ((a : ℕ) → a < n → ¬ P a) ⊎ ((a : ℕ) × IsFirstWith P n a)
  first_with zero = inl (λ a l. absurd (omega arith))
  first_with (suc n) = first_more n (first_with n) (decide n)

-- whether a walk leads from a to b
walk_none : (a b : ℕ) → ¬ Walk [] a b
walk_none a b (step h) = h
walk_none a b (more h w) = h

walk_more : (es : List Edge) (e : Edge) (a b : ℕ) → Decided (Walk es a b) → Decided (Upto es a e.from) → Decided (Since es e.to b)
    → Decided (Walk (e ∷ es) a b)
walk_more es e a b (inl w) u s = inl (walk_weaken w)
walk_more es e a b (inr n) (inl u) (inl s) = inl (walk_through es e a b u s)
walk_more es e a b (inr n) (inl u) (inr s) = inr (λ w. elim (walk_with w) [ inl v ↦ n v | inr q ↦ s q.1 ])
walk_more es e a b (inr n) (inr u) s = inr (λ w. elim (walk_with w) [ inl v ↦ n v | inr q ↦ u q.0 ])

pub decide_walk : (es : List Edge) (a b : ℕ) → Decided (Walk es a b)
decide_walk [] a b = inr (walk_none a b)
decide_walk (e ∷ es) a b = walk_more es e a b (decide_walk es a b)
    (decide_either (cases_eq a e.from) (decide_walk es a e.from)) (decide_either (cases_eq b e.to) (decide_walk es e.to b))

pub decide_closes : (es : List Edge) (e : Edge) → Decided (Closes es e)
decide_closes es e = decide_either (cases_eq e.to e.from) (decide_walk es e.to e.from)

-- there is no cycle, or a least number on one
pub cycle_or_none : (n : ℕ) (es : List Edge) → AreWithin n es → IsAcyclic es ⊎ ((a : ℕ) × LeastOnCycle es a)
cycle_or_none n es f = elim (first_with (λ a. Walk es a a) (λ a. decide_walk es a a) n) [
  | inl g ↦ inl (λ a w. g a (walk_inside f w).0 w)
  | inr x ↦ inr (x.0, record { cycle = x.1.holds; lower = x.1.lower })
]

-- where a number is in a list
pub decide_in : (xs : List ℕ) (a : ℕ) → Decided (In xs a)
decide_in [] a = inr (λ h. h)
decide_in (x ∷ xs) a = decide_either (cases_eq a x) (decide_in xs a)

pub decide_before : (xs : List ℕ) (a b : ℕ) → Decided (IsBefore xs a b)
decide_before [] a b = inr (λ h. h)
decide_before (x ∷ xs) a b = decide_either (decide_both (cases_eq a x) (decide_in xs b)) (decide_before xs a b)
