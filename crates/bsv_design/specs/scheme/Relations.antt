-- How elements stand to one another, and calls inside one (Hoe and Arvind 2004, "conflict free and sequentially
-- composable rules").
use Rattle.std.specs.Prelude.{◌≡◌, ℕ, ◌==◌, ◌<◌, ◌≤◌, Bool, true, false, not, ◌&&◌, ◌||◌, List, [], ◌∷◌, slice_get, Option, Some, None, ◌⊎◌}
use Rattle.bsv_bits.specs.Words.{bit}
use Rattle.bsv_prim.specs.Table.{goes_before, in_one_element}
use Rattle.bsv_design.specs.declared.kind.Kind.{Kind}
use Rattle.bsv_design.specs.design.Bodies.{Target, Answers}
use Rattle.bsv_design.specs.design.Branches.{apart}
use Rattle.bsv_design.specs.parts.Kinds.{kind_table}
use Rattle.bsv_design.specs.scheme.Schemes.{Scheme, ports_of, filled}
use Rattle.bsv_design.specs.scheme.Traces.{Site, kind_at}

-- ---- elements

abbrev pub may_precede_of : Option Kind → ℕ → ℕ → Bool
may_precede_of None m n = true
may_precede_of (Some k) m n = goes_before ((kind_table k).relation m n)

abbrev pub sees_of : Option Kind → ℕ → ℕ → Bool
sees_of None m n = false
sees_of (Some k) m n = (kind_table k).sees m n

-- on one part, the first call may come before the second
abbrev pub may_precede : List Kind → Target → Target → Bool
may_precede ks x y = not (x.part == y.part) || may_precede_of (kind_at ks x) x.method y.method

-- on one part, the second call sees the first
abbrev pub is_seen : List Kind → Target → Target → Bool
is_seen ks x y = (x.part == y.part) && sees_of (kind_at ks x) x.method y.method

abbrev pub for_all : (Target → Bool) → List Target → Bool
for_all p [] = true
for_all p (x ∷ xs) = p x && for_all p xs

abbrev pub for_some : (Target → Bool) → List Target → Bool
for_some p [] = false
for_some p (x ∷ xs) = p x || for_some p xs

-- each use of a may precede each use of b on the same part
unfoldable pub goes : Scheme → ℕ → ℕ → Bool
goes S a b = for_all (λ x. for_all (may_precede S.kinds x) (S.uses b)) (S.uses a)

-- a use of a is seen by a use of b on the same part
unfoldable pub feeds : Scheme → ℕ → ℕ → Bool
feeds S a b = for_some (λ x. for_some (is_seen S.kinds x) (S.uses b)) (S.uses a)

-- ---- in one element

abbrev pub may_stand : Option Kind → ℕ → ℕ → Bool
may_stand None m n = true
may_stand (Some k) m n = in_one_element ((kind_table k).relation m n) && not ((kind_table k).sees m n) && not ((kind_table k).sees n m)

-- Two calls on one part that are in different arms of no choice have to be free of each other or ordered, and neither
-- may see the other
abbrev pub break_the_rule : List Kind → Site → Site → Bool
break_the_rule ks x y =
    (x.target.part == y.target.part) && not (apart x.branches y.branches) && not (may_stand (kind_at ks x.target) x.target.method y.target.method)

-- where calls stand and what they call is the same in every run
abbrev pub no_answers : Answers
no_answers k t args = bit false

abbrev pub sites_of : Scheme → ℕ → List Site
sites_of S n = (S.trace n no_answers (filled (ports_of (slice_get S.elements n)) [])).sites

-- a pair of calls of an element, the earlier one first, that breaks the rule
pub record IsBreach (S : Scheme) (n i j : ℕ) (x y : Site) : Type 0 where
  pub first : slice_get (sites_of S n) i ≡ Some x
  pub second : slice_get (sites_of S n) j ≡ Some y
  pub earlier : i < j
  pub breaks : break_the_rule S.kinds x y ≡ true

abbrev pub KeepsTheRule : Scheme → ℕ → Type 0
KeepsTheRule S n = (i j : ℕ) (x y : Site) → IsBreach S n i j x y → ⊥

-- the first pair that breaks the rule, by the earlier call and then by the later one, of the least element that has one
pub record IsFirstBreach (S : Scheme) (n i j : ℕ) (x y : Site) : Type 0 where
  pub breach : IsBreach S n i j x y
  pub first : (k l : ℕ) (u v : Site) → IsBreach S n k l u v → (i < k) ⊎ ((i ≡ k) × (j ≤ l))
  pub least : (m : ℕ) → m < n → KeepsTheRule S m
