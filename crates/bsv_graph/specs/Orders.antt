-- Orders of the numbers below n, and the least of those that respect the edges of a graph.
use Rattle.std.specs.Prelude.{◌≡◌, ℕ, ◌+◌, ◌<◌, ◌⊎◌, ◌==◌, if◌then◌else◌, List, [], ◌∷◌}
use Rattle.bsv_graph.specs.declared.edge.Edge.{Edge}
use Rattle.bsv_graph.specs.Walks.{HasEdge}

-- a is in the list
abbrev pub In : List ℕ → ℕ → Type 0
In [] a = ⊥
In (x ∷ xs) a = (a ≡ x) ⊎ In xs a

-- no number is in the list twice
abbrev pub IsOnce : List ℕ → Type 0
IsOnce [] = Unit {0}
IsOnce (x ∷ xs) = ¬ In xs x × IsOnce xs

-- the list has each number below n once, and no other
pub record IsOrderOf (n : ℕ) (xs : List ℕ) : Type 0 where
  pub each : (a : ℕ) → a < n → In xs a
  pub below : (a : ℕ) → In xs a → a < n
  pub once : IsOnce xs

-- no edge leads from a number to itself or to an earlier one
abbrev pub Respects : List Edge → List ℕ → Type 0
Respects es [] = Unit {0}
Respects es (x ∷ xs) = ((y : ℕ) → In (x ∷ xs) y → ¬ HasEdge es y x) × Respects es xs

-- lists compared by positions: at the first place where they differ, the first list has the lower number
abbrev pub IsUpTo : List ℕ → List ℕ → Type 0
IsUpTo [] ys = Unit {0}
IsUpTo (x ∷ xs) [] = ⊥
IsUpTo (x ∷ xs) (y ∷ ys) = (x < y) ⊎ ((x ≡ y) × IsUpTo xs ys)

-- the least list, compared by positions, of the numbers below n that respects the edges
pub record IsLeastOrder (n : ℕ) (es : List Edge) (xs : List ℕ) : Type 0 where
  pub order : IsOrderOf n xs
  pub respects : Respects es xs
  pub least : (ys : List ℕ) → IsOrderOf n ys → Respects es ys → IsUpTo xs ys

-- a comes before b in the list
abbrev pub IsBefore : List ℕ → ℕ → ℕ → Type 0
IsBefore [] a b = ⊥
IsBefore (x ∷ xs) a b = ((a ≡ x) × In xs b) ⊎ IsBefore xs a b

-- the place of a in the list
abbrev pub place_of : List ℕ → ℕ → ℕ
place_of [] a = 0
place_of (x ∷ xs) a = if x == a then 0 else 1 + place_of xs a
