-- What is ready to be placed next.
use Rattle.std.specs.Prelude.{◌≡◌, ℕ, ◌<◌, ◌≤◌, Bool, false, IsTrue, List, length, slice_index, slice_index_or}
use Rattle.bsv_graph.specs.declared.table.Table.{Table}
use Rattle.bsv_graph.specs.Table.{side_of, at}

-- nothing leads to itself
abbrev pub IsStrict : Table → Type 0
IsStrict t = (a : ℕ) → a < side_of t → ¬ IsTrue (at t a a)

-- a is not placed
abbrev pub IsOpen : List Bool → ℕ → Type 0
IsOpen placed a = slice_index_or placed a false ≡ false

abbrev pub SomeOpen : ℕ → List Bool → Type 0
SomeOpen n placed = (a : ℕ) × (a < n) × IsOpen placed a

-- b is open, and all that lead to it are placed
pub record IsReady (t : Table) (placed : List Bool) (b : ℕ) : Type 0 where
  pub open_still : IsOpen placed b
  pub first : (a : ℕ) → a < side_of t → IsOpen placed a → ¬ IsTrue (at t a b)

pub record IsLeastReady (t : Table) (placed : List Bool) (b : ℕ) : Type 0 where
  pub below : b < side_of t
  pub ready : IsReady t placed b
  pub least : (c : ℕ) → c < side_of t → IsReady t placed c → b ≤ c

-- nothing below k is open and leads to b
abbrev pub IsClear : Table → List Bool → ℕ → ℕ → Type 0
IsClear t placed b k = (a : ℕ) → a < k → IsOpen placed a → ¬ IsTrue (at t a b)

-- for each b such a k
pub record AreClear (t : Table) (placed : List Bool) (waits : List ℕ) : Type 0 where
  pub size : length waits ≡ side_of t
  pub within : (b : ℕ) → b < side_of t → slice_index waits b ≤ side_of t
  pub clear : (b : ℕ) → b < side_of t → IsClear t placed b (slice_index waits b)
