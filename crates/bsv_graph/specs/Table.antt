-- A square of marks as contracts see it.
use Rattle.std.specs.Prelude.{◌≡◌, ℕ, ◌+◌, ◌*◌, ◌<◌, ◌⊎◌, Bool, false, IsTrue, slice_index_or}
use Rattle.bsv_graph.specs.declared.table.Table.{Table}

-- how many rows there are, and as many columns
abbrev pub side_of : Table → ℕ
side_of t = t.side

-- whether the pair (a, b) is marked, where both are below the side
unfoldable pub at : Table → ℕ → ℕ → Bool
at t a b = slice_index_or t.cells.items (a * t.side + b) false

-- the new table has the marks of the old one, and those of P
pub record Adds (old new : Table) (P : ℕ → ℕ → Type 0) : Type 0 where
  pub side : side_of new ≡ side_of old
  pub kept : (a b : ℕ) → a < side_of old → b < side_of old → IsTrue (at old a b) → IsTrue (at new a b)
  pub added : (a b : ℕ) → a < side_of old → b < side_of old → P a b → IsTrue (at new a b)
  pub only : (a b : ℕ) → a < side_of old → b < side_of old → IsTrue (at new a b) → IsTrue (at old a b) ⊎ P a b
