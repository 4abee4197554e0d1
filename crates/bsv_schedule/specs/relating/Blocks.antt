-- How the code makes the rows by workers: the elements are cut into blocks of consecutive ones, and the rows of a block are
-- made by one worker. The promise is that of all rows (`AreRows`).
use Rattle.std.specs.Prelude.{◌≡◌, ℕ, ◌+◌, ◌*◌, ◌/◌, min, List, length, slice_get, Some}
use Rattle.bsv_design.specs.declared.kind.Kind.{Kind}
use Rattle.bsv_schedule.specs.declared.relating.related.Relation.{Relation}
use Rattle.bsv_schedule.specs.declared.relating.rows.Row.{Row}
use Rattle.bsv_schedule.specs.declared.relating.usage.Use.{Use}
use Rattle.bsv_schedule.specs.relating.Rows.{marks_in, AreMarksOf}

-- the rows are those of the elements from one on, up to another
pub record AreRowsBetween (ks : List Kind) (us : List (List Use)) (from to : ℕ) (rows : List Row) : Type 0 where
  pub count : from + length rows ≡ to
  pub each : (i : ℕ) (row : Row) → slice_get rows i ≡ Some row → (w : Relation) → AreMarksOf w ks us (from + i) (marks_in w row)

-- how many blocks n elements are cut into: sixteen, or one for each element where there are fewer
abbrev pub block_count : ℕ → ℕ
block_count n = min n 16

-- the first element of block k. After the last block all elements end.
abbrev pub block_start : ℕ → ℕ → ℕ
block_start n k = k * n / block_count n

-- the rows are those of the elements of block k
pub record AreRowsOfBlock (ks : List Kind) (us : List (List Use)) (k : ℕ) (rows : List Row) : Type 0 where
  pub between : AreRowsBetween ks us (block_start (length us) k) (block_start (length us) (k + 1)) rows
