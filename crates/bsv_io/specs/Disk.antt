-- Files that are opened by their names, as the real ones of a runtime.
use Rattle.std.specs.Prelude.{ℕ, List, Option, None}
use Rattle.bsv_io.specs.Reading.{Reading}
use Rattle.bsv_io.specs.Standing.{Standing, told}

-- where the source stands; what the open file tells that it has left, where it tells that
pub record DiskSource : Type 0 where
  pub standing : Standing
  pub left : Option (List ℕ)

-- the source itself tells nothing of its contents
abbrev pub disk_reading : DiskSource → Reading
disk_reading s = told None s.standing
