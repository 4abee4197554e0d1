-- How bytes go over from a file to those that were read of it.
use Rattle.std.specs.Prelude.{◌≡◌, ℕ, List, [], ◌++◌, Option, Some, IsSome}
use Rattle.bsv_io.specs.Reading.{Reading, current_name}

-- so many bytes of what is left of the file went over to what is read of it; none only at the end
pub record Moves (n : ℕ) (old new left : List ℕ) (told : Option (List ℕ)) : Type 0 where
  pub after : List ℕ
  pub told_after : told ≡ Some after
  pub moved : old ++ left ≡ new ++ after
  pub end : n ≡ 0 → after ≡ []

-- the same file goes on
pub record SameFile (old new : Reading) : Type 0 where
  pub name : current_name new ≡ current_name old
  pub current : IsSome new.current
