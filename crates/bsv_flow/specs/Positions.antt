-- The line and the column of a byte, counted from 1. A line ends with its LF.
use Rattle.std.specs.Prelude.{ℕ, ◌+◌, ◌==◌, Bool, if◌then◌else◌, List, [], ◌∷◌, length, take, filter}
use Rattle.std.specs.List.{list_any}

abbrev pub is_line_feed : ℕ → Bool
is_line_feed b = b == 10

-- what comes after the last LF
abbrev pub last_line : List ℕ → List ℕ
last_line [] = []
last_line (b ∷ bytes) = if list_any is_line_feed (b ∷ bytes) then last_line bytes else b ∷ bytes

-- one more than the LFs in front of the byte
abbrev pub line : List ℕ → ℕ → ℕ
line bytes at = length (filter is_line_feed (take at bytes)) + 1

-- one more than the bytes in front of it in its line
abbrev pub column : List ℕ → ℕ → ℕ
column bytes at = length (last_line (take at bytes)) + 1
