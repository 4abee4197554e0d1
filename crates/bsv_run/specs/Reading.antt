-- A trace that is read piece by piece: where a line ends, and how much of one is kept.
use Rattle.std.specs.Prelude.{◌≡◌, ◌≢◌, ◌<◌, ◌⊎◌, ℕ, ◌+◌, List, [], ◌∷◌, ◌++◌, length}

-- no byte is a line feed
abbrev pub HasNoFeed : List ℕ → Type 0
HasNoFeed [] = Unit {0}
HasNoFeed (byte ∷ bytes) = (byte ≢ 10) × HasNoFeed bytes

-- the bytes are ended by their one line feed
pub record IsEnded (bytes : List ℕ) : Type 0 where
  pub front : List ℕ
  pub unended : HasNoFeed front
  pub is : bytes ≡ front ++ 10 ∷ []

-- the bytes up to the first line feed, and those after it
pub record IsFirstLine (bytes line behind : List ℕ) : Type 0 where
  pub ended : IsEnded line
  pub whole : bytes ≡ line ++ behind

-- a line may have so many bytes with its end: a carriage return and a line feed
abbrev pub line_limit : ℕ
line_limit = 4098

-- what was begun of a line after so many bytes is too long, or ends after the limit of the trace
abbrev pub IsOver : ℕ → ℕ → List ℕ → Type 0
IsOver limit at line = (line_limit < length line) ⊎ (limit < at + length line)
