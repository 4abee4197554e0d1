-- How a list and the traces that it names are read.
use Rattle.std.specs.Prelude.{◌≡◌, ◌<◌, ◌≤◌, ℕ, List, [], ◌∷◌, ◌++◌, length, take, Option, Some}
use Rattle.bsv_run.specs.Reading.{HasNoFeed}
use Rattle.bsv_run.specs.Traces.{lines_of}
use Rattle.bsv_suite.specs.declared.sections.Trace.{Trace}
use Rattle.bsv_suite.specs.Lists.{IsNamed, NamesNone}

-- a line of a list may have so many bytes with its end: a carriage return and a line feed
abbrev pub name_line_limit : ℕ
name_line_limit = 257

-- So many bytes of a trace are read at most: one more than it may have. The line that holds that one is bad.
abbrev pub trace_read_limit : ℕ
trace_read_limit = 1048577

-- What was held and what is left of a file are what is held now and what is left now; and a line is held, or more than a line may
-- have, or nothing is left.
pub record Fills (held left new : List ℕ) (told : Option (List ℕ)) : Type 0 where
  pub after : List ℕ
  pub told_after : told ≡ Some after
  pub moved : held ++ left ≡ new ++ after
  pub enough : HasNoFeed new → length new ≤ name_line_limit → after ≡ []

-- the next line of what is held and what comes after it; or a part of that line which is too long
pub data IsNext (held after line behind : List ℕ) : Type 0 where
  whole : lines_of (held ++ after) ≡ line ∷ lines_of (behind ++ after) → IsNext held after line behind
  over : (first : List ℕ) (rest : List (List ℕ)) → lines_of (held ++ after) ≡ first ∷ rest → name_line_limit < length line → length line ≤ length first
      → IsNext held after line behind

-- the next line after so many others names this trace; and what is held and left then
pub record TakesName (before : ℕ) (held left name new : List ℕ) (told : Option (List ℕ)) : Type 0 where
  pub line : List ℕ
  pub after : List ℕ
  pub told_after : told ≡ Some after
  pub lines : lines_of (held ++ left) ≡ line ∷ lines_of (new ++ after)
  pub named : IsNamed before line name

-- the next line after so many others is bad
pub record MeetsBad (before : ℕ) (bytes : List ℕ) : Type 0 where
  pub line : List ℕ
  pub rest : List (List ℕ)
  pub lines : lines_of bytes ≡ line ∷ rest
  pub bad : NamesNone before line

-- a trace has its name, and the bytes that are read of its file
pub record IsReadOf (contents : List ℕ → List ℕ) (name : List ℕ) (t : Trace) : Type 0 where
  pub name_is : t.name ≡ name
  pub bytes : t.bytes.items ≡ take trace_read_limit (contents name)

-- and so has each of these
abbrev pub AreRead : (List ℕ → List ℕ) → List (List ℕ) → List Trace → Type 0
AreRead contents [] [] = Unit {0}
AreRead contents (name ∷ names) (t ∷ ts) = IsReadOf contents name t × AreRead contents names ts
AreRead contents _ _ = ⊥
