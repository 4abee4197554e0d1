-- The list of a suite: each line is the name of a trace file.
use Rattle.std.specs.Prelude.{◌≡◌, ◌<◌, ℕ, ◌+◌, Bool, ◌&&◌, nat_le, IsTrue, List, [], ◌∷◌, length}
use Rattle.std.specs.List.{list_all}
use Rattle.bsv_run.specs.Traces.{line_text, lines_of}

-- a byte that a name may have
abbrev pub is_printable : ℕ → Bool
is_printable byte = nat_le 32 byte && nat_le byte 126

-- the name of a trace file
abbrev pub is_trace_name : List ℕ → Bool
is_trace_name name = nat_le 1 (length name) && nat_le (length name) 255 && list_all is_printable name

-- a list may have so many lines
abbrev pub list_limit : ℕ
list_limit = 256

-- a line after so many others names this trace
pub record IsNamed (before : ℕ) (line name : List ℕ) : Type 0 where
  pub within : before < list_limit
  pub is : name ≡ line_text line
  pub legal : IsTrue (is_trace_name name)

-- it is bad: there is no trace that it names
abbrev pub NamesNone : ℕ → List ℕ → Type 0
NamesNone before line = (name : List ℕ) → IsNamed before line name → ⊥

-- each of the lines names the trace of its place, where so many lines come before them
abbrev pub AreNamed : ℕ → List (List ℕ) → List (List ℕ) → Type 0
AreNamed before [] [] = Unit {0}
AreNamed before (line ∷ lines) (name ∷ names) = IsNamed before line name × AreNamed (before + 1) lines names
AreNamed before _ _ = ⊥

-- the first lines name these traces, and the line after them is bad
abbrev pub AreNamedToBad : ℕ → List (List ℕ) → List (List ℕ) → Type 0
AreNamedToBad before (line ∷ lines) [] = NamesNone before line
AreNamedToBad before (line ∷ lines) (name ∷ names) = IsNamed before line name × AreNamedToBad (before + 1) lines names
AreNamedToBad before [] names = ⊥

-- all lines of a list name these traces
abbrev pub NamesTraces : List ℕ → List (List ℕ) → Type 0
NamesTraces list names = AreNamed 0 (lines_of list) names

-- the first bad line of a list comes after lines that name these traces
abbrev pub HasBadName : List ℕ → List (List ℕ) → Type 0
HasBadName list names = AreNamedToBad 0 (lines_of list) names

-- the first bad line of a list has this number
pub record HasBadLineAt (list : List ℕ) (number : ℕ) : Type 0 where
  pub names : List (List ℕ)
  pub bad : HasBadName list names
  pub number_is : number ≡ length names + 1
