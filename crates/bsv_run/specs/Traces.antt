-- Traces: each line is one clock, and asks for calls of the methods of the top.
use Rattle.std.specs.Prelude.{◌≤◌, ℕ, zero, suc, ◌+◌, ◌==◌, List, [], ◌∷◌, length, if◌then◌else◌}
use Rattle.bsv_design.specs.scheme.Schemes.{Asking, Outline}
use Rattle.bsv_trace.specs.Lines.{AsksFor}

-- ---- lines

-- a byte in front of the first line
abbrev pub onto : ℕ → List (List ℕ) → List (List ℕ)
onto byte [] = (byte ∷ []) ∷ []
onto byte (line ∷ lines) = (byte ∷ line) ∷ lines

-- the lines of a trace, each with the line feed that ends it; an empty last piece is no line
abbrev pub lines_of : List ℕ → List (List ℕ)
lines_of [] = []
lines_of (byte ∷ bytes) = if byte == 10 then (byte ∷ []) ∷ lines_of bytes else onto byte (lines_of bytes)

-- a list without its last byte where that is the given one
abbrev pub without_last : ℕ → List ℕ → List ℕ
without_last byte [] = []
without_last byte (x ∷ []) = if x == byte then [] else x ∷ []
without_last byte (x ∷ y ∷ ys) = x ∷ without_last byte (y ∷ ys)

-- what a line says: its bytes without the line feed, and then without one carriage return at the end
abbrev pub line_text : List ℕ → List ℕ
line_text line = without_last 13 (without_last 10 line)

-- how many bytes the first lines have, of which there are so many
abbrev pub bytes_in : ℕ → List (List ℕ) → ℕ
bytes_in zero lines = 0
bytes_in (suc n) [] = 0
bytes_in (suc n) (line ∷ lines) = length line + bytes_in n lines

-- ---- what lines ask for

-- a line that ends after so many bytes of the trace asks for this: it ends within the limit of the trace, and what it says asks
-- for it
pub record IsAsked (limit : ℕ) (outlines : List Outline) (end : ℕ) (line : List ℕ) (q : Asking) : Type 0 where
  pub within : end ≤ limit
  pub asks : AsksFor outlines (line_text line) q

-- a line is bad: there is nothing that it asks for
abbrev pub IsBad : ℕ → List Outline → ℕ → List ℕ → Type 0
IsBad limit outlines end line = (q : Asking) → IsAsked limit outlines end line q → ⊥

-- each of the lines asks for the request of its place, where so many bytes come before them
abbrev pub AreAsked : ℕ → List Outline → ℕ → List (List ℕ) → List Asking → Type 0
AreAsked limit outlines start [] [] = Unit {0}
AreAsked limit outlines start (line ∷ lines) (q ∷ qs) =
    IsAsked limit outlines (start + length line) line q × AreAsked limit outlines (start + length line) lines qs
AreAsked limit outlines start _ _ = ⊥

-- the first lines ask for these requests, and the line after them is bad
abbrev pub AreAskedToBad : ℕ → List Outline → ℕ → List (List ℕ) → List Asking → Type 0
AreAskedToBad limit outlines start (line ∷ lines) [] = IsBad limit outlines (start + length line) line
AreAskedToBad limit outlines start (line ∷ lines) (q ∷ qs) =
    IsAsked limit outlines (start + length line) line q × AreAskedToBad limit outlines (start + length line) lines qs
AreAskedToBad limit outlines start [] qs = ⊥

-- all lines of the trace ask for these requests
abbrev pub IsClean : ℕ → List Outline → List ℕ → List Asking → Type 0
IsClean limit outlines trace qs = AreAsked limit outlines 0 (lines_of trace) qs

-- the first bad line of the trace comes after lines that ask for these requests
abbrev pub HasBadLine : ℕ → List Outline → List ℕ → List Asking → Type 0
HasBadLine limit outlines trace qs = AreAskedToBad limit outlines 0 (lines_of trace) qs
