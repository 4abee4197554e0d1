-- The rows of a design's elements: of each element, which elements it stands to in a relation. An element is known by its
-- position.
use Rattle.std.specs.Prelude.{◌≡◌, ℕ, ◌<◌, ◌⊎◌, ◌↔◌, Bool, false, IsTrue, List, length, slice_get, slice_index_or, Option, Some, None}
use Rattle.bsv_design.specs.declared.kind.Kind.{Kind}
use Rattle.bsv_design.specs.scheme.Schemes.{Scheme}
use Rattle.bsv_schedule.specs.declared.relating.related.Relation.{Relation}
use Rattle.bsv_schedule.specs.declared.relating.related.Relation.TheVariants as relation
use Rattle.bsv_schedule.specs.declared.relating.rows.Row.{Row}
use Rattle.bsv_schedule.specs.declared.relating.usage.Use.{Use}
use Rattle.bsv_schedule.specs.relating.Related.{names_method, related}
use Rattle.bsv_schedule.specs.relating.Uses.{MeetAt, Meets}

-- whether b is marked, where it is in the list
abbrev pub mark : List Bool → ℕ → Bool
mark marks b = slice_index_or marks b false

-- the marks of a row in a relation
abbrev pub marks_in : Relation → Row → List Bool
marks_in relation.Clashes row = row.clashes.items
marks_in relation.Feeds row = row.feeds.items

abbrev pub mark_of : Relation → ℕ → Option Row → Bool
mark_of w b None = false
mark_of w b (Some row) = mark (marks_in w row) b

-- whether b is marked in the row of a
abbrev pub mark_at : Relation → List Row → ℕ → ℕ → Bool
mark_at w rows a b = mark_of w b (slice_get rows a)

-- each row has a mark for each row
abbrev pub IsSquare : List Row → Type 0
IsSquare rows = (a : ℕ) (row : Row) → slice_get rows a ≡ Some row → (w : Relation) → length (marks_in w row) ≡ length rows

-- of n elements those are marked of which P holds
pub record AreMarks (n : ℕ) (P : ℕ → Type 0) (marks : List Bool) : Type 0 where
  pub count : length marks ≡ n
  pub met : (b : ℕ) → b < n → IsTrue (mark marks b) ↔ P b

-- those that a stands to in the relation
abbrev pub IsRow : Scheme → ℕ → Relation → ℕ → List Bool → Type 0
IsRow S n w a marks = AreMarks n (λ b. Meets w S.kinds (S.uses a) (S.uses b)) marks

-- there is a row for each of n elements
pub record AreRows (S : Scheme) (n : ℕ) (rows : List Row) : Type 0 where
  pub count : length rows ≡ n
  pub each : (a : ℕ) (row : Row) → slice_get rows a ≡ Some row → (w : Relation) → IsRow S n w a (marks_in w row)

-- How the code makes a row: the marks that are made are the old ones, and those of P.
pub record Gains (old new : List Bool) (P : ℕ → Type 0) : Type 0 where
  pub count : length new ≡ length old
  pub kept : (b : ℕ) → b < length old → IsTrue (mark old b) → IsTrue (mark new b)
  pub added : (b : ℕ) → b < length old → P b → IsTrue (mark new b)
  pub only : (b : ℕ) → b < length old → IsTrue (mark new b) → IsTrue (mark old b) ⊎ P b

-- of each method that the use's part has there is noted whether a call of it and the use stand in the relation
abbrev pub AreNotedOf : Relation → List Kind → Use → List Bool → Type 0
AreNotedOf w ks own noted = (m : ℕ) → IsTrue (names_method ks own.part m)
    → (m < length noted) × (mark noted m ≡ related w (slice_get ks own.part) own.method m)

-- the marks of an element, of elements that use these methods
abbrev pub AreMarksOf : Relation → List Kind → List (List Use) → ℕ → List Bool → Type 0
AreMarksOf w ks us a marks = AreMarks (length us) (MeetAt w ks us a) marks
