-- The sections of a suite: of each trace, in their order and each once, its name, the report of its run, and the number of its
-- first bad line.
use Rattle.std.specs.Prelude.{◌≡◌, ◌⊎◌, ℕ, ◌+◌, false, List, [], ◌∷◌, length}
use Rattle.bsv_design.specs.declared.schedule.Schedule.{Schedule}
use Rattle.bsv_design.specs.scheme.Schemes.{Asking}
use Rattle.bsv_clock.specs.Runs.{Row, Runs}
use Rattle.bsv_clock.specs.Subjects.{Subject}
use Rattle.bsv_run.specs.Reports.{report}
use Rattle.bsv_run.specs.Traces.{IsClean, HasBadLine}
use Rattle.bsv_suite.specs.declared.sections.Trace.{Trace}
use Rattle.bsv_suite.specs.declared.sections.Section.{Section}

-- a trace of a suite may have so many bytes
abbrev pub section_limit : ℕ
section_limit = 1048576

module _ (s : Subject) (made : Schedule) (trace text : List ℕ) (bad : ℕ) where
  -- each line was run, and the text is their report
  pub record IsWhole : Type 0 where
    pub qs : List Asking
    pub rows : List Row
    pub clean : IsClean section_limit s.scheme.elements trace qs
    pub runs : Runs false s.scheme made qs rows
    pub text_is : text ≡ report s rows
    pub bad_is : bad ≡ 0

  -- the lines before the first bad one were run, and the text is their report; the bad line has this number
  pub record IsCut : Type 0 where
    pub qs : List Asking
    pub rows : List Row
    pub line : HasBadLine section_limit s.scheme.elements trace qs
    pub runs : Runs false s.scheme made qs rows
    pub text_is : text ≡ report s rows
    pub bad_is : bad ≡ length qs + 1

-- what is reported of a trace: a text, and the number of its first bad line, or 0 where there is none
abbrev pub IsReported : Subject → Schedule → List ℕ → List ℕ → ℕ → Type 0
IsReported s made trace text bad = IsWhole s made trace text bad ⊎ IsCut s made trace text bad

pub record IsSection (s : Subject) (made : Schedule) (t : Trace) (x : Section) : Type 0 where
  pub name : x.name ≡ t.name
  pub reported : IsReported s made t.bytes.items x.text.items x.bad

-- the sections are those of the traces, each once, in their order
abbrev pub AreSections : Subject → Schedule → List Trace → List Section → Type 0
AreSections s made [] [] = Unit {0}
AreSections s made (t ∷ ts) (x ∷ xs) = IsSection s made t x × AreSections s made ts xs
AreSections s made _ _ = ⊥
