-- The report of a trace that can be read no further: the opening state, and the clocks of the lines that were given whole.
use Rattle.std.specs.Prelude.{◌≡◌, ◌≤◌, ℕ, false, List, ◌++◌, length, take, drop, Option, None, Some}
use Rattle.bsv_design.specs.declared.schedule.Schedule.{Schedule}
use Rattle.bsv_design.specs.scheme.Schemes.{Asking}
use Rattle.bsv_io.specs.Reading.{Current}
use Rattle.bsv_io.specs.Writing.{Writing, appended}
use Rattle.bsv_clock.specs.Runs.{Row, Runs}
use Rattle.bsv_clock.specs.Subjects.{Subject}
use Rattle.bsv_run.specs.Reading.{HasNoFeed}
use Rattle.bsv_run.specs.Reports.{report}
use Rattle.bsv_run.specs.Traces.{AreAsked, bytes_in, lines_of}

-- the lines whose line feed stands before a place of the trace were run, and their report was put
pub record IsReportTo (limit : ℕ) (s : Subject) (made : Schedule) (start : Writing) (trace : List ℕ) (place : ℕ) (w : Writing) : Type 0 where
  pub front : List (List ℕ)
  pub rest : List (List ℕ)
  pub qs : List Asking
  pub rows : List Row
  pub lines : lines_of trace ≡ front ++ rest
  pub before : bytes_in (length front) front ≤ place
  pub unended : HasNoFeed (drop (bytes_in (length front) front) (take place trace))
  pub asked : AreAsked limit s.scheme.elements 0 front qs
  pub runs : Runs false s.scheme made qs rows
  pub put : w ≡ appended (report s rows) start

-- the place is that of the current file; where there is none, nothing was put
abbrev pub IsInterrupted : ℕ → Subject → Schedule → Writing → List ℕ → Option Current → Writing → Type 0
IsInterrupted limit s made start trace None w = w ≡ start
IsInterrupted limit s made start trace (Some at) w = IsReportTo limit s made start trace at.place w
