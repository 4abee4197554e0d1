-- What was compiled is run over a trace of as many bytes as a trace may have, and how far the trace is read.
use Rattle.std.specs.Prelude.{◌≡◌, ◌≤◌, ℕ, ◌+◌, List, length, Option, Some}
use Rattle.bsv_design.specs.scheme.Schemes.{Asking, Outline}
use Rattle.bsv_io.specs.Reading.{Current, Reading, bytes_given, current_name}
use Rattle.bsv_io.specs.Writing.{Writing}
use Rattle.bsv_clock.specs.Subjects.{Subject, design_subject}
use Rattle.bsv_flow.specs.declared.scheduling.Compiled.{Compiled}
use Rattle.bsv_run.specs.declared.run.Run.{Run}
use Rattle.bsv_run.specs.Running as running
use Rattle.bsv_run.specs.Traces.{bytes_in, lines_of}
use Rattle.bsv_top.specs.declared.scheduled.ScheduledDesign.{ScheduledDesign}
use Rattle.bsv_top.specs.Places.{piece_limit}
use Rattle.bsv_top.specs.Traces.{HasBadLine, trace_limit}

-- ---- what is run

-- what is run of what was compiled
abbrev pub scheduled_of : Compiled → ScheduledDesign
scheduled_of c = record { design = c.design; schedule = c.schedule }

abbrev pub its_subject : ScheduledDesign → Subject
its_subject c = design_subject c.design

abbrev pub its_outlines : ScheduledDesign → List Outline
its_outlines c = (its_subject c).scheme.elements

-- ---- how far it was run

-- nothing was run yet
abbrev pub IsStart : ScheduledDesign → Run → Type 0
IsStart c r = running.IsStart trace_limit c.design c.schedule r

-- these bytes were read, their lines were run from the opening state, and the report of that was put
abbrev pub HasRun : ScheduledDesign → Writing → List ℕ → Run → Writing → Type 0
HasRun c start read r w = running.HasRun trace_limit c.design c.schedule start read r w

-- each line was run, and the report was put
abbrev pub IsDoneOf : ScheduledDesign → Writing → List ℕ → Writing → Type 0
IsDoneOf c start trace w = running.IsDoneOf trace_limit c.design c.schedule start trace w

-- the lines before the first bad one were run, and their report was put; the bad line has this number
abbrev pub IsFaultyOf : ScheduledDesign → Writing → List ℕ → Writing → ℕ → Type 0
IsFaultyOf c start trace w number = running.IsFaultyOf trace_limit c.design c.schedule start trace w number

-- the lines whose line feed stands before a place of the trace were run, and their report was put
abbrev pub IsReportToOf : ScheduledDesign → Writing → List ℕ → ℕ → Writing → Type 0
IsReportToOf c start trace place w = running.IsReportToOf trace_limit c.design c.schedule start trace place w

-- the place is that of the current file
abbrev pub IsInterruptedOf : ScheduledDesign → Writing → List ℕ → Option Current → Writing → Type 0
IsInterruptedOf c start trace at w = running.IsInterruptedOf trace_limit c.design c.schedule start trace at w

-- a prefix of the report of some first lines was put
abbrev pub IsStartedOf : ScheduledDesign → Writing → List ℕ → Writing → Type 0
IsStartedOf c start trace w = running.IsStartedOf trace_limit c.design c.schedule start trace w

-- ---- how far was read

-- the trace of this name is current, and was read at most to its end, and at most so much room after its first bad line
pub record IsFollowed (outlines : List Outline) (room : ℕ) (trace : List ℕ) (contents : List ℕ → List ℕ) (r : Reading) : Type 0 where
  pub current : current_name r ≡ Some trace
  pub end : bytes_given r ≤ length (contents trace)
  pub bad : (qs : List Asking) → HasBadLine outlines (contents trace) qs
      → bytes_given r ≤ bytes_in (length qs + 1) (lines_of (contents trace)) + room

-- the file that is current was so before; or nothing of it was given; or it is the trace
pub data Follows (outlines : List Outline) (trace : List ℕ) (contents : List ℕ → List ℕ) (old new : Reading) : Type 0 where
  unread : new.current ≡ old.current → Follows outlines trace contents old new
  nothing : bytes_given new ≡ 0 → Follows outlines trace contents old new
  followed : IsFollowed outlines piece_limit trace contents new → Follows outlines trace contents old new
