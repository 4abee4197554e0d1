-- A trace that is run: how far its clocks were run, and what was put of their report.
use Rattle.std.specs.Prelude.{◌≡◌, ℕ, ◌+◌, false, List, [], ◌++◌, length, Option}
use Rattle.bsv_prim.specs.declared.part.Part.{Part}
use Rattle.bsv_design.specs.declared.design.Design.{Design}
use Rattle.bsv_design.specs.declared.schedule.Schedule.{Schedule}
use Rattle.bsv_design.specs.scheme.Schemes.{Asking, Outline, kinds_of}
use Rattle.bsv_design.specs.scheme.Seen.{asking, design_data}
use Rattle.bsv_design.specs.scheme.States.{AskingFits, FitsKinds, nothing_asked, opening}
use Rattle.bsv_io.specs.Reading.{Current}
use Rattle.bsv_io.specs.Writing.{Writing, appended, AppendsPrefix}
use Rattle.bsv_trace.specs.Lines.{AsksFor}
use Rattle.bsv_trace.specs.Texts.{clock_text}
use Rattle.bsv_clock.specs.Events.{Happens}
use Rattle.bsv_clock.specs.Runs.{Row, Runs}
use Rattle.bsv_clock.specs.Shows.{Shows}
use Rattle.bsv_clock.specs.Subjects.{Subject, design_subject, element_name}
use Rattle.bsv_sim.specs.Simulation.{IsSimulated, net_of, registers_of}
use Rattle.bsv_design.specs.scheme.Rooms.{HasRoom}
use Rattle.bsv_run.specs.declared.lines.Lines.{Lines}
use Rattle.bsv_run.specs.declared.run.Run.{Run}
use Rattle.bsv_run.specs.Interrupted.{IsInterrupted, IsReportTo}
use Rattle.bsv_run.specs.Reading.{HasNoFeed}
use Rattle.bsv_run.specs.Reports.{report, state_after}
use Rattle.bsv_run.specs.Traces.{AreAsked, IsClean, HasBadLine, bytes_in, line_text, lines_of}

-- ---- a run

-- the registers of the simulator show these parts of the design
pub record ShowsParts (d : Design) (r : Run) (ps : List Part) : Type 0 where
  pub fits : FitsKinds (kinds_of (design_data d)) ps
  pub shows : Shows (kinds_of (design_data d)) ps (registers_of r.sim)

-- a run fits the design and its schedule: the simulator's net is hardware of it, and its registers show a state
pub record FitsRun (d : Design) (made : Schedule) (r : Run) : Type 0 where
  pub simulated : IsSimulated d made (net_of r.sim)
  pub parts : List Part
  pub shown : ShowsParts d r parts
  pub requests : AskingFits d.elements (asking r.requests)
  pub room : HasRoom (length d.elements) r.fired

-- nothing was run yet of a trace that may have so many bytes
pub record IsStart (limit : ℕ) (d : Design) (made : Schedule) (r : Run) : Type 0 where
  pub fits : FitsRun d made r
  pub limit_is : r.lines.limit ≡ limit
  pub done : r.lines.done ≡ 0
  pub at : r.lines.at ≡ 0
  pub none : r.lines.held.items ≡ []
  pub nothing : asking r.requests ≡ nothing_asked d.elements
  pub state : ShowsParts d r (opening (kinds_of (design_data d)))

-- ---- one line

-- what the lines of a trace may ask for
abbrev pub outlines_of : Design → List Outline
outlines_of d = (design_subject d).scheme.elements

-- the line that was gathered asks for what is requested, and its clock goes from the one state to the other
pub record RunsLine (d : Design) (made : Schedule) (old new : Run) (s after : List Part) : Type 0 where
  pub asks : AsksFor (design_subject d).scheme.elements (line_text old.lines.held.items) (asking new.requests)
  pub happens : Happens false (design_subject d).scheme made (asking new.requests) s new.fired after
  pub shown : ShowsParts d new after

-- what is put of this clock
abbrev pub lines_of_clock : Design → Run → Run → List Part → List ℕ
lines_of_clock d old new after =
    clock_text (element_name (design_subject d).scheme) (old.lines.done + 1) new.fired (design_subject d).parts after

-- from this state the line was run, and its clock was put
pub record PutsClock (d : Design) (made : Schedule) (old new : Run) (s : List Part) (w next : Writing) : Type 0 where
  pub after : List Part
  pub ran : RunsLine d made old new s after
  pub put : next ≡ appended (lines_of_clock d old new after) w

-- or a prefix of it
pub record BeginsClock (d : Design) (made : Schedule) (old new : Run) (s : List Part) (w next : Writing) : Type 0 where
  pub after : List Part
  pub ran : RunsLine d made old new s after
  pub prefix : AppendsPrefix (lines_of_clock d old new after) w next

-- from the state that is shown the line was run, its clock was put, and the next line begins
pub record EndsLine (d : Design) (made : Schedule) (old new : Run) (w next : Writing) : Type 0 where
  pub ran : (s : List Part) → ShowsParts d old s → PutsClock d made old new s w next
  pub done : new.lines.done ≡ old.lines.done + 1
  pub at : new.lines.at ≡ old.lines.at + length old.lines.held.items
  pub none : new.lines.held.items ≡ []
  pub limit : new.lines.limit ≡ old.lines.limit

-- ---- so far

-- These bytes of a trace were read, and whatever is left after them: the lines that ended ask for these requests, and
-- after those lines stands what was begun of the next one.
pub record StandsAt (limit : ℕ) (outlines : List Outline) (read : List ℕ) (l : Lines) (qs : List Asking) : Type 0 where
  pub front : List (List ℕ)
  pub lines : (left : List ℕ) → lines_of (read ++ left) ≡ front ++ lines_of (l.held.items ++ left)
  pub asked : AreAsked limit outlines 0 front qs
  pub done : length front ≡ l.done
  pub at : bytes_in (length front) front ≡ l.at
  pub long : length read ≡ l.at + length l.held.items

-- so far: these bytes were read, their lines were run from the opening state, and the report of that was put
pub record HasRun (limit : ℕ) (d : Design) (made : Schedule) (start : Writing) (read : List ℕ) (r : Run) (w : Writing) : Type 0 where
  pub qs : List Asking
  pub rows : List Row
  pub limit_is : r.lines.limit ≡ limit
  pub stands : StandsAt limit (design_subject d).scheme.elements read r.lines qs
  pub unended : HasNoFeed r.lines.held.items
  pub runs : Runs false (design_subject d).scheme made qs rows
  pub state : ShowsParts d r (state_after (opening (design_subject d).scheme.kinds) rows)
  pub put : w ≡ appended (report (design_subject d) rows) start

-- ---- at the end

module _ (limit : ℕ) (s : Subject) (made : Schedule) (start : Writing) (trace : List ℕ) (w : Writing) where
  -- each line was run, and the report was put
  pub record IsDone : Type 0 where
    pub qs : List Asking
    pub rows : List Row
    pub clean : IsClean limit s.scheme.elements trace qs
    pub runs : Runs false s.scheme made qs rows
    pub put : w ≡ appended (report s rows) start

  -- the lines before the first bad one were run, and their report was put; the bad line has this number
  pub record IsFaulty (number : ℕ) : Type 0 where
    pub qs : List Asking
    pub rows : List Row
    pub bad : HasBadLine limit s.scheme.elements trace qs
    pub runs : Runs false s.scheme made qs rows
    pub number_is : number ≡ length qs + 1
    pub put : w ≡ appended (report s rows) start

  -- a prefix of the report of some first lines was put
  pub record IsStarted : Type 0 where
    pub front : List (List ℕ)
    pub rest : List (List ℕ)
    pub qs : List Asking
    pub rows : List Row
    pub lines : lines_of trace ≡ front ++ rest
    pub asked : AreAsked limit s.scheme.elements 0 front qs
    pub runs : Runs false s.scheme made qs rows
    pub prefix : AppendsPrefix (report s rows) start w

-- the same of a design
abbrev pub IsDoneOf : ℕ → Design → Schedule → Writing → List ℕ → Writing → Type 0
IsDoneOf limit d made start trace w = IsDone limit (design_subject d) made start trace w

abbrev pub IsFaultyOf : ℕ → Design → Schedule → Writing → List ℕ → Writing → ℕ → Type 0
IsFaultyOf limit d made start trace w number = IsFaulty limit (design_subject d) made start trace w number

abbrev pub IsStartedOf : ℕ → Design → Schedule → Writing → List ℕ → Writing → Type 0
IsStartedOf limit d made start trace w = IsStarted limit (design_subject d) made start trace w

abbrev pub IsReportToOf : ℕ → Design → Schedule → Writing → List ℕ → ℕ → Writing → Type 0
IsReportToOf limit d made start trace place w = IsReportTo limit (design_subject d) made start trace place w

abbrev pub IsInterruptedOf : ℕ → Design → Schedule → Writing → List ℕ → Option Current → Writing → Type 0
IsInterruptedOf limit d made start trace at w = IsInterrupted limit (design_subject d) made start trace at w
