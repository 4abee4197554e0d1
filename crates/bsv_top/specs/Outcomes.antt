-- What a run leaves, whatever its sources and sinks do.
use Rattle.std.specs.Prelude.{◌≡◌, ℕ, List, [], Contains, Option, Some}
use Rattle.bsv_io.specs.Faults.{MayFault}
use Rattle.bsv_io.specs.Reading.{Current, Reading}
use Rattle.bsv_io.specs.Writing.{Writing, appended, AppendsPrefix}
use Rattle.bsv_design.specs.declared.schedule.Schedule.{Schedule}
use Rattle.bsv_tree.specs.tree.Trees.{TreeData}
use Rattle.bsv_flow.specs.Compilings.{IsPlanned}
use Rattle.bsv_flow.specs.Loads.{Reaches}
use Rattle.bsv_flow.specs.Schedulings.{subject}
use Rattle.bsv_top.specs.declared.status.Status.{Status}
use Rattle.bsv_top.specs.declared.status.Status.TheVariants as status
use Rattle.bsv_top.specs.Answers.{Answer, Asks, sim_words, suite_words, cannot_read_line, no_memory_line}
use Rattle.bsv_top.specs.Interrupted.{IsInterrupted}
use Rattle.bsv_suite.specs.Lists.{NamesTraces}
use Rattle.bsv_suite.specs.Suites.{IsSuiteCut}
use Rattle.bsv_top.specs.LaidOut.{IsLaidOut}

-- the words ask for no run over a trace
abbrev pub AsksNoRun : List (List ℕ) → Type 0
AsksNoRun words = (file top trace : List ℕ) → words ≡ sim_words file top trace → ⊥

-- the words ask for no suite
abbrev pub AsksNoSuite : List (List ℕ) → Type 0
AsksNoSuite words = (file top list : List ℕ) → words ≡ suite_words file top list → ⊥

-- the statuses that the words and the contents decide
abbrev pub IsDecided : Status → Type 0
IsDecided status.Done = Unit {0}
IsDecided status.Refused = Unit {0}
IsDecided status.Usage = Unit {0}
IsDecided status.ReadFault = ⊥
IsDecided status.WriteFault = ⊥
IsDecided status.OutOfMemory = ⊥
IsDecided status.TraceFault = Unit {0}

-- the statuses that may come where something failed
abbrev pub IsFault : Status → Type 0
IsFault status.Done = ⊥
IsFault status.Refused = ⊥
IsFault status.Usage = ⊥
IsFault status.ReadFault = Unit {0}
IsFault status.WriteFault = Unit {0}
IsFault status.OutOfMemory = Unit {0}
IsFault status.TraceFault = ⊥

-- the whole output and the whole fault text of an answer are put
pub record Answered (words : List (List ℕ)) (contents : List ℕ → List ℕ) (s : Status) (out out' err err' : Writing) : Type 0 where
  pub output : List ℕ
  pub text : List ℕ
  pub answer : Answer words contents s output text
  pub put : out' ≡ appended output out
  pub told : err' ≡ appended text err

-- the statuses of what is accepted
abbrev pub Accepts : Status → Type 0
Accepts status.Done = Unit {0}
Accepts status.Refused = ⊥
Accepts status.Usage = ⊥
Accepts status.ReadFault = ⊥
Accepts status.WriteFault = ⊥
Accepts status.OutOfMemory = ⊥
Accepts status.TraceFault = Unit {0}

-- what the words ask for is accepted, and can be laid out
pub record IsAccepted (words : List (List ℕ)) (contents : List ℕ → List ℕ) : Type 0 where
  pub file : List ℕ
  pub top : List ℕ
  pub asks : Asks words file top
  pub tree : TreeData
  pub made : Schedule
  pub planned : IsPlanned file contents top tree made
  pub laid : IsLaidOut tree

-- all is done: what is asked for of a file is accepted, and the whole output of an answer is put
pub record IsDoneBy (words : List (List ℕ)) (contents : List ℕ → List ℕ) (out out' : Writing) : Type 0 where
  pub accepted : (file top : List ℕ) → Asks words file top → IsAccepted words contents
  pub output : List ℕ
  pub answer : Answer words contents status.Done output []
  pub put : out' ≡ appended output out

-- nothing is put, or a prefix of the output of an answer
pub data OutputStarted (words : List (List ℕ)) (contents : List ℕ → List ℕ) (out out' : Writing) : Type 0 where
  nothing : out' ≡ out → OutputStarted words contents out out'
  started : {s : Status} {output : List ℕ} (text : List ℕ) → Answer words contents s output text → AppendsPrefix output out out' → OutputStarted words contents out out'

-- the fault texts that a run may put: that of an answer, a name that the run may blame, or want of memory
pub data FaultText (words : List (List ℕ)) (contents : List ℕ → List ℕ) : List ℕ → Type 0 where
  of_answer : {s : Status} (output : List ℕ) {text : List ℕ} → Answer words contents s output text → FaultText words contents text
  of_source : {file name : List ℕ} (top : List ℕ) → Asks words file top → Reaches file contents name → FaultText words contents (cannot_read_line name)
  of_trace : (file top : List ℕ) {trace : List ℕ} (tree : TreeData) (made : Schedule) → words ≡ sim_words file top trace → IsPlanned file contents top tree made → FaultText words contents (cannot_read_line trace)
  of_list : (file top : List ℕ) {list : List ℕ} (tree : TreeData) (made : Schedule) → words ≡ suite_words file top list → IsPlanned file contents top tree made → FaultText words contents (cannot_read_line list)
  of_listed : (file top list : List ℕ) {name : List ℕ} (names : List (List ℕ)) (tree : TreeData) (made : Schedule) → words ≡ suite_words file top list → IsPlanned file contents top tree made
      → NamesTraces (contents list) names → Contains names name → FaultText words contents (cannot_read_line name)
  of_memory : FaultText words contents no_memory_line

-- a prefix of such a text is put
pub record TextStarted (words : List (List ℕ)) (contents : List ℕ → List ℕ) (err err' : Writing) : Type 0 where
  pub text : List ℕ
  pub fault_text : FaultText words contents text
  pub prefix : AppendsPrefix text err err'

-- what is planned of the file was run over the trace up to the place of the current file
pub record StopsReport (file top trace : List ℕ) (contents : List ℕ → List ℕ) (at : Option Current) (out out' : Writing) : Type 0 where
  pub tree : TreeData
  pub made : Schedule
  pub planned : IsPlanned file contents top tree made
  pub put : IsInterrupted (subject tree) made out (contents trace) at out'

-- the list names traces of which this is one, and what is told of the groups before its own was put
pub record StopsSuite (file top list name : List ℕ) (contents : List ℕ → List ℕ) (out out' : Writing) : Type 0 where
  pub tree : TreeData
  pub made : Schedule
  pub planned : IsPlanned file contents top tree made
  pub names : List (List ℕ)
  pub named : NamesTraces (contents list) names
  pub cut : IsSuiteCut (subject tree) made contents names name out out'

-- A file of this name could not be read: it is the one that the last failed call was about. It is a file that loading
-- reaches, or the list of what is accepted, and then nothing is put to the output; or it is the trace of what is accepted, and
-- then the report is put of the lines that were given whole; or it is a trace that the list names, and then what is told of the
-- groups of traces before its own is put.
pub data IsUnread (words : List (List ℕ)) (name : List ℕ) (files files' : Reading) (out out' : Writing) : Type 0 where
  source : (file top : List ℕ) → Asks words file top → MayFault files.faults files'.faults → files'.blamed ≡ Some name
      → ((contents : List ℕ → List ℕ) → files.contents ≡ Some contents → Reaches file contents name) → out' ≡ out
      → IsUnread words name files files' out out'
  trace : (file top : List ℕ) → words ≡ sim_words file top name → MayFault files.faults files'.faults → files'.blamed ≡ Some name
      → ((contents : List ℕ → List ℕ) → files.contents ≡ Some contents → StopsReport file top name contents files'.current out out')
      → IsUnread words name files files' out out'
  list : (file top : List ℕ) → words ≡ suite_words file top name → MayFault files.faults files'.faults → files'.blamed ≡ Some name
      → out' ≡ out → IsUnread words name files files' out out'
  listed : (file top lists : List ℕ) → words ≡ suite_words file top lists → MayFault files.faults files'.faults → files'.blamed ≡ Some name
      → ((contents : List ℕ → List ℕ) → files.contents ≡ Some contents → StopsSuite file top lists name contents out out')
      → IsUnread words name files files' out out'

-- and its name is told whole
pub record Unreadable (words : List (List ℕ)) (files files' : Reading) (out out' err err' : Writing) : Type 0 where
  pub name : List ℕ
  pub unread : IsUnread words name files files' out out'
  pub told : err' ≡ appended (cannot_read_line name) err
