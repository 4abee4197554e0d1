-- What a run answers: how the words and the contents of the files decide the status, the output and the
-- fault text, where nothing fails and memory is there. Where Verilog is asked for, they leave a choice of modules.
use Rattle.std.specs.Prelude.{◌≡◌, ◌<◌, ℕ, ◌+◌, List, [], ◌∷◌, ◌++◌, length, false, codes, decimal}
use Rattle.bsv_types.specs.declared.typed.Typed.{Typed}
use Rattle.bsv_design.specs.declared.schedule.Schedule.{Schedule}
use Rattle.bsv_design.specs.scheme.Schemes.{Asking}
use Rattle.bsv_tree.specs.meaning.Schemes.{tree_scheme}
use Rattle.bsv_tree.specs.tree.Trees.{TreeData}
use Rattle.bsv_trace.specs.Texts.{line_feed, schedule_text}
use Rattle.bsv_clock.specs.Runs.{Row, Runs}
use Rattle.bsv_clock.specs.Subjects.{Subject, element_name}
use Rattle.bsv_vtext.specs.Signals.{VModuleData}
use Rattle.bsv_vtext.specs.VText.{vtext}
use Rattle.bsv_flow.specs.declared.loading.Loaded.{Loaded}
use Rattle.bsv_flow.specs.declared.refusal.Refusal.{Refusal}
use Rattle.bsv_flow.specs.Buildings.{IsProgram, IsBuilt, Rejects}
use Rattle.bsv_flow.specs.Clocked.{IsWellClocked}
use Rattle.bsv_flow.specs.Compilings.{IsPlanned}
use Rattle.bsv_flow.specs.Refusals.{refusal_line}
use Rattle.bsv_flow.specs.Schedulings.{IsVerilogOf, subject}
use Rattle.bsv_top.specs.declared.status.Status.{Status}
use Rattle.bsv_top.specs.declared.status.Status.TheVariants as status
use Rattle.bsv_top.specs.LaidOut.{IsLaidOut}
use Rattle.bsv_top.specs.Made.{IsMade, made_contents, made_file, made_top, nothing_for, summary}
use Rattle.bsv_run.specs.Reports.{report}
use Rattle.bsv_suite.specs.Lists.{HasBadLineAt, NamesTraces}
use Rattle.bsv_suite.specs.Suites.{AreTold, bad_traces, suite_text}
use Rattle.bsv_suite.specs.Texts.{Told}
use Rattle.bsv_top.specs.Traces.{IsClean, HasBadLine}

-- ---- words

-- the words of a schedule
abbrev pub schedule_words : List ℕ → List ℕ → List (List ℕ)
schedule_words file top = codes "schedule" ∷ file ∷ top ∷ []

-- the words of Verilog
abbrev pub verilog_words : List ℕ → List ℕ → List (List ℕ)
verilog_words file top = codes "verilog" ∷ file ∷ top ∷ []

-- the words of a simulation
abbrev pub sim_words : List ℕ → List ℕ → List ℕ → List (List ℕ)
sim_words file top trace = codes "sim" ∷ file ∷ top ∷ trace ∷ []

-- the words of a suite
abbrev pub suite_words : List ℕ → List ℕ → List ℕ → List (List ℕ)
suite_words file top list = codes "suite" ∷ file ∷ top ∷ list ∷ []

-- the words ask for the schedule of a module of a file, for its Verilog, for its simulation over a trace, or over all traces of a list
pub data Asks (words : List (List ℕ)) (file top : List ℕ) : Type 0 where
  schedule : words ≡ schedule_words file top → Asks words file top
  verilog : words ≡ verilog_words file top → Asks words file top
  sim : (trace : List ℕ) → words ≡ sim_words file top trace → Asks words file top
  suite : (list : List ℕ) → words ≡ suite_words file top list → Asks words file top

-- the words have no form that the program knows
pub record HasNoForm (words : List (List ℕ)) : Type 0 where
  pub asks_none : (file top : List ℕ) → Asks words file top → ⊥
  pub makes_none : (n : ℕ) → IsMade words n → ⊥

-- ---- texts

unfoldable pub usage_line : List ℕ
usage_line = codes "usage: bsvc verilog FILE TOP | schedule FILE TOP | sim FILE TOP TRACE | made N | suite FILE TOP LIST" ++ line_feed

unfoldable pub cannot_read_line : List ℕ → List ℕ
cannot_read_line name = codes "cannot read " ++ name ++ line_feed

unfoldable pub no_memory_line : List ℕ
no_memory_line = codes "out of memory" ++ line_feed

unfoldable pub trace_fault_line : ℕ → List ℕ
trace_fault_line number = codes "trace line " ++ decimal number ++ line_feed

unfoldable pub list_fault_line : ℕ → List ℕ
list_fault_line number = codes "list line " ++ decimal number ++ line_feed

unfoldable pub bad_traces_line : ℕ → List ℕ
bad_traces_line count = codes "bad traces " ++ decimal count ++ line_feed

-- the printed schedule of a tree
unfoldable pub printed : TreeData → Schedule → List ℕ
printed tree made = schedule_text (element_name (tree_scheme tree)) made

-- ---- answers

-- what was loaded is typed as no program: a list of its typing has more places than there are numbers for
abbrev pub IsNoProgram : Loaded → Type 0
IsNoProgram l = (program : Typed) → IsProgram l program → ⊥

-- What is answered to `made N`, whatever the files say: the summary of a run of 100 clocks without requests. That the text
-- is accepted is tried for each N, and not proved: so the definition says as well what is answered where it is refused, or
-- typed as no program.
pub data MadeAnswer (n : ℕ) : Status → List ℕ → List ℕ → Type 0 where
  refused : (r : Refusal) → Rejects made_file (made_contents n) made_top r → MadeAnswer n status.Refused [] (refusal_line r)
  no_program : (l : Loaded) → IsBuilt made_file (made_contents n) made_top l → IsNoProgram l
      → MadeAnswer n status.OutOfMemory [] no_memory_line
  done : (tree : TreeData) (made : Schedule) (rows : List Row) → IsPlanned made_file (made_contents n) made_top tree made
      → IsLaidOut tree → Runs false (tree_scheme tree) made (nothing_for 100 (tree_scheme tree)) rows
      → MadeAnswer n status.Done (summary n (subject tree) rows) []

-- What is answered to `suite` of what is accepted. Where a line of the list is bad, its number alone. Else the sections of the
-- traces that it names, and where some have a bad line, how many.
pub data SuiteAnswer (s : Subject) (made : Schedule) (contents : List ℕ → List ℕ) (list : List ℕ) : Status → List ℕ → List ℕ → Type 0 where
  bad_list : (number : ℕ) → HasBadLineAt list number → SuiteAnswer s made contents list status.TraceFault [] (list_fault_line number)
  done : (names : List (List ℕ)) (tolds : List Told) → NamesTraces list names → AreTold s made contents names tolds → bad_traces tolds ≡ 0
      → SuiteAnswer s made contents list status.Done (suite_text tolds) []
  trace_fault : (names : List (List ℕ)) (tolds : List Told) → NamesTraces list names → AreTold s made contents names tolds → 0 < bad_traces tolds
      → SuiteAnswer s made contents list status.TraceFault (suite_text tolds) (bad_traces_line (bad_traces tolds))

-- the status, the output and the fault text for words and the contents of the files by name
pub data Answer (words : List (List ℕ)) (contents : List ℕ → List ℕ) : Status → List ℕ → List ℕ → Type 0 where
  usage : HasNoForm words → Answer words contents status.Usage [] usage_line
  refused : {file top : List ℕ} (r : Refusal) → Asks words file top → Rejects file contents top r
      → Answer words contents status.Refused [] (refusal_line r)
  no_program : {file top : List ℕ} (l : Loaded) → Asks words file top → IsBuilt file contents top l → IsNoProgram l
      → Answer words contents status.OutOfMemory [] no_memory_line
  made : {n : ℕ} {s : Status} {output text : List ℕ} → IsMade words n → MadeAnswer n s output text
      → Answer words contents s output text
  scheduled : {file top : List ℕ} (tree : TreeData) (made : Schedule) → words ≡ schedule_words file top
      → IsPlanned file contents top tree made
      → Answer words contents status.Done (printed tree made) []
  -- the text of a Verilog module of the tree; each such module is an answer, since its numbered wires are the compiler's choice
  written : {file top : List ℕ} (tree : TreeData) (made : Schedule) (v : VModuleData) → words ≡ verilog_words file top
      → IsPlanned file contents top tree made → IsVerilogOf tree made v
      → Answer words contents status.Done (vtext v) []
  -- each line of the trace asks for a request, and the clocks of a run of these requests are reported
  done : {file top trace : List ℕ} (tree : TreeData) (made : Schedule) (qs : List Asking) (rows : List Row)
      → words ≡ sim_words file top trace → IsPlanned file contents top tree made → IsLaidOut tree
      → IsWellClocked (tree_scheme tree) made → IsClean (tree_scheme tree).elements (contents trace) qs → Runs false (tree_scheme tree) made qs rows
      → Answer words contents status.Done (report (subject tree) rows) []
  -- and so are those of the lines before the first bad one
  trace_fault : {file top trace : List ℕ} (tree : TreeData) (made : Schedule) (qs : List Asking) (rows : List Row)
      → words ≡ sim_words file top trace → IsPlanned file contents top tree made → IsLaidOut tree
      → IsWellClocked (tree_scheme tree) made → HasBadLine (tree_scheme tree).elements (contents trace) qs → Runs false (tree_scheme tree) made qs rows
      → Answer words contents status.TraceFault (report (subject tree) rows) (trace_fault_line (length qs + 1))
  suite : {file top list : List ℕ} {s : Status} {output text : List ℕ} (tree : TreeData) (made : Schedule) → words ≡ suite_words file top list
      → IsPlanned file contents top tree made → IsLaidOut tree → IsWellClocked (tree_scheme tree) made
      → SuiteAnswer (subject tree) made contents (contents list) s output text → Answer words contents s output text

-- there is an answer
pub record HasAnswer (words : List (List ℕ)) (contents : List ℕ → List ℕ) : Type 0 where
  pub decided : Status
  pub output : List ℕ
  pub text : List ℕ
  pub answer : Answer words contents decided output text
