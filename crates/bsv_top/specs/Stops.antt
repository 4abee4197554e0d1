-- Why words that have a form are not done, and what is told of it.
use Rattle.std.specs.Prelude.{◌≡◌, ℕ, List, []}
use Rattle.bsv_io.specs.Writing.{Writing, appended}
use Rattle.bsv_flow.specs.declared.refusal.CompileFault.{CompileFault}
use Rattle.bsv_flow.specs.declared.refusal.CompileFault.TheVariants as fault
use Rattle.bsv_flow.specs.Refusals.{refusal_line}
use Rattle.bsv_run.specs.declared.halt.Halt.{Halt}
use Rattle.bsv_run.specs.declared.halt.Halt.TheVariants as halt
use Rattle.bsv_suite.specs.declared.halt.ListHalt.{ListHalt}
use Rattle.bsv_suite.specs.declared.halt.ListHalt.TheVariants as list_halt
use Rattle.bsv_suite.specs.declared.halt.SuiteHalt.{SuiteHalt}
use Rattle.bsv_suite.specs.declared.halt.SuiteHalt.TheVariants as suite_halt
use Rattle.bsv_top.specs.declared.stop.Stop.{Stop}
use Rattle.bsv_top.specs.declared.stop.Stop.TheVariants as stop
use Rattle.bsv_top.specs.declared.status.Status.{Status}
use Rattle.bsv_top.specs.declared.status.Status.TheVariants as status
use Rattle.bsv_top.specs.Answers.{Answer, bad_traces_line, cannot_read_line, list_fault_line, no_memory_line, trace_fault_line}
use Rattle.bsv_top.specs.Outcomes.{FaultText}

-- why nothing was compiled
abbrev pub stop_of : CompileFault → Stop
stop_of (fault.Refused refusal) = stop.Refused refusal
stop_of (fault.ReadFault name) = stop.Unread name
stop_of fault.OutOfMemory = stop.OutOfMemory

-- why a trace of this name is not run to its end; its next line has this number
abbrev pub stop_for : Halt → List ℕ → ℕ → Stop
stop_for halt.BadLine trace number = stop.BadLine number
stop_for halt.Unreadable trace number = stop.Unread trace
stop_for halt.Unwritable trace number = stop.Unwritable

-- why the list of this name is not read to its end
abbrev pub stop_of_list : ListHalt → List ℕ → Stop
stop_of_list (list_halt.BadLine number) list = stop.BadListLine number
stop_of_list list_halt.Unreadable list = stop.Unread list
stop_of_list list_halt.OutOfMemory list = stop.OutOfMemory

-- why a suite is not told to its end
abbrev pub stop_of_suite : SuiteHalt → Stop
stop_of_suite (suite_halt.Unread name) = stop.Unread name
stop_of_suite suite_halt.Unwritable = stop.Unwritable
stop_of_suite suite_halt.OutOfMemory = stop.OutOfMemory

-- the status of a stop
abbrev pub status_of : Stop → Status
status_of (stop.Refused refusal) = status.Refused
status_of (stop.Unread name) = status.ReadFault
status_of stop.Unwritable = status.WriteFault
status_of stop.OutOfMemory = status.OutOfMemory
status_of (stop.BadLine number) = status.TraceFault
status_of (stop.BadListLine number) = status.TraceFault
status_of (stop.BadTraces count) = status.TraceFault

-- the fault text of a stop
abbrev pub text_of : Stop → List ℕ
text_of (stop.Refused refusal) = refusal_line refusal
text_of (stop.Unread name) = cannot_read_line name
text_of stop.Unwritable = []
text_of stop.OutOfMemory = no_memory_line
text_of (stop.BadLine number) = trace_fault_line number
text_of (stop.BadListLine number) = list_fault_line number
text_of (stop.BadTraces count) = bad_traces_line count

-- the whole output of an answer with this fault text is put
abbrev pub IsFaultOf : List (List ℕ) → (List ℕ → List ℕ) → Writing → Writing → List ℕ → Type 0
IsFaultOf words contents out out' text = (output : List ℕ) × Answer words contents status.TraceFault output text × (out' ≡ appended output out)

-- what a stop tells of the words and the contents, where the sink of the output went from the one state to the other
abbrev pub IsStopOf : List (List ℕ) → (List ℕ → List ℕ) → Writing → Writing → Stop → Type 0
IsStopOf words contents out out' (stop.Refused refusal) = Answer words contents status.Refused [] (refusal_line refusal)
IsStopOf words contents out out' (stop.Unread name) = FaultText words contents (cannot_read_line name)
IsStopOf words contents out out' stop.Unwritable = Unit {0}
IsStopOf words contents out out' stop.OutOfMemory = Unit {0}
IsStopOf words contents out out' (stop.BadLine number) = IsFaultOf words contents out out' (trace_fault_line number)
IsStopOf words contents out out' (stop.BadListLine number) = IsFaultOf words contents out out' (list_fault_line number)
IsStopOf words contents out out' (stop.BadTraces count) = IsFaultOf words contents out out' (bad_traces_line count)
