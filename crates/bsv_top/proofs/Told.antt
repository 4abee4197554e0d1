-- What a stop tells: its status, its text, and what is known of the words and the contents.
use Rattle.std.proofs.Common.{◌≡◌, ◌≤◌, ◌∙◌, ◌⊎◌, inl, inr, ℕ, List, [], refl, sym, subst}
use Rattle.bsv_io.specs.Faults.{MayFault}
use Rattle.bsv_io.specs.Reading.{Reading}
use Rattle.bsv_io.specs.Writing.{Writing, appended, AppendsPrefix}
use Rattle.bsv_io.proofs.Appended.{AppendsPrefix-more, appended-nil}
use Rattle.bsv_flow.specs.declared.refusal.Refusal.{Refusal}
use Rattle.bsv_flow.specs.Refusals.{refusal_line}
use Rattle.bsv_top.specs.declared.form.Form.{Form}
use Rattle.bsv_top.specs.declared.form.Form.TheVariants as form
use Rattle.bsv_top.specs.declared.status.Status.{Status}
use Rattle.bsv_top.specs.declared.status.Status.TheVariants as status
use Rattle.bsv_top.specs.declared.stop.Stop.{Stop}
use Rattle.bsv_top.specs.declared.stop.Stop.TheVariants as stop
use Rattle.bsv_top.specs.Answers.{Answer, Asks, HasNoForm, bad_traces_line, cannot_read_line, list_fault_line, no_memory_line, trace_fault_line}
use Rattle.bsv_top.specs.Forms.{words_of}
use Rattle.bsv_top.specs.Outcomes as o
use Rattle.bsv_top.specs.Outcomes.{Answered, IsDecided, IsDoneBy, IsUnread, TextStarted, Unreadable}
use Rattle.bsv_top.specs.Stops.{IsStopOf, status_of, text_of}
use Rattle.bsv_top.proofs.OneAnswer as one
use Rattle.bsv_top.proofs.Spelled.{asks}

-- words of a form have one
pub has_form : (words : List (List ℕ)) (f : Form) → ((n : ℕ) → f ≡ form.Made n → (1 ≤ n) × (n ≤ 400)) → words ≡ words_of f → HasNoForm words → ⊥
has_form words (form.Plan p) sized is none = none.asks_none p.file.now p.top.now (asks words p.product p.file.now p.top.now is)
has_form words (form.Sim s) sized is none = none.asks_none s.file.now s.top.now (Asks.sim s.trace.now is)
has_form words (form.Suite s) sized is none = none.asks_none s.file.now s.top.now (Asks.suite s.list.now is)
has_form words (form.Made size) sized is none = let sizes = sized size refl in none.makes_none size (record { words_are = is; least = sizes.0; most = sizes.1 })

-- a decided status is not that of a write fault
pub decided_tells : (s : Status) → IsDecided s → s ≡ status.WriteFault → ⊥
decided_tells s h e = subst IsDecided e h

-- a stop is never done
pub never_done : (s : Stop) → status_of s ≡ status.Done → ⊥
never_done (stop.Refused refusal) e = cc
never_done (stop.Unread name) e = cc
never_done stop.Unwritable e = cc
never_done stop.OutOfMemory e = cc
never_done (stop.BadLine number) e = cc
never_done (stop.BadListLine number) e = cc
never_done (stop.BadTraces count) e = cc

-- a bad line, of the trace or of the list, and traces with one are what is told as a fault of a trace
pub data TellsBad (s : Stop) : Type 0 where
  line : (number : ℕ) → s ≡ stop.BadLine number → TellsBad s
  list_line : (number : ℕ) → s ≡ stop.BadListLine number → TellsBad s
  traces : (count : ℕ) → s ≡ stop.BadTraces count → TellsBad s

pub only_bad : (s : Stop) → status_of s ≡ status.TraceFault → TellsBad s
only_bad (stop.Refused refusal) e = absurd cc
only_bad (stop.Unread name) e = absurd cc
only_bad stop.Unwritable e = absurd cc
only_bad stop.OutOfMemory e = absurd cc
only_bad (stop.BadLine number) e = TellsBad.line number refl
only_bad (stop.BadListLine number) e = TellsBad.list_line number refl
only_bad (stop.BadTraces count) e = TellsBad.traces count refl

-- want of memory alone is told as such
pub only_memory : (s : Stop) → status_of s ≡ status.OutOfMemory → s ≡ stop.OutOfMemory
only_memory (stop.Refused refusal) e = absurd cc
only_memory (stop.Unread name) e = absurd cc
only_memory stop.Unwritable e = absurd cc
only_memory stop.OutOfMemory e = refl
only_memory (stop.BadLine number) e = absurd cc
only_memory (stop.BadListLine number) e = absurd cc
only_memory (stop.BadTraces count) e = absurd cc

-- it is that the output took no more, or it is not
pub unwritable_or : (s : Stop) → (s ≡ stop.Unwritable) ⊎ (s ≡ stop.Unwritable → ⊥)
unwritable_or (stop.Refused refusal) = inr (λ e. let n : ⊥ = cc in n)
unwritable_or (stop.Unread name) = inr (λ e. let n : ⊥ = cc in n)
unwritable_or stop.Unwritable = inl refl
unwritable_or stop.OutOfMemory = inr (λ e. let n : ⊥ = cc in n)
unwritable_or (stop.BadLine number) = inr (λ e. let n : ⊥ = cc in n)
unwritable_or (stop.BadListLine number) = inr (λ e. let n : ⊥ = cc in n)
unwritable_or (stop.BadTraces count) = inr (λ e. let n : ⊥ = cc in n)

-- a file that could not be read counts as a fault
pub unread_faults : (words : List (List ℕ)) (name : List ℕ) (files files' : Reading) (out out' : Writing) → IsUnread words name files files' out out' → MayFault files.faults files'.faults
unread_faults words name files files' out out' (IsUnread.source file top asks may blamed reached put) = may
unread_faults words name files files' out out' (IsUnread.trace file top is may blamed planned) = may
unread_faults words name files files' out out' (IsUnread.list file top is may blamed put) = may
unread_faults words name files files' out out' (IsUnread.listed file top list is may blamed stops) = may

module _ (words : List (List ℕ)) (contents : List ℕ → List ℕ) (out out' err err' : Writing) where
  -- the status of what was answered is that of the answer
  pub one_status : (s other : Status) (output text : List ℕ) → Answered words contents s out out' err err' → Answer words contents other output text → s ≡ other
  one_status s other output text h answer = (one.one_answer words contents s other h.output output h.text text h.answer answer).status_is

  -- what is done
  pub done_answered : IsDoneBy words contents out out' → err' ≡ err → Answered words contents status.Done out out' err err'
  done_answered h same = record { output = h.output; text = []; answer = h.answer; put = h.put; told = same ∙ sym (appended-nil err) }

  -- the whole output and the whole fault text, where the status is decided
  pub stop_answered : (s : Stop) → IsStopOf words contents out out' s → ((r : Refusal) → s ≡ stop.Refused r → out' ≡ out) → IsDecided (status_of s) → err' ≡ appended (text_of s) err
      → Answered words contents (status_of s) out out' err err'
  stop_answered (stop.Refused r) known quiet is told =
      record { output = []; text = refusal_line r; answer = known; put = quiet r refl ∙ sym (appended-nil out); told = told }
  stop_answered (stop.Unread name) known quiet is told = absurd is
  stop_answered stop.Unwritable known quiet is told = absurd is
  stop_answered stop.OutOfMemory known quiet is told = absurd is
  stop_answered (stop.BadLine number) known quiet is told =
      record { output = known.0; text = trace_fault_line number; answer = known.1; put = known.2; told = told }
  stop_answered (stop.BadListLine number) known quiet is told =
      record { output = known.0; text = list_fault_line number; answer = known.1; put = known.2; told = told }
  stop_answered (stop.BadTraces count) known quiet is told =
      record { output = known.0; text = bad_traces_line count; answer = known.1; put = known.2; told = told }

  -- a prefix of the text of a stop is one of a fault text
  pub stop_text : (s : Stop) → IsStopOf words contents out out' s → AppendsPrefix (text_of s) err err' → TextStarted words contents err err'
  stop_text (stop.Refused r) known prefix = record { text = refusal_line r; fault_text = o.FaultText.of_answer [] known; prefix = prefix }
  stop_text (stop.Unread name) known prefix = record { text = cannot_read_line name; fault_text = known; prefix = prefix }
  stop_text stop.Unwritable known prefix = record { text = no_memory_line; fault_text = o.FaultText.of_memory; prefix = AppendsPrefix-more [] no_memory_line err err' prefix }
  stop_text stop.OutOfMemory known prefix = record { text = no_memory_line; fault_text = o.FaultText.of_memory; prefix = prefix }
  stop_text (stop.BadLine number) known prefix = record { text = trace_fault_line number; fault_text = o.FaultText.of_answer known.0 known.1; prefix = prefix }
  stop_text (stop.BadListLine number) known prefix = record { text = list_fault_line number; fault_text = o.FaultText.of_answer known.0 known.1; prefix = prefix }
  stop_text (stop.BadTraces count) known prefix = record { text = bad_traces_line count; fault_text = o.FaultText.of_answer known.0 known.1; prefix = prefix }

  -- where nothing failed the status is that of the answer, or memory is wanting
  pub stop_complete : (s : Stop) → ((name : List ℕ) → s ≡ stop.Unread name → ⊥) → (s ≡ stop.Unwritable → ⊥) → (IsDecided (status_of s) → Answered words contents (status_of s) out out' err err')
      → (other : Status) (output text : List ℕ) → Answer words contents other output text → (status_of s ≡ other) ⊎ (status_of s ≡ status.OutOfMemory)
  stop_complete (stop.Refused r) unread write answered other output text answer = inl (one_status status.Refused other output text (answered tt) answer)
  stop_complete (stop.Unread name) unread write answered other output text answer = absurd (unread name refl)
  stop_complete stop.Unwritable unread write answered other output text answer = absurd (write refl)
  stop_complete stop.OutOfMemory unread write answered other output text answer = inr refl
  stop_complete (stop.BadLine number) unread write answered other output text answer = inl (one_status status.TraceFault other output text (answered tt) answer)
  stop_complete (stop.BadListLine number) unread write answered other output text answer = inl (one_status status.TraceFault other output text (answered tt) answer)
  stop_complete (stop.BadTraces count) unread write answered other output text answer = inl (one_status status.TraceFault other output text (answered tt) answer)

module _ (words : List (List ℕ)) (files files' : Reading) (out out' err err' : Writing) where
  -- a file could not be read
  pub stop_unreadable : (s : Stop) → status_of s ≡ status.ReadFault → ((name : List ℕ) → s ≡ stop.Unread name → IsUnread words name files files' out out') → err' ≡ appended (text_of s) err
      → Unreadable words files files' out out' err err'
  stop_unreadable (stop.Refused r) e unread told = absurd (let no_value : ⊥ = cc in no_value)
  stop_unreadable (stop.Unread name) e unread told = record { name = name; unread = unread name refl; told = told }
  stop_unreadable stop.Unwritable e unread told = absurd (let no_value : ⊥ = cc in no_value)
  stop_unreadable stop.OutOfMemory e unread told = absurd (let no_value : ⊥ = cc in no_value)
  stop_unreadable (stop.BadLine number) e unread told = absurd (let no_value : ⊥ = cc in no_value)
  stop_unreadable (stop.BadListLine number) e unread told = absurd (let no_value : ⊥ = cc in no_value)
  stop_unreadable (stop.BadTraces count) e unread told = absurd (let no_value : ⊥ = cc in no_value)
