use Rattle.std.proofs.Common.{◌≡◌, ◌∙◌, ◌⊎◌, inl, inr, ⊎_elim, ℕ, List, [], Some, Err, map, string_bytes, refl, sym, ap, subst, arith}
use Rattle.bsv_lemmas.proofs.Choices.{same_err}
use Rattle.bsv_io.proofs.Appended.{appended-nil, nothing_put}
use Rattle.bsv_io.proofs.NoFaults.{NoFault-MayFault}
use Rattle.bsv_top.specs.declared.status.Status.{Status as TheStatus}
use Rattle.bsv_top.specs.declared.status.Status.TheVariants as status
use Rattle.bsv_top.specs.declared.stop.Stop.TheVariants as stop
use Rattle.bsv_top.specs.Answers as a
use Rattle.bsv_top.specs.Answers.{no_memory_line, usage_line}
use Rattle.bsv_top.specs.Outcomes as o
use Rattle.bsv_top.specs.Outcomes.{Accepts, Answered, IsDecided, IsDoneBy, IsUnread, OutputStarted}
use Rattle.bsv_top.specs.Stops.{IsStopOf}
use Rattle.bsv_top.proofs.Headlined.{accepted_headline, accepted_stop, accepts_no_fault, accepts_no_usage}
use Rattle.bsv_top.proofs.OneAnswer as one
use Rattle.bsv_top.proofs.Told.{TellsBad, decided_tells, done_answered, has_form, one_status, only_bad, only_memory, stop_answered, stop_complete, stop_text, stop_unreadable, unread_faults, unwritable_or}
use Rattle.bsv_top.proofs.program.run.Goals as goal

-- ---- words without a form

pub returns-in_default-clause-answer : goal.returns-in_default-clause-answer
returns-in_default-clause-answer g c = λ contents told is.
    let said = c.tell_usage.ensures.told (decided_tells c.tell_usage.result is) in
    subst
    (λ (s : TheStatus).
    Answered (map string_bytes c.args.words.now) contents s (g.O.Sink.writing c.args.out.now) (g.O.Sink.writing c.args.out.now) (g.E.Sink.writing c.args.err.now) (g.E.Sink.writing c.tell_usage.new.err))
    (sym said.0)
    (record { output = []; text = usage_line; answer = a.Answer.usage c.in_default.ensures.none; put = sym (appended-nil (g.O.Sink.writing c.args.out.now)); told = said.1 })

pub returns-in_default-clause-text : goal.returns-in_default-clause-text
returns-in_default-clause-text g c = λ contents told.
    record { text = usage_line; fault_text = o.FaultText.of_answer [] (a.Answer.usage c.in_default.ensures.none); prefix = c.tell_usage.ensures.prefix }

pub returns-in_default-clause-complete : goal.returns-in_default-clause-complete
returns-in_default-clause-complete g c = λ contents told no_read no_write no_tell other output text answer.
    let said = c.tell_usage.ensures.told (λ write. NoFault-MayFault _ _ no_tell (c.tell_usage.ensures.failed write)) in
    inl
    (said.0 ∙ (one.one_answer (map string_bytes c.args.words.now) contents status.Usage other [] output usage_line text (a.Answer.usage c.in_default.ensures.none) answer).status_is)

pub returns-in_default-clause-headline : goal.returns-in_default-clause-headline
returns-in_default-clause-headline g c = λ contents told is.
    absurd (accepts_no_usage c.tell_usage.result is (c.tell_usage.ensures.told (accepts_no_fault c.tell_usage.result is)).0)

-- ---- what is done

pub returns-in-Ok-clause-headline : goal.returns-in-Ok-clause-headline
returns-in-Ok-clause-headline g c = λ contents told is.
    let done = subst (λ (words : List (List ℕ)). IsDoneBy words contents (g.O.Sink.writing c.args.out.now) (g.O.Sink.writing c.answer.new.out)) (sym c.in-Some.ensures.form) (c.in-Ok.ensures.done contents told) in
    λ file top tree made asks. accepted_headline (map string_bytes c.args.words.now) contents (done.accepted file top asks) file top tree made asks

pub returns-in-Ok-clause-no_form : goal.returns-in-Ok-clause-no_form
returns-in-Ok-clause-no_form g c = λ none. absurd (has_form (map string_bytes c.args.words.now) c.in-Some.form (λ n is. c.in-Some.ensures.size n (ap Some is)) c.in-Some.ensures.form none)

pub returns-in-Ok-clause-answer : goal.returns-in-Ok-clause-answer
returns-in-Ok-clause-answer g c = λ contents told is.
    done_answered (map string_bytes c.args.words.now) contents (g.O.Sink.writing c.args.out.now) (g.O.Sink.writing c.answer.new.out) (g.E.Sink.writing c.args.err.now) (g.E.Sink.writing c.args.err.now)
    (subst (λ (words : List (List ℕ)). IsDoneBy words contents (g.O.Sink.writing c.args.out.now) (g.O.Sink.writing c.answer.new.out)) (sym c.in-Some.ensures.form) (c.in-Ok.ensures.done contents told)) refl

pub returns-in-Ok-clause-output : goal.returns-in-Ok-clause-output
returns-in-Ok-clause-output g c = λ contents told.
    subst (λ (words : List (List ℕ)). OutputStarted words contents (g.O.Sink.writing c.args.out.now) (g.O.Sink.writing c.answer.new.out)) (sym c.in-Some.ensures.form)
    (c.answer.ensures.started contents told)

pub returns-in-Ok-clause-text : goal.returns-in-Ok-clause-text
returns-in-Ok-clause-text g c = λ contents told.
    record { text = no_memory_line; fault_text = o.FaultText.of_memory; prefix = nothing_put no_memory_line (g.E.Sink.writing c.args.err.now) }

pub returns-in-Ok-clause-sources_within : goal.returns-in-Ok-clause-sources_within
returns-in-Ok-clause-sources_within g c = λ none far.
    c.answer.ensures.sources_within (λ file top trace words. none file top trace (c.in-Some.ensures.form ∙ words)) far

pub returns-in-Ok-clause-within : goal.returns-in-Ok-clause-within
returns-in-Ok-clause-within g c = λ contents told file top trace words.
    c.answer.ensures.within contents told file top trace (sym c.in-Some.ensures.form ∙ words)

pub returns-in-Ok-clause-done_within : goal.returns-in-Ok-clause-done_within
returns-in-Ok-clause-done_within g c = λ is contents told file top trace words.
    c.in-Ok.ensures.done_within contents told file top trace (sym c.in-Some.ensures.form ∙ words)

pub returns-in-Ok-clause-complete : goal.returns-in-Ok-clause-complete
returns-in-Ok-clause-complete g c = λ contents told no_read no_write no_tell other output text answer.
    let done = subst (λ (words : List (List ℕ)). IsDoneBy words contents (g.O.Sink.writing c.args.out.now) (g.O.Sink.writing c.answer.new.out)) (sym c.in-Some.ensures.form) (c.in-Ok.ensures.done contents told) in
    inl
    (one_status (map string_bytes c.args.words.now) contents (g.O.Sink.writing c.args.out.now) (g.O.Sink.writing c.answer.new.out) (g.E.Sink.writing c.args.err.now) (g.E.Sink.writing c.args.err.now) status.Done other output text
    (done_answered (map string_bytes c.args.words.now) contents (g.O.Sink.writing c.args.out.now) (g.O.Sink.writing c.answer.new.out) (g.E.Sink.writing c.args.err.now) (g.E.Sink.writing c.args.err.now) done refl) answer)

-- ---- what is not

pub returns-in-Err-clause-headline : goal.returns-in-Err-clause-headline
returns-in-Err-clause-headline g c = λ contents told is.
    let said = c.tell_stop.ensures.told (accepts_no_fault c.tell_stop.result is) in
    accepted_headline (map string_bytes c.args.words.now) contents
    (accepted_stop (map string_bytes c.args.words.now) contents (g.O.Sink.writing c.args.out.now) (g.O.Sink.writing c.answer.new.out) c.in-Err.stop
    (subst (λ (words : List (List ℕ)). IsStopOf words contents (g.O.Sink.writing c.args.out.now) (g.O.Sink.writing c.answer.new.out) c.in-Err.stop) (sym c.in-Some.ensures.form) (c.in-Err.ensures.stopped c.in-Err.stop refl contents told))
    (subst Accepts said.0 is))

pub returns-in-Err-clause-no_form : goal.returns-in-Err-clause-no_form
returns-in-Err-clause-no_form g c = λ none. absurd (has_form (map string_bytes c.args.words.now) c.in-Some.form (λ n is. c.in-Some.ensures.size n (ap Some is)) c.in-Some.ensures.form none)

pub returns-in-Err-clause-answer : goal.returns-in-Err-clause-answer
returns-in-Err-clause-answer g c = λ contents told is.
    let said = c.tell_stop.ensures.told (decided_tells c.tell_stop.result is) in
    subst (λ (s : TheStatus). Answered (map string_bytes c.args.words.now) contents s (g.O.Sink.writing c.args.out.now) (g.O.Sink.writing c.answer.new.out) (g.E.Sink.writing c.args.err.now) (g.E.Sink.writing c.tell_stop.new.err)) (sym said.0)
    (stop_answered (map string_bytes c.args.words.now) contents (g.O.Sink.writing c.args.out.now) (g.O.Sink.writing c.answer.new.out) (g.E.Sink.writing c.args.err.now) (g.E.Sink.writing c.tell_stop.new.err) c.in-Err.stop
    (subst (λ (words : List (List ℕ)). IsStopOf words contents (g.O.Sink.writing c.args.out.now) (g.O.Sink.writing c.answer.new.out) c.in-Err.stop) (sym c.in-Some.ensures.form) (c.in-Err.ensures.stopped c.in-Err.stop refl contents told))
    (λ r e. c.in-Err.ensures.refused r (ap Err e)) (subst IsDecided said.0 is) said.1)

pub returns-in-Err-clause-output : goal.returns-in-Err-clause-output
returns-in-Err-clause-output g c = λ contents told.
    subst (λ (words : List (List ℕ)). OutputStarted words contents (g.O.Sink.writing c.args.out.now) (g.O.Sink.writing c.answer.new.out)) (sym c.in-Some.ensures.form)
    (c.answer.ensures.started contents told)

pub returns-in-Err-clause-text : goal.returns-in-Err-clause-text
returns-in-Err-clause-text g c = λ contents told.
    stop_text (map string_bytes c.args.words.now) contents (g.O.Sink.writing c.args.out.now) (g.O.Sink.writing c.answer.new.out) (g.E.Sink.writing c.args.err.now) (g.E.Sink.writing c.tell_stop.new.err) c.in-Err.stop
    (subst (λ (words : List (List ℕ)). IsStopOf words contents (g.O.Sink.writing c.args.out.now) (g.O.Sink.writing c.answer.new.out) c.in-Err.stop) (sym c.in-Some.ensures.form) (c.in-Err.ensures.stopped c.in-Err.stop refl contents told))
    c.tell_stop.ensures.prefix

pub returns-in-Err-clause-no_output : goal.returns-in-Err-clause-no_output
returns-in-Err-clause-no_output g c = λ none is.
    let said = c.tell_stop.ensures.told (λ write. let no_value : ⊥ = cc in no_value) in
    c.in-Err.ensures.no_output (λ file top list words. none file top list (c.in-Some.ensures.form ∙ words)) (ap Err (only_memory c.in-Err.stop (sym said.0 ∙ is)))

pub returns-in-Err-clause-sources_within : goal.returns-in-Err-clause-sources_within
returns-in-Err-clause-sources_within g c = λ none far.
    c.answer.ensures.sources_within (λ file top trace words. none file top trace (c.in-Some.ensures.form ∙ words)) far

pub returns-in-Err-clause-within : goal.returns-in-Err-clause-within
returns-in-Err-clause-within g c = λ contents told file top trace words.
    c.answer.ensures.within contents told file top trace (sym c.in-Some.ensures.form ∙ words)

pub returns-in-Err-clause-bad_within : goal.returns-in-Err-clause-bad_within
returns-in-Err-clause-bad_within g c = λ is contents told file top trace words.
    let said = c.tell_stop.ensures.told (λ write. let no_value : ⊥ = cc in no_value) in
    let spelled = sym c.in-Some.ensures.form ∙ words in
    elim (only_bad c.in-Err.stop (sym said.0 ∙ is)) [
      | TellsBad.line number e ↦ c.in-Err.ensures.bad_within number (ap Err e) contents told file top trace spelled
      | TellsBad.list_line number e ↦ absurd (c.in-Err.ensures.no_list_line number (ap Err e) file top trace spelled)
      | TellsBad.traces count e ↦ absurd (c.in-Err.ensures.no_traces count (ap Err e) file top trace spelled)
    ]

pub returns-in-Err-clause-read_fault : goal.returns-in-Err-clause-read_fault
returns-in-Err-clause-read_fault g c = λ is.
    let said = c.tell_stop.ensures.told (λ write. let no_value : ⊥ = cc in no_value) in
    stop_unreadable (map string_bytes c.args.words.now) (g.F.Files.reading c.args.files.now) (g.F.Files.reading c.answer.new.files) (g.O.Sink.writing c.args.out.now) (g.O.Sink.writing c.answer.new.out) (g.E.Sink.writing c.args.err.now) (g.E.Sink.writing c.tell_stop.new.err) c.in-Err.stop (sym said.0 ∙ is)
    (λ name e.
    subst (λ (words : List (List ℕ)). IsUnread words name (g.F.Files.reading c.args.files.now) (g.F.Files.reading c.answer.new.files) (g.O.Sink.writing c.args.out.now) (g.O.Sink.writing c.answer.new.out)) (sym c.in-Some.ensures.form)
    (c.in-Err.ensures.unread name (ap Err e))) said.1

pub returns-in-Err-clause-write_fault : goal.returns-in-Err-clause-write_fault
returns-in-Err-clause-write_fault g c = λ is.
    elim (c.tell_stop.ensures.failed is) [
      | inl e ↦ inl (c.in-Err.ensures.unwritable (ap Err e), c.tell_stop.ensures.quiet e)
      | inr may ↦ inr may
    ]

pub returns-in-Err-clause-quiet : goal.returns-in-Err-clause-quiet
returns-in-Err-clause-quiet g c = λ rose.
    elim (unwritable_or c.in-Err.stop) [
      | inl e ↦ c.tell_stop.ensures.quiet e
      | inr n ↦ (let same = c.in-Err.ensures.out_kept (λ h. n (same_err c.in-Err.stop stop.Unwritable h)) in absurd (omega (arith, rose, same)))
    ]

pub returns-in-Err-clause-complete : goal.returns-in-Err-clause-complete
returns-in-Err-clause-complete g c = λ contents told no_read no_write no_tell other output text answer.
    let unwritable : c.in-Err.stop ≡ stop.Unwritable → ⊥ = λ e. NoFault-MayFault _ _ no_write (c.in-Err.ensures.unwritable (ap Err e)) in
    let said = c.tell_stop.ensures.told (λ write. ⊎_elim unwritable (NoFault-MayFault _ _ no_tell) (c.tell_stop.ensures.failed write)) in
    subst (λ (s : TheStatus). (s ≡ other) ⊎ (s ≡ status.OutOfMemory)) (sym said.0)
    (stop_complete (map string_bytes c.args.words.now) contents (g.O.Sink.writing c.args.out.now) (g.O.Sink.writing c.answer.new.out) (g.E.Sink.writing c.args.err.now) (g.E.Sink.writing c.tell_stop.new.err) c.in-Err.stop
    (λ name e.
    NoFault-MayFault _ _ no_read
    (unread_faults _ name (g.F.Files.reading c.args.files.now) (g.F.Files.reading c.answer.new.files) (g.O.Sink.writing c.args.out.now) (g.O.Sink.writing c.answer.new.out) (c.in-Err.ensures.unread name (ap Err e))))
    unwritable
    (λ is.
    stop_answered (map string_bytes c.args.words.now) contents (g.O.Sink.writing c.args.out.now) (g.O.Sink.writing c.answer.new.out) (g.E.Sink.writing c.args.err.now) (g.E.Sink.writing c.tell_stop.new.err) c.in-Err.stop
    (subst (λ (words : List (List ℕ)). IsStopOf words contents (g.O.Sink.writing c.args.out.now) (g.O.Sink.writing c.answer.new.out) c.in-Err.stop) (sym c.in-Some.ensures.form) (c.in-Err.ensures.stopped c.in-Err.stop refl contents told))
    (λ r e. c.in-Err.ensures.refused r (ap Err e)) is said.1)
    other output text answer)
