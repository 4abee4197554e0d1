use Rattle.std.proofs.Common.{◌≡◌, ◌∙◌, ℕ, ◌+◌, List, length, Some, Err, refl, sym, ap, subst, arith}
use Rattle.bsv_lemmas.proofs.Choices.{same_err}
use Rattle.bsv_run.specs.declared.halt.Halt.TheVariants as halt
use Rattle.bsv_top.specs.Places.{piece_limit}
use Rattle.bsv_top.specs.Running.{IsStartedOf, IsDoneOf, IsFaultyOf, IsInterruptedOf, its_outlines}
use Rattle.bsv_top.proofs.Halted.{halted_bad, halted_counted, halted_listed, halted_memory, halted_read, halted_refused, halted_unread, halted_unwritable, halted_written, not_unreadable}
use Rattle.bsv_run.specs.Gathered.{lines_ended}
use Rattle.bsv_run.proofs.Opened.{nothing_started}
use Rattle.bsv_top.specs.Traces.{trace_limit}
use Rattle.bsv_top.proofs.Followed.{followed_trace, follows}
use Rattle.bsv_top.proofs.simulation.run_over.Goals as goal

pub returns-in_err-buffer-clause-started : goal.returns-in_err-buffer-clause-started
returns-in_err-buffer-clause-started g c = λ contents told.
    nothing_started trace_limit c.args.scheduled.now.design c.args.scheduled.now.schedule (g.O.Sink.writing c.args.out.now) (g.O.Sink.writing c.args.out.now) (contents c.args.trace.now) refl

pub returns-in_err-name-clause-started : goal.returns-in_err-name-clause-started
returns-in_err-name-clause-started g c = λ contents told.
    nothing_started trace_limit c.args.scheduled.now.design c.args.scheduled.now.schedule (g.O.Sink.writing c.args.out.now) (g.O.Sink.writing c.args.out.now) (contents c.args.trace.now) refl

pub returns-in_err-blamed-clause-started : goal.returns-in_err-blamed-clause-started
returns-in_err-blamed-clause-started g c = λ contents told.
    nothing_started trace_limit c.args.scheduled.now.design c.args.scheduled.now.schedule (g.O.Sink.writing c.args.out.now) (g.O.Sink.writing c.args.out.now) (contents c.args.trace.now) refl

pub returns-in-Ok-clause-done : goal.returns-in-Ok-clause-done
returns-in-Ok-clause-done g c = λ contents told.
    subst (λ (name : List ℕ). IsDoneOf c.args.scheduled.now (g.O.Sink.writing c.args.out.now) (contents name) (g.O.Sink.writing c.put_report.new.out)) (c.in_ok-name.ensures ∙ c.as_bytes.ensures.value)
    (c.in-Ok.ensures.done contents told)

pub returns-in-Ok-clause-started : goal.returns-in-Ok-clause-started
returns-in-Ok-clause-started g c = λ contents told.
    subst (λ (name : List ℕ). IsStartedOf c.args.scheduled.now (g.O.Sink.writing c.args.out.now) (contents name) (g.O.Sink.writing c.put_report.new.out)) (c.in_ok-name.ensures ∙ c.as_bytes.ensures.value)
    (c.in-Ok.ensures.started contents told)

pub returns-in-Ok-clause-done_within : goal.returns-in-Ok-clause-done_within
returns-in-Ok-clause-done_within g c = λ contents told.
    let room : length c.deref_mut.result.now ≡ piece_limit = omega (arith, c.in_ok-buffer.ensures.len) in
    followed_trace (its_outlines c.args.scheduled.now) (length c.deref_mut.result.now) c.in_ok-name.name c.args.trace.now contents (g.F.Files.reading c.args.files.now) (g.F.Files.reading c.put_report.new.files)
    (c.in_ok-name.ensures ∙ c.as_bytes.ensures.value) room (c.in-Ok.ensures.followed (λ e. let no_value : ⊥ = cc in no_value) contents told)

pub returns-clause-bad : goal.returns-clause-bad
returns-clause-bad g c = λ number h contents told.
    let why = halted_bad c.stop_for.result c.in-Err.halt c.in_ok-blamed.blamed (c.lines_done.result + 1) c.stop_for.ensures number h in
    subst (λ (n : ℕ). IsFaultyOf c.args.scheduled.now (g.O.Sink.writing c.args.out.now) (contents c.args.trace.now) (g.O.Sink.writing c.put_report.new.out) n) (ap (λ (n : ℕ). n + 1) (sym c.lines_done.ensures.done) ∙ why.1)
    (subst (λ (name : List ℕ). IsFaultyOf c.args.scheduled.now (g.O.Sink.writing c.args.out.now) (contents name) (g.O.Sink.writing c.put_report.new.out) (lines_ended c.put_report.new.run.lines + 1)) (c.in_ok-name.ensures ∙ c.as_bytes.ensures.value)
    (c.in-Err.ensures.bad (ap Err why.0) contents told))

pub returns-clause-started : goal.returns-clause-started
returns-clause-started g c = λ contents told.
    subst (λ (name : List ℕ). IsStartedOf c.args.scheduled.now (g.O.Sink.writing c.args.out.now) (contents name) (g.O.Sink.writing c.put_report.new.out)) (c.in_ok-name.ensures ∙ c.as_bytes.ensures.value)
    (c.in-Err.ensures.started contents told)

pub returns-clause-own : goal.returns-clause-own
returns-clause-own g c = λ r h. halted_refused c.stop_for.result c.in-Err.halt c.in_ok-blamed.blamed (c.lines_done.result + 1) c.stop_for.ensures r h

pub returns-clause-no_list_line : goal.returns-clause-no_list_line
returns-clause-no_list_line g c = λ number h. halted_listed c.stop_for.result c.in-Err.halt c.in_ok-blamed.blamed (c.lines_done.result + 1) c.stop_for.ensures number h

pub returns-clause-no_traces : goal.returns-clause-no_traces
returns-clause-no_traces g c = λ count h. halted_counted c.stop_for.result c.in-Err.halt c.in_ok-blamed.blamed (c.lines_done.result + 1) c.stop_for.ensures count h

pub returns-clause-unread : goal.returns-clause-unread
returns-clause-unread g c = λ name h.
    let why = halted_unread c.stop_for.result c.in-Err.halt c.in_ok-blamed.blamed (c.lines_done.result + 1) c.stop_for.ensures name h in
    let this = c.in-Err.ensures.unreadable (ap Err why.0) in
    let one = c.in_ok-name.ensures ∙ c.as_bytes.ensures.value in
    let two = c.in_ok-blamed.ensures ∙ c.as_bytes-2.ensures.value in
    (sym why.1 ∙ two, this.0, this.1 ∙ ap Some (one ∙ sym two ∙ why.1))

pub returns-clause-unwritable : goal.returns-clause-unwritable
returns-clause-unwritable g c = λ h.
    c.in-Err.ensures.unwritable (ap Err (halted_unwritable c.stop_for.result c.in-Err.halt c.in_ok-blamed.blamed (c.lines_done.result + 1) c.stop_for.ensures h))

pub returns-clause-within : goal.returns-clause-within
returns-clause-within g c = λ contents told.
    let room : length c.deref_mut.result.now ≡ piece_limit = omega (arith, c.in_ok-buffer.ensures.len) in
    follows (its_outlines c.args.scheduled.now) (length c.deref_mut.result.now) c.in_ok-name.name c.args.trace.now contents (g.F.Files.reading c.args.files.now) (g.F.Files.reading c.put_report.new.files)
    (c.in_ok-name.ensures ∙ c.as_bytes.ensures.value) room (c.in-Err.ensures.within contents told)

pub returns-clause-bad_within : goal.returns-clause-bad_within
returns-clause-bad_within g c = λ number h contents told.
    let why = halted_bad c.stop_for.result c.in-Err.halt c.in_ok-blamed.blamed (c.lines_done.result + 1) c.stop_for.ensures number h in
    let room : length c.deref_mut.result.now ≡ piece_limit = omega (arith, c.in_ok-buffer.ensures.len) in
    followed_trace (its_outlines c.args.scheduled.now) (length c.deref_mut.result.now) c.in_ok-name.name c.args.trace.now contents (g.F.Files.reading c.args.files.now) (g.F.Files.reading c.put_report.new.files)
    (c.in_ok-name.ensures ∙ c.as_bytes.ensures.value) room (c.in-Err.ensures.followed (λ e. not_unreadable c.in-Err.halt why.0 e) contents told)

pub returns-clause-files_kept : goal.returns-clause-files_kept
returns-clause-files_kept g c = λ none.
    c.in-Err.ensures.files_kept (λ e. halted_read c.stop_for.result c.in-Err.halt c.in_ok-blamed.blamed (c.lines_done.result + 1) c.stop_for.ensures none (same_err c.in-Err.halt halt.Unreadable e))

pub returns-clause-out_kept : goal.returns-clause-out_kept
returns-clause-out_kept g c = λ none.
    c.in-Err.ensures.out_kept (λ e. halted_written c.stop_for.result c.in-Err.halt c.in_ok-blamed.blamed (c.lines_done.result + 1) c.stop_for.ensures none (same_err c.in-Err.halt halt.Unwritable e))

pub returns-clause-no_memory : goal.returns-clause-no_memory
returns-clause-no_memory g c = λ h.
    absurd (halted_memory c.stop_for.result c.in-Err.halt c.in_ok-blamed.blamed (c.lines_done.result + 1) c.stop_for.ensures h)

pub returns-clause-interrupted : goal.returns-clause-interrupted
returns-clause-interrupted g c = λ name h contents told.
    let why = halted_unread c.stop_for.result c.in-Err.halt c.in_ok-blamed.blamed (c.lines_done.result + 1) c.stop_for.ensures name h in
    subst (λ (n : List ℕ). IsInterruptedOf c.args.scheduled.now (g.O.Sink.writing c.args.out.now) (contents n) (g.F.Files.reading c.put_report.new.files).current (g.O.Sink.writing c.put_report.new.out))
    (c.in_ok-name.ensures ∙ c.as_bytes.ensures.value) (c.in-Err.ensures.interrupted (ap Err why.0) contents told)
