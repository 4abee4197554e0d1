use Rattle.std.proofs.Common.{◌∙◌, ℕ, List, Err, refl, sym, ap, subst}
use Rattle.std.proofs.lemmas.Result.{err_from_is_err_and, on_ok_weaker}
use Rattle.bsv_lemmas.proofs.Choices.{same_err}
use Rattle.bsv_io.specs.Faults.{MayFault}
use Rattle.bsv_flow.specs.declared.scheduling.Compiled.{Compiled}
use Rattle.bsv_top.specs.declared.stop.Stop.TheVariants as stop
use Rattle.bsv_top.specs.Answers.{Asks, sim_words}
use Rattle.bsv_top.specs.Outcomes as o
use Rattle.bsv_top.specs.Outcomes.{StopsReport}
use Rattle.bsv_top.specs.Places.{piece_limit}
use Rattle.bsv_top.specs.Running.{Follows, IsDoneOf, IsFaultyOf, IsFollowed, IsInterruptedOf, IsStartedOf, its_outlines}
use Rattle.bsv_top.specs.declared.scheduled.ScheduledDesign.{ScheduledDesign}
use Rattle.bsv_top.proofs.Simulated.{run_within, simulated_interrupted, simulated_started, simulated_done, simulated_stop, trace_within}
use Rattle.bsv_top.proofs.Stopped.{fault_stops, fault_unread}
use Rattle.bsv_top.proofs.simulation.simulate.Goals as goal

pub returns-in_err-compiled-clause-stopped : goal.returns-in_err-compiled-clause-stopped
returns-in_err-compiled-clause-stopped g c = λ s h contents told.
    let p = err_from_is_err_and c.from_residual.result c.from_residual.ensures.1 in
    let file = c.args.form.file.now in
    let top = c.args.form.top.now in
    let trace = c.args.form.trace.now in
    fault_stops {A = Compiled} (sim_words file top trace) file top (Asks.sim trace refl) c.in_err-compiled.field-0.0 s (same_err s p.0 (sym h ∙ p.1) ∙ p.2) contents (g.O.Sink.writing c.args.out.now)
    (λ r e. c.in_err-compiled.ensures.refused r e contents told) (λ name e. c.in_err-compiled.ensures.reached name e contents told)

pub returns-in_err-compiled-clause-unread : goal.returns-in_err-compiled-clause-unread
returns-in_err-compiled-clause-unread g c = λ name h.
    let p = err_from_is_err_and c.from_residual.result c.from_residual.ensures.1 in
    let file = c.args.form.file.now in
    let top = c.args.form.top.now in
    let trace = c.args.form.trace.now in
    fault_unread {A = Compiled} (sim_words file top trace) file top (Asks.sim trace refl) c.in_err-compiled.field-0.0 (stop.Unread name) (same_err (stop.Unread name) p.0 (sym h ∙ p.1) ∙ p.2)
    (g.F.Files.reading c.args.files.now) (g.F.Files.reading c.compile.new.files) (g.O.Sink.writing c.args.out.now) name refl
    c.in_err-compiled.ensures.read_fault c.in_err-compiled.ensures.reached

pub returns-clause-done : goal.returns-clause-done
returns-clause-done g c =
    on_ok_weaker c.run_over.result
    (λ run contents told.
    simulated_done c.args.form.file.now contents c.args.form.top.now c.args.form.trace.now c.in_ok-compiled.compiled (c.in_ok-compiled.ensures.compiled contents told)
    (g.O.Sink.writing c.args.out.now) (g.O.Sink.writing c.run_over.new.out) (subst (λ (d : ScheduledDesign). IsDoneOf d (g.O.Sink.writing c.args.out.now) (contents c.args.form.trace.now) (g.O.Sink.writing c.run_over.new.out)) c.in_ok-started.ensures.scheduled
    (run contents (c.in_ok-compiled.ensures.contents ∙ told)))) c.run_over.ensures.done

pub returns-clause-stopped : goal.returns-clause-stopped
returns-clause-stopped g c = λ s h contents told.
    simulated_stop c.args.form.file.now contents c.args.form.top.now c.args.form.trace.now c.in_ok-compiled.compiled (c.in_ok-compiled.ensures.compiled contents told)
    (g.O.Sink.writing c.args.out.now) (g.O.Sink.writing c.run_over.new.out) s
    (λ number e.
    subst (λ (d : ScheduledDesign). IsFaultyOf d (g.O.Sink.writing c.args.out.now) (contents c.args.form.trace.now) (g.O.Sink.writing c.run_over.new.out) number) c.in_ok-started.ensures.scheduled
    (c.run_over.ensures.bad number (h ∙ ap Err e) contents (c.in_ok-compiled.ensures.contents ∙ told)))
    (λ r e. c.run_over.ensures.own r (h ∙ ap Err e)) (λ number e. c.run_over.ensures.no_list_line number (h ∙ ap Err e)) (λ count e. c.run_over.ensures.no_traces count (h ∙ ap Err e)) (λ name e. (c.run_over.ensures.unread name (h ∙ ap Err e)).0)

pub returns-clause-started : goal.returns-clause-started
returns-clause-started g c = λ contents told.
    simulated_started c.args.form.file.now contents c.args.form.top.now c.args.form.trace.now c.in_ok-compiled.compiled (c.in_ok-compiled.ensures.compiled contents told)
    (g.O.Sink.writing c.args.out.now) (g.O.Sink.writing c.run_over.new.out) (subst (λ (d : ScheduledDesign). IsStartedOf d (g.O.Sink.writing c.args.out.now) (contents c.args.form.trace.now) (g.O.Sink.writing c.run_over.new.out)) c.in_ok-started.ensures.scheduled
    (c.run_over.ensures.started contents (c.in_ok-compiled.ensures.contents ∙ told)))

pub returns-clause-unread : goal.returns-clause-unread
returns-clause-unread g c = λ name h.
    let file = c.args.form.file.now in
    let top = c.args.form.top.now in
    let this = c.run_over.ensures.unread name h in
    o.IsUnread.trace file top (ap (λ (t : List ℕ). sim_words file top t) (sym this.0))
    (subst (λ (n : ℕ). MayFault n (g.F.Files.reading c.run_over.new.files).faults) (c.in_ok-compiled.ensures.kept (λ blamed e. let no_value : ⊥ = cc in no_value)) this.1)
    this.2
    (λ contents told.
    let at = (g.F.Files.reading c.run_over.new.files).current in
    subst (λ (n : List ℕ). StopsReport file top n contents at (g.O.Sink.writing c.args.out.now) (g.O.Sink.writing c.run_over.new.out)) (sym this.0)
    (simulated_interrupted file contents top c.args.form.trace.now c.in_ok-compiled.compiled (c.in_ok-compiled.ensures.compiled contents told)
    (g.O.Sink.writing c.args.out.now) (g.O.Sink.writing c.run_over.new.out) at
    (subst (λ (d : ScheduledDesign). IsInterruptedOf d (g.O.Sink.writing c.args.out.now) (contents c.args.form.trace.now) at (g.O.Sink.writing c.run_over.new.out)) c.in_ok-started.ensures.scheduled
    (c.run_over.ensures.interrupted name h contents (c.in_ok-compiled.ensures.contents ∙ told)))))

pub returns-clause-within : goal.returns-clause-within
returns-clause-within g c = λ contents told.
    run_within c.args.form.file.now contents c.args.form.top.now c.args.form.trace.now c.in_ok-compiled.compiled (c.in_ok-compiled.ensures.compiled contents told)
    (g.F.Files.reading c.args.files.now) (g.F.Files.reading c.compile.new.files) (g.F.Files.reading c.run_over.new.files) c.in_ok-compiled.ensures.within
    (subst (λ (d : ScheduledDesign). Follows (its_outlines d) c.args.form.trace.now contents (g.F.Files.reading c.compile.new.files) (g.F.Files.reading c.run_over.new.files)) c.in_ok-started.ensures.scheduled
    (c.run_over.ensures.within contents (c.in_ok-compiled.ensures.contents ∙ told)))

pub returns-clause-done_within : goal.returns-clause-done_within
returns-clause-done_within g c =
    on_ok_weaker c.run_over.result
    (λ run contents told.
    trace_within c.args.form.file.now contents c.args.form.top.now c.args.form.trace.now c.in_ok-compiled.compiled (c.in_ok-compiled.ensures.compiled contents told)
    (g.F.Files.reading c.run_over.new.files)
    (subst (λ (d : ScheduledDesign). IsFollowed (its_outlines d) piece_limit c.args.form.trace.now contents (g.F.Files.reading c.run_over.new.files)) c.in_ok-started.ensures.scheduled
    (run contents (c.in_ok-compiled.ensures.contents ∙ told)))) c.run_over.ensures.done_within

pub returns-clause-bad_within : goal.returns-clause-bad_within
returns-clause-bad_within g c = λ number h contents told.
    trace_within c.args.form.file.now contents c.args.form.top.now c.args.form.trace.now c.in_ok-compiled.compiled (c.in_ok-compiled.ensures.compiled contents told)
    (g.F.Files.reading c.run_over.new.files)
    (subst (λ (d : ScheduledDesign). IsFollowed (its_outlines d) piece_limit c.args.form.trace.now contents (g.F.Files.reading c.run_over.new.files)) c.in_ok-started.ensures.scheduled
    (c.run_over.ensures.bad_within number h contents (c.in_ok-compiled.ensures.contents ∙ told)))

pub returns-clause-refused : goal.returns-clause-refused
returns-clause-refused g c = λ r h. absurd (c.run_over.ensures.own r h)
