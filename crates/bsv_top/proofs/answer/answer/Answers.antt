use Rattle.std.proofs.Common.{◌∙◌, ℕ, List, sym, ap, subst}
use Rattle.std.proofs.lemmas.Result.{on_ok_weaker}
use Rattle.bsv_top.specs.Forms.{words_of}
use Rattle.bsv_top.specs.Outcomes.{IsDoneBy, IsUnread, OutputStarted}
use Rattle.bsv_top.specs.Stops.{IsStopOf}
use Rattle.bsv_top.proofs.Spelled.{runs_apart, same_trace}
use Rattle.bsv_top.proofs.answer.answer.Goals as goal

pub returns-in-Plan-clause-done : goal.returns-in-Plan-clause-done
returns-in-Plan-clause-done g c =
    on_ok_weaker c.plan.result
    (λ done contents told.
    subst (λ (words : List (List ℕ)). IsDoneBy words contents (g.O.Sink.writing c.args.out.now) (g.O.Sink.writing c.plan.new.out)) (sym (ap words_of c.in-Plan.is))
    (done contents told)) c.plan.ensures.done

pub returns-in-Sim-clause-done : goal.returns-in-Sim-clause-done
returns-in-Sim-clause-done g c =
    on_ok_weaker c.simulate.result
    (λ done contents told.
    subst (λ (words : List (List ℕ)). IsDoneBy words contents (g.O.Sink.writing c.args.out.now) (g.O.Sink.writing c.simulate.new.out)) (sym (ap words_of c.in-Sim.is))
    (done contents told)) c.simulate.ensures.done

pub returns-in-Plan-clause-started : goal.returns-in-Plan-clause-started
returns-in-Plan-clause-started g c = λ contents told.
    subst (λ (words : List (List ℕ)). OutputStarted words contents (g.O.Sink.writing c.args.out.now) (g.O.Sink.writing c.plan.new.out)) (sym (ap words_of c.in-Plan.is))
    (c.plan.ensures.started contents told)

pub returns-in-Plan-clause-unread : goal.returns-in-Plan-clause-unread
returns-in-Plan-clause-unread g c = λ name h.
    subst
    (λ (words : List (List ℕ)).
    IsUnread words name (g.F.Files.reading c.args.files.now) (g.F.Files.reading c.plan.new.files) (g.O.Sink.writing c.args.out.now) (g.O.Sink.writing c.plan.new.out))
    (sym (ap words_of c.in-Plan.is)) (c.plan.ensures.unread name h)

pub returns-in-Plan-clause-stopped : goal.returns-in-Plan-clause-stopped
returns-in-Plan-clause-stopped g c = λ s h contents told.
    subst (λ (words : List (List ℕ)). IsStopOf words contents (g.O.Sink.writing c.args.out.now) (g.O.Sink.writing c.plan.new.out) s) (sym (ap words_of c.in-Plan.is))
    (c.plan.ensures.stopped s h contents told)

pub returns-in-Sim-clause-stopped : goal.returns-in-Sim-clause-stopped
returns-in-Sim-clause-stopped g c = λ s h contents told.
    subst (λ (words : List (List ℕ)). IsStopOf words contents (g.O.Sink.writing c.args.out.now) (g.O.Sink.writing c.simulate.new.out) s) (sym (ap words_of c.in-Sim.is))
    (c.simulate.ensures.stopped s h contents told)

pub returns-in-Sim-clause-started : goal.returns-in-Sim-clause-started
returns-in-Sim-clause-started g c = λ contents told.
    subst (λ (words : List (List ℕ)). OutputStarted words contents (g.O.Sink.writing c.args.out.now) (g.O.Sink.writing c.simulate.new.out)) (sym (ap words_of c.in-Sim.is))
    (c.simulate.ensures.started contents told)

pub returns-in-Sim-clause-unread : goal.returns-in-Sim-clause-unread
returns-in-Sim-clause-unread g c = λ name h.
    subst
    (λ (words : List (List ℕ)).
    IsUnread words name (g.F.Files.reading c.args.files.now) (g.F.Files.reading c.simulate.new.files) (g.O.Sink.writing c.args.out.now) (g.O.Sink.writing c.simulate.new.out))
    (sym (ap words_of c.in-Sim.is)) (c.simulate.ensures.unread name h)

pub returns-in-Sim-clause-done_within : goal.returns-in-Sim-clause-done_within
returns-in-Sim-clause-done_within g c =
    let form = c.in-Sim.form in
    on_ok_weaker c.simulate.result
    (λ within contents told file top trace words.
    same_trace form.file.now form.top.now form.trace.now file top trace (sym (ap words_of c.in-Sim.is) ∙ words) contents (g.F.Files.reading c.simulate.new.files)
    (within contents told)) c.simulate.ensures.done_within

pub returns-in-Sim-clause-bad_within : goal.returns-in-Sim-clause-bad_within
returns-in-Sim-clause-bad_within g c = λ number h contents told file top trace words.
    let form = c.in-Sim.form in
    same_trace form.file.now form.top.now form.trace.now file top trace (sym (ap words_of c.in-Sim.is) ∙ words) contents (g.F.Files.reading c.simulate.new.files)
    (c.simulate.ensures.bad_within number h contents told)

pub returns-in-Sim-clause-sources_within : goal.returns-in-Sim-clause-sources_within
returns-in-Sim-clause-sources_within g c = λ none far.
    let form = c.in-Sim.form in
    absurd (none form.file.now form.top.now form.trace.now (ap words_of c.in-Sim.is))

-- ---- a made design

pub returns-in-Made-clause-done : goal.returns-in-Made-clause-done
returns-in-Made-clause-done g c =
    on_ok_weaker c.make.result
    (λ done contents told.
    subst (λ (words : List (List ℕ)). IsDoneBy words contents (g.O.Sink.writing c.args.out.now) (g.O.Sink.writing c.make.new.out)) (sym (ap words_of c.in-Made.is))
    (done contents)) c.make.ensures.done

pub returns-in-Made-clause-stopped : goal.returns-in-Made-clause-stopped
returns-in-Made-clause-stopped g c = λ s h contents told.
    subst (λ (words : List (List ℕ)). IsStopOf words contents (g.O.Sink.writing c.args.out.now) (g.O.Sink.writing c.make.new.out) s) (sym (ap words_of c.in-Made.is))
    (c.make.ensures.stopped s h contents)

pub returns-in-Made-clause-started : goal.returns-in-Made-clause-started
returns-in-Made-clause-started g c = λ contents told.
    subst (λ (words : List (List ℕ)). OutputStarted words contents (g.O.Sink.writing c.args.out.now) (g.O.Sink.writing c.make.new.out)) (sym (ap words_of c.in-Made.is))
    (c.make.ensures.started contents)

pub returns-in-Made-clause-unread : goal.returns-in-Made-clause-unread
returns-in-Made-clause-unread g c = λ name h. absurd (c.make.ensures.unread name h)

-- ---- a suite

pub returns-in-Suite-clause-done : goal.returns-in-Suite-clause-done
returns-in-Suite-clause-done g c =
    on_ok_weaker c.tell_suite.result
    (λ done contents told.
    subst (λ (words : List (List ℕ)). IsDoneBy words contents (g.O.Sink.writing c.args.out.now) (g.O.Sink.writing c.tell_suite.new.out)) (sym (ap words_of c.in-Suite.is))
    (done contents told)) c.tell_suite.ensures.done

pub returns-in-Suite-clause-stopped : goal.returns-in-Suite-clause-stopped
returns-in-Suite-clause-stopped g c = λ s h contents told.
    subst (λ (words : List (List ℕ)). IsStopOf words contents (g.O.Sink.writing c.args.out.now) (g.O.Sink.writing c.tell_suite.new.out) s) (sym (ap words_of c.in-Suite.is))
    (c.tell_suite.ensures.stopped s h contents told)

pub returns-in-Suite-clause-started : goal.returns-in-Suite-clause-started
returns-in-Suite-clause-started g c = λ contents told.
    subst (λ (words : List (List ℕ)). OutputStarted words contents (g.O.Sink.writing c.args.out.now) (g.O.Sink.writing c.tell_suite.new.out)) (sym (ap words_of c.in-Suite.is))
    (c.tell_suite.ensures.started contents told)

pub returns-in-Suite-clause-unread : goal.returns-in-Suite-clause-unread
returns-in-Suite-clause-unread g c = λ name h.
    subst
    (λ (words : List (List ℕ)).
    IsUnread words name (g.F.Files.reading c.args.files.now) (g.F.Files.reading c.tell_suite.new.files) (g.O.Sink.writing c.args.out.now) (g.O.Sink.writing c.tell_suite.new.out))
    (sym (ap words_of c.in-Suite.is)) (c.tell_suite.ensures.unread name h)

pub returns-in-Suite-clause-within : goal.returns-in-Suite-clause-within
returns-in-Suite-clause-within g c = λ contents told file top trace words.
    let form = c.in-Suite.form in
    absurd (runs_apart form.file.now form.top.now form.list.now file top trace (sym (ap words_of c.in-Suite.is) ∙ words))

pub returns-in-Suite-clause-done_within : goal.returns-in-Suite-clause-done_within
returns-in-Suite-clause-done_within g c =
    let form = c.in-Suite.form in
    on_ok_weaker c.tell_suite.result (λ done contents told file top trace words. absurd (runs_apart form.file.now form.top.now form.list.now file top trace (sym (ap words_of c.in-Suite.is) ∙ words)))
    c.tell_suite.ensures.done

pub returns-in-Suite-clause-bad_within : goal.returns-in-Suite-clause-bad_within
returns-in-Suite-clause-bad_within g c = λ number h contents told file top trace words.
    let form = c.in-Suite.form in
    absurd (runs_apart form.file.now form.top.now form.list.now file top trace (sym (ap words_of c.in-Suite.is) ∙ words))

pub returns-in-Suite-clause-no_output : goal.returns-in-Suite-clause-no_output
returns-in-Suite-clause-no_output g c = λ none h.
    let form = c.in-Suite.form in
    absurd (none form.file.now form.top.now form.list.now (ap words_of c.in-Suite.is))

pub returns-in-Suite-clause-no_list_line : goal.returns-in-Suite-clause-no_list_line
returns-in-Suite-clause-no_list_line g c = λ number h file top trace words.
    let form = c.in-Suite.form in
    runs_apart form.file.now form.top.now form.list.now file top trace (sym (ap words_of c.in-Suite.is) ∙ words)

pub returns-in-Suite-clause-no_traces : goal.returns-in-Suite-clause-no_traces
returns-in-Suite-clause-no_traces g c = λ count h file top trace words.
    let form = c.in-Suite.form in
    runs_apart form.file.now form.top.now form.list.now file top trace (sym (ap words_of c.in-Suite.is) ∙ words)

pub returns-in-Sim-clause-no_list_line : goal.returns-in-Sim-clause-no_list_line
returns-in-Sim-clause-no_list_line g c = λ number h file top trace words. c.simulate.ensures.no_list_line number h

pub returns-in-Sim-clause-no_traces : goal.returns-in-Sim-clause-no_traces
returns-in-Sim-clause-no_traces g c = λ count h file top trace words. c.simulate.ensures.no_traces count h
