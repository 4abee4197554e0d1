use Rattle.std.proofs.Common.{◌≡◌, ◌∙◌, ℕ, List, Err, refl, sym, ap, subst}
use Rattle.std.proofs.lemmas.Result.{err_from_is_err_and, on_ok_weaker}
use Rattle.bsv_lemmas.proofs.Choices.{err_never_ok, same_err}
use Rattle.bsv_io.specs.Faults.{MayFault}
use Rattle.bsv_flow.specs.declared.scheduling.Compiled.{Compiled}
use Rattle.bsv_flow.proofs.Sourced.{still_within}
use Rattle.bsv_flow.specs.Sources.{read_limit}
use Rattle.bsv_suite.specs.Lists.{NamesTraces}
use Rattle.bsv_top.specs.declared.stop.Stop.TheVariants as stop
use Rattle.bsv_top.specs.Answers.{Asks, suite_words}
use Rattle.bsv_top.specs.Outcomes as o
use Rattle.bsv_top.specs.Outcomes.{OutputStarted}
use Rattle.bsv_top.proofs.Stopped.{fault_stops, fault_unread}
use Rattle.bsv_top.proofs.SuiteRun.{list_stop, suite_begun, suite_cut, suite_done, suite_stop}
use Rattle.bsv_top.proofs.suite.tell_suite.Goals as goal

pub returns-in_err-compiled-clause-stopped : goal.returns-in_err-compiled-clause-stopped
returns-in_err-compiled-clause-stopped g c = λ s h contents told.
    let p = err_from_is_err_and c.from_residual.result c.from_residual.ensures.1 in
    let file = c.args.form.file.now in
    let top = c.args.form.top.now in
    let list = c.args.form.list.now in
    fault_stops {A = Compiled} (suite_words file top list) file top (Asks.suite list refl) c.in_err-compiled.field-0.0 s (same_err s p.0 (sym h ∙ p.1) ∙ p.2) contents (g.O.Sink.writing c.args.out.now)
    (λ r e. c.in_err-compiled.ensures.refused r e contents told) (λ name e. c.in_err-compiled.ensures.reached name e contents told)

pub returns-in_err-compiled-clause-unread : goal.returns-in_err-compiled-clause-unread
returns-in_err-compiled-clause-unread g c = λ name h.
    let p = err_from_is_err_and c.from_residual.result c.from_residual.ensures.1 in
    let file = c.args.form.file.now in
    let top = c.args.form.top.now in
    let list = c.args.form.list.now in
    fault_unread {A = Compiled} (suite_words file top list) file top (Asks.suite list refl) c.in_err-compiled.field-0.0 (stop.Unread name) (same_err (stop.Unread name) p.0 (sym h ∙ p.1) ∙ p.2)
    (g.F.Files.reading c.args.files.now) (g.F.Files.reading c.compile.new.files) (g.O.Sink.writing c.args.out.now) name refl
    c.in_err-compiled.ensures.read_fault c.in_err-compiled.ensures.reached

pub returns-clause-done : goal.returns-clause-done
returns-clause-done g c =
    on_ok_weaker c.tell_traces.result
    (λ all contents told.
    let named = subst (λ (ns : List (List ℕ)). NamesTraces (contents c.args.form.list.now) ns) (sym c.as_slice.ensures.value) (c.in_ok-names.ensures.names contents (c.in_ok-compiled.ensures.contents ∙ told)) in
    suite_done c.args.form.file.now contents c.args.form.top.now c.args.form.list.now c.in_ok-compiled.compiled (c.in_ok-compiled.ensures.compiled contents told)
    c.as_slice.result.now named (g.O.Sink.writing c.args.out.now) (g.O.Sink.writing c.tell_traces.new.out)
    (all contents (c.in_ok-names.ensures.contents ∙ c.in_ok-compiled.ensures.contents ∙ told))) c.tell_traces.ensures.done

pub returns-in_err-names-clause-stopped : goal.returns-in_err-names-clause-stopped
returns-in_err-names-clause-stopped g c = λ s h contents told.
    let p = err_from_is_err_and c.from_residual-in_err-names.result c.from_residual-in_err-names.ensures.1 in
    let same : s ≡ c.in_err-names.field-0.0 = same_err s p.0 (sym h ∙ p.1) ∙ p.2 in
    let e = c.in_err-names.was ∙ ap Err (sym same) in
    list_stop c.args.form.file.now contents c.args.form.top.now c.args.form.list.now c.in_ok-compiled.compiled (c.in_ok-compiled.ensures.compiled contents told) (g.O.Sink.writing c.args.out.now) s
    (λ number is. c.names_of.ensures.bad number (e ∙ ap Err is) contents (c.in_ok-compiled.ensures.contents ∙ told)) (λ r is. c.names_of.ensures.own r (e ∙ ap Err is))
    (λ number is. c.names_of.ensures.no_line number (e ∙ ap Err is)) (λ count is. c.names_of.ensures.no_count count (e ∙ ap Err is)) (λ name is. (c.names_of.ensures.unread name (e ∙ ap Err is)).0)

pub returns-in_err-names-clause-unread : goal.returns-in_err-names-clause-unread
returns-in_err-names-clause-unread g c = λ name h.
    let p = err_from_is_err_and c.from_residual-in_err-names.result c.from_residual-in_err-names.ensures.1 in
    let same : stop.Unread name ≡ c.in_err-names.field-0.0 = same_err (stop.Unread name) p.0 (sym h ∙ p.1) ∙ p.2 in
    let this = c.names_of.ensures.unread name (c.in_err-names.was ∙ ap Err (sym same)) in
    o.IsUnread.list c.args.form.file.now c.args.form.top.now (ap (λ (l : List ℕ). suite_words c.args.form.file.now c.args.form.top.now l) (sym this.0))
    (subst (λ (n : ℕ). MayFault n (g.F.Files.reading c.names_of.new.files).faults) (c.in_ok-compiled.ensures.kept (λ blamed e. err_never_ok _ _ (sym e))) this.1)
    this.2 refl

pub returns-in_err-names-clause-within : goal.returns-in_err-names-clause-within
returns-in_err-names-clause-within g c =
    still_within read_limit (g.F.Files.reading c.args.files.now) (g.F.Files.reading c.compile.new.files) (g.F.Files.reading c.names_of.new.files) c.in_ok-compiled.ensures.within c.names_of.ensures.within

pub returns-clause-stopped : goal.returns-clause-stopped
returns-clause-stopped g c = λ s h contents told.
    let here = c.in_ok-names.ensures.contents ∙ c.in_ok-compiled.ensures.contents ∙ told in
    suite_stop c.args.form.file.now contents c.args.form.top.now c.args.form.list.now c.in_ok-compiled.compiled (c.in_ok-compiled.ensures.compiled contents told)
    c.as_slice.result.now (subst (λ (ns : List (List ℕ)). NamesTraces (contents c.args.form.list.now) ns) (sym c.as_slice.ensures.value) (c.in_ok-names.ensures.names contents (c.in_ok-compiled.ensures.contents ∙ told))) (g.O.Sink.writing c.args.out.now) (g.O.Sink.writing c.tell_traces.new.out) s
    (λ count e. let bad = c.tell_traces.ensures.bad count (h ∙ ap Err e) in (bad.0, bad.1 contents here))
    (λ r e. c.tell_traces.ensures.own r (h ∙ ap Err e)) (λ number e. c.tell_traces.ensures.no_line number (h ∙ ap Err e)) (λ number e. c.tell_traces.ensures.no_list_line number (h ∙ ap Err e))
    (λ name e. (c.tell_traces.ensures.unread name (h ∙ ap Err e)).0)

pub returns-clause-started : goal.returns-clause-started
returns-clause-started g c = λ contents told.
    suite_begun c.args.form.file.now contents c.args.form.top.now c.args.form.list.now c.in_ok-compiled.compiled (c.in_ok-compiled.ensures.compiled contents told)
    c.as_slice.result.now (subst (λ (ns : List (List ℕ)). NamesTraces (contents c.args.form.list.now) ns) (sym c.as_slice.ensures.value) (c.in_ok-names.ensures.names contents (c.in_ok-compiled.ensures.contents ∙ told))) (g.O.Sink.writing c.args.out.now) (g.O.Sink.writing c.tell_traces.new.out)
    (c.tell_traces.ensures.started contents (c.in_ok-names.ensures.contents ∙ c.in_ok-compiled.ensures.contents ∙ told))

pub returns-clause-refused : goal.returns-clause-refused
returns-clause-refused g c = λ r h. absurd (c.tell_traces.ensures.own r h)

pub returns-clause-unread : goal.returns-clause-unread
returns-clause-unread g c = λ name h.
    let file = c.args.form.file.now in
    let top = c.args.form.top.now in
    let list = c.args.form.list.now in
    let this = c.tell_traces.ensures.unread name h in
    let same = c.in_ok-names.ensures.kept (λ blamed e. err_never_ok _ _ (sym e)) ∙ c.in_ok-compiled.ensures.kept (λ blamed e. err_never_ok _ _ (sym e)) in
    o.IsUnread.listed file top list refl
    (subst (λ (n : ℕ). MayFault n (g.F.Files.reading c.tell_traces.new.files).faults) same this.1)
    this.2
    (λ contents told.
    suite_cut file contents top list c.in_ok-compiled.compiled (c.in_ok-compiled.ensures.compiled contents told)
    c.as_slice.result.now (subst (λ (ns : List (List ℕ)). NamesTraces (contents c.args.form.list.now) ns) (sym c.as_slice.ensures.value) (c.in_ok-names.ensures.names contents (c.in_ok-compiled.ensures.contents ∙ told))) (g.O.Sink.writing c.args.out.now) (g.O.Sink.writing c.tell_traces.new.out) name
    (c.tell_traces.ensures.cut name h contents (c.in_ok-names.ensures.contents ∙ c.in_ok-compiled.ensures.contents ∙ told)))

pub returns-clause-within : goal.returns-clause-within
returns-clause-within g c =
    still_within read_limit (g.F.Files.reading c.args.files.now) (g.F.Files.reading c.names_of.new.files) (g.F.Files.reading c.tell_traces.new.files)
    (still_within read_limit (g.F.Files.reading c.args.files.now) (g.F.Files.reading c.compile.new.files) (g.F.Files.reading c.names_of.new.files) c.in_ok-compiled.ensures.within c.in_ok-names.ensures.within)
    c.tell_traces.ensures.within

pub returns-in_err-names-clause-files_kept : goal.returns-in_err-names-clause-files_kept
returns-in_err-names-clause-files_kept g c = λ none.
    let p = err_from_is_err_and c.from_residual-in_err-names.result c.from_residual-in_err-names.ensures.1 in
    c.names_of.ensures.kept (λ name e. none name (p.1 ∙ ap Err (p.2 ∙ same_err c.in_err-names.field-0.0 (stop.Unread name) (sym c.in_err-names.was ∙ e))))
    ∙ c.in_ok-compiled.ensures.kept (λ blamed e. err_never_ok _ _ (sym e))
