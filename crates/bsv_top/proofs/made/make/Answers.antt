use Rattle.std.proofs.Common.{◌≡◌, ℕ, List, [], sym, subst, ◌∙◌}
use Rattle.std.proofs.lemmas.Result.{err_from_is_err_and}
use Rattle.bsv_lemmas.proofs.Choices.{same_err}
use Rattle.bsv_top.specs.declared.status.Status.TheVariants as status
use Rattle.bsv_top.specs.Answers.{MadeAnswer}
use Rattle.bsv_top.specs.MadeRuns.{IsMadeStop}
use Rattle.bsv_io.proofs.Appended.{whole_put}
use Rattle.bsv_top.proofs.MadeRun.{make_done, make_started, stop_made}
use Rattle.bsv_top.proofs.made.make.Goals as goal

put_text : (size : ℕ) (text bytes : List ℕ) → bytes ≡ text → MadeAnswer size status.Done text [] → MadeAnswer size status.Done bytes []
put_text size text bytes same h = subst (λ (t : List ℕ). MadeAnswer size status.Done t []) (sym same) h

pub returns-in_err-text-clause-stopped : goal.returns-in_err-text-clause-stopped
returns-in_err-text-clause-stopped g c = λ s h contents.
    let p = err_from_is_err_and c.from_residual.result c.from_residual.ensures.1 in
    stop_made c.args.size c.requires.least c.requires.most contents (g.O.Sink.writing c.args.out.now) (g.O.Sink.writing c.args.out.now) s
    (subst (IsMadeStop c.args.size) (sym (same_err s p.0 (sym h ∙ p.1) ∙ p.2)) c.in_err-text.ensures.stopped)

pub returns-in-Ok-clause-done : goal.returns-in-Ok-clause-done
returns-in-Ok-clause-done g c = λ contents.
    make_done c.args.size c.requires.least c.requires.most contents (g.O.Sink.writing c.args.out.now) (g.O.Sink.writing c.put.new.self) c.as_slice.result.now (put_text c.args.size c.in_ok-text.text.items c.as_slice.result.now c.as_slice.ensures.value c.in_ok-text.ensures.done)
    c.in-Ok.ensures.ok

pub returns-in-Ok-clause-started : goal.returns-in-Ok-clause-started
returns-in-Ok-clause-started g c = λ contents.
    make_started c.args.size c.requires.least c.requires.most contents (g.O.Sink.writing c.args.out.now) (g.O.Sink.writing c.put.new.self) c.as_slice.result.now (put_text c.args.size c.in_ok-text.text.items c.as_slice.result.now c.as_slice.ensures.value c.in_ok-text.ensures.done)
    (whole_put c.as_slice.result.now (g.O.Sink.writing c.args.out.now) (g.O.Sink.writing c.put.new.self) c.in-Ok.ensures.ok)

pub returns-clause-started : goal.returns-clause-started
returns-clause-started g c = λ contents.
    make_started c.args.size c.requires.least c.requires.most contents (g.O.Sink.writing c.args.out.now) (g.O.Sink.writing c.put.new.self) c.as_slice.result.now (put_text c.args.size c.in_ok-text.text.items c.as_slice.result.now c.as_slice.ensures.value c.in_ok-text.ensures.done)
    c.in-Err.ensures.err
