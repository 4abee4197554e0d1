use Rattle.std.proofs.Common.{refl, sym, ◌∙◌}
use Rattle.std.proofs.lemmas.Result.{err_from_is_err_and}
use Rattle.bsv_lemmas.proofs.Choices.{same_err}
use Rattle.bsv_flow.specs.declared.scheduling.Compiled.{Compiled}
use Rattle.bsv_top.specs.declared.stop.Stop.TheVariants as stop
use Rattle.bsv_top.specs.Products.{product_words}
use Rattle.bsv_top.proofs.Spelled.{asks_product}
use Rattle.bsv_top.proofs.Stopped.{fault_stops, fault_unread}
use Rattle.bsv_top.proofs.Printed.{plan_started, plan_done}
use Rattle.bsv_top.proofs.planning.plan.Goals as goal

pub returns-in_err-compiled-clause-stopped : goal.returns-in_err-compiled-clause-stopped
returns-in_err-compiled-clause-stopped g c = λ s h contents told.
    let p = err_from_is_err_and c.from_residual.result c.from_residual.ensures.1 in
    let product = c.args.form.product in
    let file = c.args.form.file.now in
    let top = c.args.form.top.now in
    fault_stops {A = Compiled} (product_words product file top) file top (asks_product product file top) c.in_err-compiled.field-0.0 s (same_err s p.0 (sym h ∙ p.1) ∙ p.2)
    contents (g.O.Sink.writing c.args.out.now)
    (λ r e. c.in_err-compiled.ensures.refused r e contents told) (λ name e. c.in_err-compiled.ensures.reached name e contents told)

pub returns-in_err-compiled-clause-unread : goal.returns-in_err-compiled-clause-unread
returns-in_err-compiled-clause-unread g c = λ name h.
    let p = err_from_is_err_and c.from_residual.result c.from_residual.ensures.1 in
    let product = c.args.form.product in
    let file = c.args.form.file.now in
    let top = c.args.form.top.now in
    fault_unread {A = Compiled} (product_words product file top) file top (asks_product product file top) c.in_err-compiled.field-0.0 (stop.Unread name) (same_err (stop.Unread name) p.0 (sym h ∙ p.1) ∙ p.2)
    (g.F.Files.reading c.args.files.now) (g.F.Files.reading c.compile.new.files) (g.O.Sink.writing c.args.out.now) name refl
    c.in_err-compiled.ensures.read_fault c.in_err-compiled.ensures.reached

pub returns-in-Ok-clause-done : goal.returns-in-Ok-clause-done
returns-in-Ok-clause-done g c = λ contents told.
    plan_done c.args.form.file.now contents c.args.form.top.now c.in_ok-compiled.compiled (c.in_ok-compiled.ensures.compiled contents told)
    c.args.form.product (g.O.Sink.writing c.args.out.now) (g.O.Sink.writing c.put_product.new.out) c.in-Ok.ensures.ok

pub returns-in-Ok-clause-started : goal.returns-in-Ok-clause-started
returns-in-Ok-clause-started g c = λ contents told.
    plan_started c.args.form.file.now contents c.args.form.top.now c.in_ok-compiled.compiled (c.in_ok-compiled.ensures.compiled contents told)
    c.args.form.product (g.O.Sink.writing c.args.out.now) (g.O.Sink.writing c.put_product.new.out) c.in-Ok.ensures.prefix

pub returns-clause-started : goal.returns-clause-started
returns-clause-started g c = λ contents told.
    plan_started c.args.form.file.now contents c.args.form.top.now c.in_ok-compiled.compiled (c.in_ok-compiled.ensures.compiled contents told)
    c.args.form.product (g.O.Sink.writing c.args.out.now) (g.O.Sink.writing c.put_product.new.out) c.in-Err.ensures.prefix
