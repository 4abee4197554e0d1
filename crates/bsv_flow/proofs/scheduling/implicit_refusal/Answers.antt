use Rattle.std.proofs.Common.{refl, sym, ap, ◌∙◌}
use Rattle.std.specs.Prelude.{slice_get}
use Rattle.bsv_flow.specs.Breaches.{or_no_name}
use Rattle.bsv_flow.specs.Schedulings.{texts_in}
use Rattle.bsv_flow.proofs.ScheduledTrees.{implicit_same}
use Rattle.bsv_flow.proofs.scheduling.implicit_refusal.Goals as goal

pub returns : goal.returns
returns c =
    let e = c.in-Some.element.now in
    let called = c.in_ok-call.ensures ∙ ap (λ ps. or_no_name (slice_get (texts_in ps e) c.args.place)) c.as_slice.ensures in
    implicit_same c.args.design.now c.args.rule c.args.place e c.in_ok-name.name c.in_ok-call.call _ (sym c.in-Some.ensures.value) c.in_ok-name.ensures called refl
