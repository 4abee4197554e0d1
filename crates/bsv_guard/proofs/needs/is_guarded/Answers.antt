use Rattle.std.proofs.Common.{◌∙◌, sym, ap, refl}
use Rattle.std.proofs.lemmas.Option.{slice_get_read, slice_get_past}
use Rattle.bsv_design.specs.design.Guards.{is_guarded}
use Rattle.bsv_guard.proofs.needs.is_guarded.Goals as goal

pub returns-in-Some : goal.returns-in-Some
returns-in-Some c =
    let l = c.in-Some.ensures.lookup in
    let kind = slice_get_read c.args.kinds.now _ c.args.call.now.part c.in-Some.kind.now refl l.3.0 l.1 in
    c.guarded.ensures ∙ sym (ap (λ k. is_guarded k c.args.call.now.method) kind)

pub returns-in-None : goal.returns-in-None
returns-in-None c =
    let l = c.in-None.ensures.lookup in
    sym (ap (λ k. is_guarded k c.args.call.now.method) (slice_get_past c.args.kinds.now c.args.call.now.part l.3))
