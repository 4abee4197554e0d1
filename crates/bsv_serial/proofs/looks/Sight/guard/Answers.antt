use Rattle.std.proofs.Common.{◌∙◌, sym, ap}
use Rattle.bsv_design.specs.parts.Kinds.{kind_table}
use Rattle.bsv_serial.proofs.Looking.{after_fits, unmoved}
use Rattle.bsv_serial.proofs.looks.Sight.guard.Goals as goal

pub returns-then-sees_none : goal.returns-then-sees_none
returns-then-sees_none c =
    let s = c.args.self in
    c.guard.ensures
    ∙ ap ((kind_table s.kind.now).guard c.args.method) (sym (unmoved s.kind.now c.args.method s.plain.now s.calls_made.now (sym c.sees_none.ensures ∙ c.if-sees_none.true)))

pub guard-requires-2-clause-part : goal.guard-requires-2-clause-part
guard-requires-2-clause-part c =
    let s = c.args.self in
    after_fits s.kind.now c.args.method s.plain.now _ s.calls_made.now c.requires c.in_ok-part.ensures
