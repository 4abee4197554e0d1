use Rattle.std.proofs.Common.{◌∙◌, ap, sym}
use Rattle.std.specs.Prelude.{slice_get}
use Rattle.bsv_serial.proofs.body.Body.guard_holds.Goals as goal

pub guard-requires : goal.guard-requires
guard-requires c =
    let number = c.args.need.now.call in
    c.requires.looks number c.in-Some.call.now (sym (c.in-Some.ensures ∙ ap (λ cs. slice_get cs number) c.as_slice.ensures))
