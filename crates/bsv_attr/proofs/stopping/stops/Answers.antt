use Rattle.std.proofs.Common.{◌∙◌, sym, ap, Some}
use Rattle.bsv_attr.proofs.Stoppers.{stops_where, where_stops}
use Rattle.bsv_attr.proofs.stopping.stops.Goals as goal

pub returns-in-Some : goal.returns-in-Some
returns-in-Some c =
    let lists = c.args.schedule.now.stops in
    let xs = c.as_slice.result.now in
    let at = sym c.in-Some.ensures.value ∙ ap Some (sym c.as_slice.ensures) in
    (λ h. stops_where lists c.args.element c.args.rule xs at (sym c.contains.ensures.value ∙ h), λ h. c.contains.ensures.value ∙ where_stops lists c.args.element c.args.rule xs at h)
