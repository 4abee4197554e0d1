use Rattle.std.proofs.Common.{◌∙◌, map, sym, ap}
use Rattle.bsv_design.specs.scheme.Schemes.{design_scheme}
use Rattle.bsv_design.specs.scheme.Seen.{design_data}
use Rattle.bsv_schedule.proofs.DesignLemmas.{kinds_are}
use Rattle.bsv_schedule.proofs.UsesLemmas.{calls_feed}
use Rattle.bsv_schedule.proofs.relating.meeting.feeds.Goals as goal

pub returns : goal.returns
returns c =
    let S = design_scheme (design_data c.args.design.now) in
    c.calls_meet.ensures
    ∙ calls_feed S c.args.a c.args.b _ _ _ (kinds_are c.args.design.now ∙ ap (map (λ p. p.kind)) (sym c.as_slice-parts.ensures)) c.calls_of.ensures.calls c.calls_of-2.ensures.calls
