use Rattle.std.proofs.Common.{◌++◌, ap, codes}
use Rattle.std.specs.List.{flat_map}
use Rattle.bsv_trace.specs.Texts as texts
use Rattle.bsv_io.proofs.Adding.{going_on, going_failed, going_text}
use Rattle.bsv_trace.proofs.text.add_names.Goals as goal

pub returns-in_err-add_name : goal.returns-in_err-add_name
returns-in_err-add_name g c =
    let named = texts.name_at c.args.elements.now in
    going_failed (texts.names named c.in-Some.others.now) c.from_residual.result c.from_residual.ensures.0 (going_text (ap (flat_map (λ place. codes " " ++ named place)) c.in-Some.ensures.cases.0) c.loop-place.invariant) c.in_err-add_name.ensures

pub loop-place-preserved : goal.loop-place-preserved
loop-place-preserved g c =
    let named = texts.name_at c.args.elements.now in
    going_on (texts.names named c.in-Some.others.now) (going_text (ap (flat_map (λ place. codes " " ++ named place)) c.in-Some.ensures.cases.0) c.loop-place.invariant) c.in_ok-add_name.ensures
