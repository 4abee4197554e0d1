use Rattle.std.proofs.Common.{ap}
use Rattle.std.specs.List.{flat_map}
use Rattle.bsv_trace.specs.Texts as texts
use Rattle.bsv_io.proofs.Adding.{going_on, going_failed, going_text, adds_text}
use Rattle.bsv_trace.proofs.order.add_stops.Goals as goal

pub returns-in_err-add_stops_text : goal.returns-in_err-add_stops_text
returns-in_err-add_stops_text g c =
    let named = texts.name_at c.args.elements.now in
    going_failed (flat_map (texts.stops_line named c.args.stops.now) c.in-Some.others.now) c.from_residual.result c.from_residual.ensures.0 (going_text (ap (flat_map (texts.stops_line named c.args.stops.now)) c.in-Some.ensures.cases.0) c.loop-place.invariant) (adds_text (ap (texts.stops_text named c.in-Some.place.now) c.stopped_by.ensures) c.in_err-add_stops_text.ensures)

pub loop-place-preserved : goal.loop-place-preserved
loop-place-preserved g c =
    let named = texts.name_at c.args.elements.now in
    going_on (flat_map (texts.stops_line named c.args.stops.now) c.in-Some.others.now) (going_text (ap (flat_map (texts.stops_line named c.args.stops.now)) c.in-Some.ensures.cases.0) c.loop-place.invariant) (adds_text (ap (texts.stops_text named c.in-Some.place.now) c.stopped_by.ensures) c.in_ok-add_stops_text.ensures)
