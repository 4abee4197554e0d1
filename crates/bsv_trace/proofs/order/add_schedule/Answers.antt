use Rattle.std.proofs.Common.{◌∙◌, ap, codes}
use Rattle.std.specs.List.{flat_map}
use Rattle.bsv_trace.specs.Texts.{schedule_text}
use Rattle.bsv_trace.specs.Texts as texts
use Rattle.bsv_io.proofs.Adding.{adds_more, fails_more, adds_then, adds_text}
use Rattle.bsv_trace.proofs.order.add_schedule.Goals as goal

pub returns-in_err-add_list : goal.returns-in_err-add_list
unfolding schedule_text
returns-in_err-add_list g c =
    adds_more (flat_map (texts.stops_line (texts.name_at c.args.elements.now) c.args.schedule.now.stops) c.args.schedule.now.urgency) c.from_residual.result c.from_residual.ensures.0 (fails_more (texts.list_line (codes "urgency") (texts.name_at c.args.elements.now) c.args.schedule.now.urgency) (adds_text (ap (texts.list_line (codes "execution") (texts.name_at c.args.elements.now)) c.as_slice-execution.ensures) c.in_err-add_list.ensures))

pub returns-in_err-add_list-2 : goal.returns-in_err-add_list-2
unfolding schedule_text
returns-in_err-add_list-2 g c =
    adds_more (flat_map (texts.stops_line (texts.name_at c.args.elements.now) c.args.schedule.now.stops) c.args.schedule.now.urgency) c.from_residual-in_err-add_list-2.result c.from_residual-in_err-add_list-2.ensures.0 (adds_then (adds_text (ap (texts.list_line (codes "execution") (texts.name_at c.args.elements.now)) c.as_slice-execution.ensures) c.in_ok-add_list.ensures) (adds_text (ap (texts.list_line (codes "urgency") (texts.name_at c.args.elements.now)) c.as_slice-urgency.ensures) c.in_err-add_list-2.ensures))

pub returns : goal.returns
unfolding schedule_text
returns g c =
    adds_then (adds_then (adds_text (ap (texts.list_line (codes "execution") (texts.name_at c.args.elements.now)) c.as_slice-execution.ensures) c.in_ok-add_list.ensures) (adds_text (ap (texts.list_line (codes "urgency") (texts.name_at c.args.elements.now)) c.as_slice-urgency.ensures) c.in_ok-add_list-2.ensures)) (adds_text (ap (λ s. flat_map (texts.stops_line (texts.name_at c.args.elements.now) s) c.as_slice-urgency.result.now) c.as_slice.ensures ∙ ap (flat_map (texts.stops_line (texts.name_at c.args.elements.now) c.args.schedule.now.stops)) c.as_slice-urgency.ensures) c.add_stops.ensures)
