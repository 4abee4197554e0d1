use Rattle.std.proofs.Common.{ap, codes}
use Rattle.std.specs.List.{flat_map}
use Rattle.bsv_trace.specs.Texts.{event_lines}
use Rattle.bsv_trace.specs.Texts as texts
use Rattle.bsv_io.proofs.Adding.{adds_more, fails_more, adds_then, adds_text}
use Rattle.bsv_trace.proofs.report.add_events.Goals as goal

pub returns-in_err-add_list : goal.returns-in_err-add_list
unfolding event_lines
returns-in_err-add_list g c =
    adds_more (flat_map (texts.result_line (texts.name_at c.args.elements.now)) c.args.fired.now.results.items) c.from_residual.result c.from_residual.ensures.0 (fails_more (flat_map (texts.blocked_line (texts.name_at c.args.elements.now)) c.args.fired.now.blocked.items) (fails_more (flat_map (texts.stopped_line (texts.name_at c.args.elements.now)) c.args.fired.now.stopped.items) (adds_text (ap (texts.list_line (codes "fired") (texts.name_at c.args.elements.now)) c.as_slice.ensures.value) c.in_err-add_list.ensures)))

pub returns-in_err-add_stopped : goal.returns-in_err-add_stopped
unfolding event_lines
returns-in_err-add_stopped g c =
    adds_more (flat_map (texts.result_line (texts.name_at c.args.elements.now)) c.args.fired.now.results.items) c.from_residual-in_err-add_stopped.result c.from_residual-in_err-add_stopped.ensures.0 (fails_more (flat_map (texts.blocked_line (texts.name_at c.args.elements.now)) c.args.fired.now.blocked.items) (adds_then (adds_text (ap (texts.list_line (codes "fired") (texts.name_at c.args.elements.now)) c.as_slice.ensures.value) c.in_ok-add_list.ensures) (adds_text (ap (flat_map (texts.stopped_line (texts.name_at c.args.elements.now))) c.as_slice-2.ensures.value) c.in_err-add_stopped.ensures)))

pub returns-in_err-add_blocked : goal.returns-in_err-add_blocked
unfolding event_lines
returns-in_err-add_blocked g c =
    adds_more (flat_map (texts.result_line (texts.name_at c.args.elements.now)) c.args.fired.now.results.items) c.from_residual-in_err-add_blocked.result c.from_residual-in_err-add_blocked.ensures.0 (adds_then (adds_then (adds_text (ap (texts.list_line (codes "fired") (texts.name_at c.args.elements.now)) c.as_slice.ensures.value) c.in_ok-add_list.ensures) (adds_text (ap (flat_map (texts.stopped_line (texts.name_at c.args.elements.now))) c.as_slice-2.ensures.value) c.in_ok-add_stopped.ensures)) (adds_text (ap (flat_map (texts.blocked_line (texts.name_at c.args.elements.now))) c.as_slice-3.ensures.value) c.in_err-add_blocked.ensures))

pub returns : goal.returns
unfolding event_lines
returns g c =
    adds_then (adds_then (adds_then (adds_text (ap (texts.list_line (codes "fired") (texts.name_at c.args.elements.now)) c.as_slice.ensures.value) c.in_ok-add_list.ensures) (adds_text (ap (flat_map (texts.stopped_line (texts.name_at c.args.elements.now))) c.as_slice-2.ensures.value) c.in_ok-add_stopped.ensures)) (adds_text (ap (flat_map (texts.blocked_line (texts.name_at c.args.elements.now))) c.as_slice-3.ensures.value) c.in_ok-add_blocked.ensures)) (adds_text (ap (flat_map (texts.result_line (texts.name_at c.args.elements.now))) c.as_slice-4.ensures.value) c.add_results.ensures)
