use Rattle.std.proofs.Common.{ap}
use Rattle.std.specs.List.{flat_map}
use Rattle.bsv_trace.specs.Texts as texts
use Rattle.bsv_io.proofs.Adding.{going_on, going_failed, going_text}
use Rattle.bsv_trace.proofs.report.add_stopped.Goals as goal

pub returns-in_err-add_stopped_line : goal.returns-in_err-add_stopped_line
returns-in_err-add_stopped_line g c =
    let named = texts.name_at c.args.elements.now in
    going_failed (flat_map (texts.stopped_line named) c.in-Some.others.now) c.from_residual.result c.from_residual.ensures.0 (going_text (ap (flat_map (texts.stopped_line named)) c.in-Some.ensures.cases.0) c.loop-pair.invariant) c.in_err-add_stopped_line.ensures

pub loop-pair-preserved : goal.loop-pair-preserved
loop-pair-preserved g c =
    let named = texts.name_at c.args.elements.now in
    going_on (flat_map (texts.stopped_line named) c.in-Some.others.now) (going_text (ap (flat_map (texts.stopped_line named)) c.in-Some.ensures.cases.0) c.loop-pair.invariant) c.in_ok-add_stopped_line.ensures
