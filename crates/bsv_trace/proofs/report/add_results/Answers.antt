use Rattle.std.proofs.Common.{ap}
use Rattle.std.specs.List.{flat_map}
use Rattle.bsv_trace.specs.Texts as texts
use Rattle.bsv_io.proofs.Adding.{going_on, going_failed, going_text}
use Rattle.bsv_trace.proofs.report.add_results.Goals as goal

pub returns-in_err-add_result_line : goal.returns-in_err-add_result_line
returns-in_err-add_result_line g c =
    let named = texts.name_at c.args.elements.now in
    going_failed (flat_map (texts.result_line named) c.in-Some.others.now) c.from_residual.result c.from_residual.ensures.0 (going_text (ap (flat_map (texts.result_line named)) c.in-Some.ensures.cases.0) c.loop-gave.invariant) c.in_err-add_result_line.ensures

pub loop-gave-preserved : goal.loop-gave-preserved
loop-gave-preserved g c =
    let named = texts.name_at c.args.elements.now in
    going_on (flat_map (texts.result_line named) c.in-Some.others.now) (going_text (ap (flat_map (texts.result_line named)) c.in-Some.ensures.cases.0) c.loop-gave.invariant) c.in_ok-add_result_line.ensures
