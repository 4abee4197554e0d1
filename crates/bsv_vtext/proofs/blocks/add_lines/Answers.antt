use Rattle.std.proofs.Common.{ap}
use Rattle.std.specs.List.{flat_map}
use Rattle.bsv_vtext.specs.AtHand as hand
use Rattle.bsv_io.proofs.Adding.{going_on, going_failed, going_text}
use Rattle.bsv_vtext.proofs.blocks.add_lines.Goals as goal

pub returns-in_err-add_line : goal.returns-in_err-add_line
returns-in_err-add_line g c =
    going_failed (flat_map (hand.line c.args.line) c.in-Some.others.now) c.from_residual.result c.from_residual.ensures.0 (going_text (ap (flat_map (hand.line c.args.line)) c.in-Some.ensures.cases.0) c.loop-register.invariant) c.in_err-add_line.ensures

pub loop-register-preserved : goal.loop-register-preserved
loop-register-preserved g c =
    going_on (flat_map (hand.line c.args.line) c.in-Some.others.now) (going_text (ap (flat_map (hand.line c.args.line)) c.in-Some.ensures.cases.0) c.loop-register.invariant) c.in_ok-add_line.ensures
