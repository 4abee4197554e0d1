use Rattle.std.proofs.Common.{ap}
use Rattle.std.specs.List.{flat_map}
use Rattle.bsv_vtext.specs.VText as spec
use Rattle.bsv_vtext.specs.AtHand as hand
use Rattle.bsv_io.proofs.Adding.{going_on, going_failed, going_text}
use Rattle.bsv_vtext.proofs.sides.add_others.Goals as goal

pub returns-in_err-add_after : goal.returns-in_err-add_after
returns-in_err-add_after g c =
    going_failed (flat_map (spec.joined_atom (hand.scope c.args.scope)) c.in-Some.others.now) c.from_residual.result c.from_residual.ensures.0 (going_text (ap (flat_map (spec.joined_atom (hand.scope c.args.scope))) c.in-Some.ensures.cases.0) c.loop-part.invariant) c.in_err-add_after.ensures

pub loop-part-preserved : goal.loop-part-preserved
loop-part-preserved g c =
    going_on (flat_map (spec.joined_atom (hand.scope c.args.scope)) c.in-Some.others.now) (going_text (ap (flat_map (spec.joined_atom (hand.scope c.args.scope))) c.in-Some.ensures.cases.0) c.loop-part.invariant) c.in_ok-add_after.ensures
