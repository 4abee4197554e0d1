use Rattle.std.proofs.Common.{ap}
use Rattle.std.specs.List.{flat_map}
use Rattle.bsv_vtext.specs.VText as spec
use Rattle.bsv_io.proofs.Adding.{going_on, going_failed, going_text}
use Rattle.bsv_vtext.proofs.ports.add_wires.Goals as goal

pub returns-in_err-add_wire : goal.returns-in_err-add_wire
returns-in_err-add_wire g c =
    going_failed (flat_map spec.wire_line c.in-Some.others.now) c.from_residual.result c.from_residual.ensures.0 (going_text (ap (flat_map spec.wire_line) c.in-Some.ensures.cases.0) c.loop-wire.invariant) c.in_err-add_wire.ensures

pub loop-wire-preserved : goal.loop-wire-preserved
loop-wire-preserved g c =
    going_on (flat_map spec.wire_line c.in-Some.others.now) (going_text (ap (flat_map spec.wire_line) c.in-Some.ensures.cases.0) c.loop-wire.invariant) c.in_ok-add_wire.ensures
