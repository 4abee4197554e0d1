use Rattle.std.proofs.Common.{ap}
use Rattle.std.specs.List.{flat_map}
use Rattle.bsv_vtext.specs.VText as spec
use Rattle.bsv_io.proofs.Adding.{going_on, going_failed, going_text}
use Rattle.bsv_vtext.proofs.ports.add_registers.Goals as goal

pub returns-in_err-add_register : goal.returns-in_err-add_register
returns-in_err-add_register g c =
    going_failed (flat_map spec.register_line c.in-Some.others.now) c.from_residual.result c.from_residual.ensures.0 (going_text (ap (flat_map spec.register_line) c.in-Some.ensures.cases.0) c.loop-register.invariant) c.in_err-add_register.ensures

pub loop-register-preserved : goal.loop-register-preserved
loop-register-preserved g c =
    going_on (flat_map spec.register_line c.in-Some.others.now) (going_text (ap (flat_map spec.register_line) c.in-Some.ensures.cases.0) c.loop-register.invariant) c.in_ok-add_register.ensures
