use Rattle.std.proofs.Common.{ap}
use Rattle.bsv_vtext.specs.AtHand as hand
use Rattle.bsv_vtext.specs.Signals as signals
use Rattle.bsv_io.proofs.Adding.{going_on, going_failed, going_text}
use Rattle.bsv_vtext.proofs.ports.add_arguments.Goals as goal

pub returns-in_err-add_argument : goal.returns-in_err-add_argument
returns-in_err-add_argument g c =
    going_failed (hand.listed c.args.listing (signals.argument_ports c.args.method.now c.in-Some.others.now)) c.from_residual.result c.from_residual.ensures.0 (going_text (ap (λ xs. hand.listed c.args.listing (signals.argument_ports c.args.method.now xs)) c.in-Some.ensures.cases.0) c.loop-arg.invariant) c.in_err-add_argument.ensures

pub loop-arg-preserved : goal.loop-arg-preserved
loop-arg-preserved g c =
    going_on (hand.listed c.args.listing (signals.argument_ports c.args.method.now c.in-Some.others.now)) (going_text (ap (λ xs. hand.listed c.args.listing (signals.argument_ports c.args.method.now xs)) c.in-Some.ensures.cases.0) c.loop-arg.invariant) c.in_ok-add_argument.ensures
