use Rattle.std.proofs.Common.{◌∙◌, ap}
use Rattle.std.proofs.lemmas.Grind.{flat_map-append}
use Rattle.bsv_vtext.specs.AtHand as hand
use Rattle.bsv_vtext.specs.Signals as signals
use Rattle.bsv_io.proofs.Adding.{going_on, going_failed, going_text}
use Rattle.bsv_vtext.proofs.ports.add_ports.Goals as goal

pub returns-in_err-add_method : goal.returns-in_err-add_method
returns-in_err-add_method g c =
    going_failed (hand.listed c.args.listing (signals.ports c.in-Some.others.now)) c.from_residual.result c.from_residual.ensures.0 (going_text (ap (λ xs. hand.listed c.args.listing (signals.ports xs)) c.in-Some.ensures.cases.0 ∙ flat_map-append (hand.port_text c.args.listing) (signals.method_ports c.in-Some.method.now) (signals.ports c.in-Some.others.now)) c.loop-method.invariant) c.in_err-add_method.ensures

pub loop-method-preserved : goal.loop-method-preserved
loop-method-preserved g c =
    going_on (hand.listed c.args.listing (signals.ports c.in-Some.others.now)) (going_text (ap (λ xs. hand.listed c.args.listing (signals.ports xs)) c.in-Some.ensures.cases.0 ∙ flat_map-append (hand.port_text c.args.listing) (signals.method_ports c.in-Some.method.now) (signals.ports c.in-Some.others.now)) c.loop-method.invariant) c.in_ok-add_method.ensures
