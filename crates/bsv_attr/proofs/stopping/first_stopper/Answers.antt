use Rattle.std.proofs.Common.{get_or, subst}
use Rattle.bsv_attr.specs.Stopping.{IsFirstListed}
use Rattle.bsv_attr.proofs.Stoppers.{first_stopper, none_stops_more}
use Rattle.bsv_attr.proofs.stopping.first_stopper.Goals as goal

pub returns-then-stops : goal.returns-then-stops
returns-then-stops c =
    let us = c.as_slice-element-items.result.now in
    let n = c.loop-element.element-index in
    subst (λ vs. IsFirstListed vs c.args.schedule.now.stops c.args.rule (get_or us n 0)) c.as_slice-element-items.ensures
    (first_stopper us c.args.schedule.now.stops c.args.rule n c.loop-element.invariant c.loop-element-test.true (c.stops.ensures.0 c.if-stops.true))

pub loop-element-preserved : goal.loop-element-preserved
loop-element-preserved c =
    none_stops_more c.as_slice-element-items.result.now c.args.schedule.now.stops c.args.rule c.loop-element.element-index c.loop-element.invariant c.loop-element-test.true
    (λ h. let found = c.stops.ensures.1 h in let lost = c.if-stops.false in cc)
