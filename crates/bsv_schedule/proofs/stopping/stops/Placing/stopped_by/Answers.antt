use Rattle.bsv_schedule.specs.relating.Relations.{relating_of}
use Rattle.bsv_schedule.specs.stopping.Stops.{Stops}
use Rattle.bsv_schedule.proofs.PlaceLemmas.{picks_take}
use Rattle.bsv_schedule.proofs.stopping.stops.Placing.stopped_by.Goals as goal

pub loop-b-preserved : goal.loop-b-preserved
loop-b-preserved c = λ execution urgency t.
    let r = relating_of c.args.self.relations.now in
    rw c.in_ok-push_if.ensures
    (picks_take (Stops r execution urgency c.args.a) c.args.order.now c.loop-b.list c.loop-b.b-index 0 c.stops.result c.loop-b-test.true
    (c.stops.ensures execution urgency t) (c.loop-b.invariant execution urgency t))
