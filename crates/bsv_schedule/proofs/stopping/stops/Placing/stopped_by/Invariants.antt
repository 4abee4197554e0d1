use Rattle.std.proofs.Common.{take}
use Rattle.bsv_schedule.specs.stopping.Stops.{Stops, Picks}
use Rattle.bsv_schedule.specs.stopping.Placing.{ForOrders}
use Rattle.bsv_schedule.proofs.stopping.stops.Placing.stopped_by.Given as goal

abbrev pub invariant-loop-b : goal.invariant-loop-b
invariant-loop-b l = ForOrders l.self (λ r execution urgency. Picks (Stops r execution urgency l.a) (take l.b-index l.order) l.list)
