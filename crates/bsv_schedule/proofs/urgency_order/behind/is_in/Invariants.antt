use Rattle.std.proofs.Common.{take}
use Rattle.bsv_graph.specs.Orders.{In}
use Rattle.bsv_schedule.proofs.urgency_order.behind.is_in.Given as goal

abbrev pub invariant-loop-item : goal.invariant-loop-item
invariant-loop-item l = ¬ In (take l.item-index l.list) l.number
