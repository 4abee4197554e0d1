use Rattle.std.proofs.Common.{take}
use Rattle.bsv_graph.specs.Orders.{In}
use Rattle.bsv_share.specs.Ordering.{MarksOnly}
use Rattle.bsv_share.proofs.order.mark_all.Given as goal

abbrev pub invariant-loop-place : goal.invariant-loop-place
invariant-loop-place l = MarksOnly (In (take l.place-index l.places)) l.initial.marks l.marks
