use Rattle.bsv_net.specs.AtHand.{net_data}
use Rattle.bsv_share.specs.Ordering.{AllReached}
use Rattle.bsv_share.proofs.order.needed.Given as goal

abbrev pub invariant-loop-place : goal.invariant-loop-place
invariant-loop-place l = AllReached (net_data l.net) l.marks
