use Rattle.bsv_share.specs.Ordering.{NoneMarked}
use Rattle.bsv_share.proofs.order.unmarked.Given as goal

abbrev pub invariant-loop : goal.invariant-loop
invariant-loop l = NoneMarked l.marks
