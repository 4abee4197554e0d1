use Rattle.std.proofs.Common.{◌≡◌, true, All}
use Rattle.bsv_share.specs.Ordering.{is_marked}
use Rattle.bsv_share.proofs.order.ranks.Given as goal

abbrev pub invariant-loop-node : goal.invariant-loop-node
invariant-loop-node l = All (λ rank. is_marked l.marks rank.place ≡ true) l.found.items
