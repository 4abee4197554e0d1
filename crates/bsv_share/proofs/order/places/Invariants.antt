use Rattle.std.proofs.Common.{◌≡◌, map, take}
use Rattle.bsv_share.proofs.order.places.Given as goal

abbrev pub invariant-loop-rank : goal.invariant-loop-rank
invariant-loop-rank l = l.found ≡ map (λ rank. rank.place) (take l.rank-index l.ranks)
