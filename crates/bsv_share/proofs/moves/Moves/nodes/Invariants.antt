use Rattle.bsv_share.proofs.MovedInTurn.{MovedBefore}
use Rattle.bsv_share.proofs.moves.Moves.nodes.Given as goal

abbrev pub invariant-loop-old : goal.invariant-loop-old
invariant-loop-old l = MovedBefore l.self.from.now l.self.to.now l.nodes l.old-index l.found
