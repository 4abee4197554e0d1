use Rattle.std.proofs.Common.{◌≡◌, length}
use Rattle.std.specs.List.{list_all}
use Rattle.bsv_share.specs.Moving.{keeps}
use Rattle.bsv_share.proofs.moves.Moves.keeps_all.Given as goal

abbrev pub invariant-loop-node : goal.invariant-loop-node
invariant-loop-node l =
    list_all (keeps l.self.from.now l.self.to.now l.count) l.rest ≡ list_all (keeps l.self.from.now l.self.to.now l.count) l.nodes

abbrev pub decreases-loop-node : goal.decreases-loop-node
decreases-loop-node l = length l.rest
