use Rattle.std.proofs.Common.{◌≡◌, [], length}
use Rattle.bsv_fire.specs.AtHand as hand
use Rattle.bsv_fire.specs.Bodies.{body}
use Rattle.bsv_fire.proofs.body.Pieces.body.Given as goal

abbrev pub invariant-loop-node : goal.invariant-loop-node
invariant-loop-node l =
    body (hand.base l.self) l.self.ports.now l.start l.calls l.places l.nodes l.rest
    ≡ body (hand.base l.self) l.self.ports.now l.start l.calls [] l.initial.nodes l.body

abbrev pub decreases-loop-node : goal.decreases-loop-node
decreases-loop-node l = length l.rest
