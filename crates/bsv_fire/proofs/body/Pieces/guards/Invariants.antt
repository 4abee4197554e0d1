use Rattle.std.proofs.Common.{◌≡◌, [], length}
use Rattle.bsv_fire.specs.AtHand as hand
use Rattle.bsv_fire.specs.Bodies.{guards}
use Rattle.bsv_fire.proofs.body.Pieces.guards.Given as goal

abbrev pub invariant-loop-need : goal.invariant-loop-need
invariant-loop-need l =
    guards (hand.base l.self) l.self.ports.now l.calls l.nodes l.places l.rest
    ≡ guards (hand.base l.self) l.self.ports.now l.calls l.initial.nodes [] l.needs

abbrev pub decreases-loop-need : goal.decreases-loop-need
decreases-loop-need l = length l.rest
