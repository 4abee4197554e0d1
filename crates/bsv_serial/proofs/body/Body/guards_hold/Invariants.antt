use Rattle.std.proofs.Common.{◌≡◌, length}
use Rattle.bsv_serial.specs.AtHand as hand
use Rattle.bsv_serial.specs.Bodies.{guards_hold}
use Rattle.bsv_serial.proofs.body.Body.guards_hold.Given as goal

abbrev pub invariant-loop-need : goal.invariant-loop-need
invariant-loop-need l =
    guards_hold (hand.body_kinds l.self) (hand.look l.self.looks) l.self.element.now.calls l.rest
    ≡ guards_hold (hand.body_kinds l.self) (hand.look l.self.looks) l.self.element.now.calls l.needs

abbrev pub decreases-loop-need : goal.decreases-loop-need
decreases-loop-need l = length l.rest
