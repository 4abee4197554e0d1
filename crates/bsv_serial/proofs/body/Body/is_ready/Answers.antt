use Rattle.std.proofs.Common.{◌∙◌, sym}
use Rattle.bsv_serial.specs.AtHand as hand
use Rattle.bsv_serial.proofs.Needing.{are_open}
use Rattle.bsv_serial.proofs.body.Body.is_ready.Goals as goal

pub compute-requires-clause-are_open : goal.compute-requires-clause-are_open
compute-requires-clause-are_open c =
    let s = c.args.self in
    are_open (hand.body_kinds s) (hand.look s.looks) s.element.now.calls c.args.needs.now c.requires.needs (sym c.in_ok-guards_hold.ensures ∙ c.if-not-branch.false)
