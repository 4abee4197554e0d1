use Rattle.std.proofs.Common.{◌≡◌, length}
use Rattle.bsv_vgen.specs.AtHand as hand
use Rattle.bsv_vgen.specs.Modules.{with_fires}
use Rattle.bsv_vgen.proofs.told_wires.add_fires.Given as goal

abbrev pub invariant-loop-element : goal.invariant-loop-element
invariant-loop-element l =
    with_fires l.known l.net.fires l.number l.rest (hand.written l.written) ≡ with_fires l.known l.net.fires 0 l.elements (hand.written l.initial.written)

abbrev pub decreases-loop-element : goal.decreases-loop-element
decreases-loop-element l = length l.rest
