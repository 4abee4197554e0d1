use Rattle.std.proofs.Common.{length}
use Rattle.bsv_vtext.specs.AtHand as hand
use Rattle.bsv_vtext.specs.Signals as signals
use Rattle.bsv_io.proofs.Adding.{Going}
use Rattle.bsv_vtext.proofs.ports.add_ports.Given as goal

abbrev pub decreases-loop-method : goal.decreases-loop-method
decreases-loop-method g l = length l.left

abbrev pub invariant-loop-method : goal.invariant-loop-method
invariant-loop-method g l =
    Going (hand.listed l.listing (signals.ports l.fn.methods)) (hand.listed l.listing (signals.ports l.left)) l.fn.buffer l.buffer (g.S.Sink.writing l.fn.sink) (g.S.Sink.writing l.sink)
