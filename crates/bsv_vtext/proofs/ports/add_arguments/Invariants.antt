use Rattle.std.proofs.Common.{length}
use Rattle.bsv_vtext.specs.AtHand as hand
use Rattle.bsv_vtext.specs.Signals as signals
use Rattle.bsv_io.proofs.Adding.{Going}
use Rattle.bsv_vtext.proofs.ports.add_arguments.Given as goal

abbrev pub decreases-loop-arg : goal.decreases-loop-arg
decreases-loop-arg g l = length l.left

abbrev pub invariant-loop-arg : goal.invariant-loop-arg
invariant-loop-arg g l =
    Going (hand.listed l.listing (signals.argument_ports l.method l.fn.args)) (hand.listed l.listing (signals.argument_ports l.method l.left)) l.fn.buffer l.buffer (g.S.Sink.writing l.fn.sink) (g.S.Sink.writing l.sink)
