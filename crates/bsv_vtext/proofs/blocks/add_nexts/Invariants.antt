use Rattle.std.proofs.Common.{length}
use Rattle.bsv_vtext.specs.VText as spec
use Rattle.bsv_vtext.specs.AtHand as hand
use Rattle.bsv_io.proofs.Adding.{Going}
use Rattle.bsv_vtext.proofs.blocks.add_nexts.Given as goal

abbrev pub decreases-loop-register : goal.decreases-loop-register
decreases-loop-register g l = length l.left

abbrev pub invariant-loop-register : goal.invariant-loop-register
invariant-loop-register g l =
    let c = hand.scope l.scope in
    Going (spec.next_lines c l.fn.registers l.fn.nexts) (spec.next_lines c l.left l.held) l.fn.buffer l.buffer (g.S.Sink.writing l.fn.sink) (g.S.Sink.writing l.sink)
