use Rattle.std.proofs.Common.{length}
use Rattle.std.specs.List.{flat_map}
use Rattle.bsv_vtext.specs.AtHand as hand
use Rattle.bsv_io.proofs.Adding.{Going}
use Rattle.bsv_vtext.proofs.blocks.add_lines.Given as goal

abbrev pub decreases-loop-register : goal.decreases-loop-register
decreases-loop-register g l = length l.left

abbrev pub invariant-loop-register : goal.invariant-loop-register
invariant-loop-register g l =
    Going (flat_map (hand.line l.line) l.fn.registers) (flat_map (hand.line l.line) l.left) l.fn.buffer l.buffer (g.S.Sink.writing l.fn.sink) (g.S.Sink.writing l.sink)
