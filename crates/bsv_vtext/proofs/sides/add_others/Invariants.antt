use Rattle.std.proofs.Common.{length}
use Rattle.std.specs.List.{flat_map}
use Rattle.bsv_vtext.specs.VText as spec
use Rattle.bsv_vtext.specs.AtHand as hand
use Rattle.bsv_io.proofs.Adding.{Going}
use Rattle.bsv_vtext.proofs.sides.add_others.Given as goal

abbrev pub decreases-loop-part : goal.decreases-loop-part
decreases-loop-part g l = length l.left

abbrev pub invariant-loop-part : goal.invariant-loop-part
invariant-loop-part g l =
    Going (flat_map (spec.joined_atom (hand.scope l.scope)) l.fn.parts) (flat_map (spec.joined_atom (hand.scope l.scope)) l.left) l.fn.buffer l.buffer (g.S.Sink.writing l.fn.sink) (g.S.Sink.writing l.sink)
