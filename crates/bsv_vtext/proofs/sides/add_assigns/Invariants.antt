use Rattle.std.proofs.Common.{length}
use Rattle.std.specs.List.{flat_map}
use Rattle.bsv_vtext.specs.VText as spec
use Rattle.bsv_vtext.specs.AtHand as hand
use Rattle.bsv_io.proofs.Adding.{Going}
use Rattle.bsv_vtext.proofs.sides.add_assigns.Given as goal

abbrev pub decreases-loop-assign : goal.decreases-loop-assign
decreases-loop-assign g l = length l.left

abbrev pub invariant-loop-assign : goal.invariant-loop-assign
invariant-loop-assign g l =
    Going (flat_map (spec.assign_line (hand.scope l.scope)) l.fn.assigns) (flat_map (spec.assign_line (hand.scope l.scope)) l.left) l.fn.buffer l.buffer (g.S.Sink.writing l.fn.sink) (g.S.Sink.writing l.sink)
