use Rattle.std.proofs.Common.{length}
use Rattle.std.specs.List.{flat_map}
use Rattle.bsv_vtext.specs.VText as spec
use Rattle.bsv_io.proofs.Adding.{Going}
use Rattle.bsv_vtext.proofs.ports.add_wires.Given as goal

abbrev pub decreases-loop-wire : goal.decreases-loop-wire
decreases-loop-wire g l = length l.left

abbrev pub invariant-loop-wire : goal.invariant-loop-wire
invariant-loop-wire g l =
    Going (flat_map spec.wire_line l.fn.wires) (flat_map spec.wire_line l.left) l.fn.buffer l.buffer (g.S.Sink.writing l.fn.sink) (g.S.Sink.writing l.sink)
