use Rattle.std.proofs.Common.{length}
use Rattle.std.specs.List.{flat_map}
use Rattle.bsv_trace.specs.Texts as texts
use Rattle.bsv_io.proofs.Adding.{Going}
use Rattle.bsv_trace.proofs.report.add_stopped.Given as goal

abbrev pub decreases-loop-pair : goal.decreases-loop-pair
decreases-loop-pair g l = length l.left

abbrev pub invariant-loop-pair : goal.invariant-loop-pair
invariant-loop-pair g l =
    let named = texts.name_at l.elements in
    Going (flat_map (texts.stopped_line named) l.fn.stopped) (flat_map (texts.stopped_line named) l.left) l.fn.buffer l.buffer (g.S.Sink.writing l.fn.sink) (g.S.Sink.writing l.sink)
