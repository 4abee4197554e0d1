use Rattle.std.proofs.Common.{length}
use Rattle.std.specs.List.{flat_map}
use Rattle.bsv_trace.specs.Texts as texts
use Rattle.bsv_io.proofs.Adding.{Going}
use Rattle.bsv_trace.proofs.report.add_blocked.Given as goal

abbrev pub decreases-loop-place : goal.decreases-loop-place
decreases-loop-place g l = length l.left

abbrev pub invariant-loop-place : goal.invariant-loop-place
invariant-loop-place g l =
    let named = texts.name_at l.elements in
    Going (flat_map (texts.blocked_line named) l.fn.blocked) (flat_map (texts.blocked_line named) l.left) l.fn.buffer l.buffer (g.S.Sink.writing l.fn.sink) (g.S.Sink.writing l.sink)
