use Rattle.std.proofs.Common.{length}
use Rattle.std.specs.List.{flat_map}
use Rattle.bsv_trace.specs.Texts as texts
use Rattle.bsv_io.proofs.Adding.{Going}
use Rattle.bsv_trace.proofs.report.add_results.Given as goal

abbrev pub decreases-loop-gave : goal.decreases-loop-gave
decreases-loop-gave g l = length l.left

abbrev pub invariant-loop-gave : goal.invariant-loop-gave
invariant-loop-gave g l =
    let named = texts.name_at l.elements in
    Going (flat_map (texts.result_line named) l.fn.results) (flat_map (texts.result_line named) l.left) l.fn.buffer l.buffer (g.S.Sink.writing l.fn.sink) (g.S.Sink.writing l.sink)
