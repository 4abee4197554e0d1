use Rattle.std.proofs.Common.{length}
use Rattle.bsv_trace.specs.Texts as texts
use Rattle.bsv_io.proofs.Adding.{Going}
use Rattle.bsv_trace.proofs.text.add_names.Given as goal

abbrev pub decreases-loop-place : goal.decreases-loop-place
decreases-loop-place g l = length l.left

abbrev pub invariant-loop-place : goal.invariant-loop-place
invariant-loop-place g l =
    let named = texts.name_at l.elements in
    Going (texts.names named l.fn.places) (texts.names named l.left) l.fn.buffer l.buffer (g.S.Sink.writing l.fn.sink) (g.S.Sink.writing l.sink)
