use Rattle.std.proofs.Common.{length}
use Rattle.bsv_trace.specs.Texts as texts
use Rattle.bsv_io.proofs.Adding.{Going}
use Rattle.bsv_trace.proofs.state.add_state.Given as goal

abbrev pub decreases-loop-instance : goal.decreases-loop-instance
decreases-loop-instance g l = length l.left

abbrev pub invariant-loop-instance : goal.invariant-loop-instance
invariant-loop-instance g l =
    Going (texts.state_lines l.fn.instances l.fn.parts) (texts.state_lines l.left l.held) l.fn.buffer l.buffer (g.S.Sink.writing l.fn.sink) (g.S.Sink.writing l.sink)
