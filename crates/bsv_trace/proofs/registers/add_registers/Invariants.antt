use Rattle.std.proofs.Common.{List, length}
use Rattle.bsv_prim.specs.declared.part.Part.{Part}
use Rattle.bsv_trace.specs.Shown.{ShowParts}
use Rattle.bsv_trace.specs.Texts as texts
use Rattle.bsv_trace.proofs.ShownLines.{LinesLeft}
use Rattle.bsv_trace.proofs.registers.add_registers.Given as goal

abbrev pub decreases-loop-instance : goal.decreases-loop-instance
decreases-loop-instance g l = length l.left

abbrev pub invariant-loop-instance : goal.invariant-loop-instance
invariant-loop-instance g l =
    (ps : List Part) → ShowParts l.fn.instances l.fn.registers ps
    → LinesLeft (texts.state_lines l.fn.instances ps) l.left l.held l.fn.buffer l.buffer (g.S.Sink.writing l.fn.sink) (g.S.Sink.writing l.sink)
