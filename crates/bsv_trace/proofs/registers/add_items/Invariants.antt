use Rattle.std.proofs.Common.{◌≡◌, drop, length}
use Rattle.bsv_prim.specs.QueueState.{QueueState}
use Rattle.bsv_prim.specs.declared.part.Part.TheVariants as part
use Rattle.bsv_design.specs.parts.Printed.{ShowPart}
use Rattle.bsv_trace.specs.Texts as texts
use Rattle.bsv_io.proofs.Adding.{Going}
use Rattle.bsv_trace.proofs.registers.add_items.Given as goal

abbrev pub invariant-loop-number : goal.invariant-loop-number
invariant-loop-number g l =
    (q : QueueState) → ShowPart l.fn.kind l.fn.registers (part.Queue q) → l.fn.count ≡ length q.items
    → Going (texts.words_from 0 q.items) (texts.words_from l.number (drop l.number q.items)) l.fn.buffer l.buffer (g.S.Sink.writing l.fn.sink) (g.S.Sink.writing l.sink)
