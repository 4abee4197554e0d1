use Rattle.std.proofs.Common.{List, length}
use Rattle.bsv_prim.specs.declared.part.Part.{Part}
use Rattle.bsv_trace.specs.Shown.{ShowParts}
use Rattle.bsv_top.specs.Made.{held_at}
use Rattle.bsv_top.proofs.HeldAt.{IsLeft}
use Rattle.bsv_top.proofs.made.held_at.Given as goal

abbrev pub decreases-loop-instance : goal.decreases-loop-instance
decreases-loop-instance l = length l.left

abbrev pub invariant-loop-instance : goal.invariant-loop-instance
invariant-loop-instance l =
    (ps : List Part) → ShowParts l.fn.instances l.fn.registers ps → IsLeft l.path (held_at l.path l.fn.instances ps) l.left l.held
