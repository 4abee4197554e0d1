use Rattle.std.proofs.Common.{length}
use Rattle.bsv_guard.specs.Fitting.{HaveWidths}
use Rattle.bsv_engine.proofs.tests.have_widths.Given as goal

abbrev pub decreases-loop-width : goal.decreases-loop-width
decreases-loop-width l = length l.rest

abbrev pub invariant-loop-width : goal.invariant-loop-width
invariant-loop-width l = HaveWidths l.rest l.left → HaveWidths l.widths l.words
