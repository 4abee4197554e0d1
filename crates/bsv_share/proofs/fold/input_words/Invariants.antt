use Rattle.std.proofs.Common.{take}
use Rattle.bsv_guard.specs.Fitting.{HaveWidths}
use Rattle.bsv_share.proofs.fold.input_words.Given as goal

abbrev pub invariant-loop-width : goal.invariant-loop-width
invariant-loop-width l = HaveWidths (take l.width-index l.inputs) l.words.items
