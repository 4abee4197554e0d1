use Rattle.std.proofs.Common.{take}
use Rattle.bsv_guard.specs.Fitting.{HaveWidths}
use Rattle.bsv_net.specs.Nets.{register_widths}
use Rattle.bsv_share.proofs.fold.register_words.Given as goal

abbrev pub invariant-loop-register : goal.invariant-loop-register
invariant-loop-register l = HaveWidths (register_widths (take l.register-index l.registers)) l.words.items
