use Rattle.std.proofs.Common.{◌≡◌, false, replicate}
use Rattle.bsv_modules.proofs.program.no_marks.Given as goal

abbrev pub invariant-loop-method : goal.invariant-loop-method
invariant-loop-method l = l.marks.items ≡ replicate l._method false
