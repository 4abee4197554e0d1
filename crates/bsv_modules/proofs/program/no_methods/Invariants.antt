use Rattle.std.proofs.Common.{◌≡◌, None, replicate}
use Rattle.bsv_modules.proofs.program.no_methods.Given as goal

abbrev pub invariant-loop-method : goal.invariant-loop-method
invariant-loop-method l = l.places.items ≡ replicate l._method None
