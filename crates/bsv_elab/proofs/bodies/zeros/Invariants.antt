use Rattle.std.proofs.Common.{◌≡◌, replicate}
use Rattle.bsv_elab.proofs.bodies.zeros.Given as goal

abbrev pub invariant-loop-more : goal.invariant-loop-more
invariant-loop-more l = l.found ≡ replicate l._more 0
