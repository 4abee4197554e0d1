use Rattle.std.proofs.Common.{◌≡◌, None, replicate}
use Rattle.bsv_elab.proofs.places.no_places.Given as goal

abbrev pub invariant-loop-place : goal.invariant-loop-place
invariant-loop-place l = l.places ≡ replicate l._place None
