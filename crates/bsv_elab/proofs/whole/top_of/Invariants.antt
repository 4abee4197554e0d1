use Rattle.std.proofs.Common.{◌≡◌, ◌+◌, length}
use Rattle.bsv_elab.specs.Building as spec
use Rattle.bsv_elab.proofs.whole.top_of.Given as goal

abbrev pub decreases-loop-module : goal.decreases-loop-module
decreases-loop-module l = length l.rest

abbrev pub invariant-loop-module : goal.invariant-loop-module
invariant-loop-module l = record {
  same : spec.top_from 0 l.name l.modules ≡ spec.top_from l.number l.name l.rest;
  counted : l.number + length l.rest ≡ length l.modules;
}
