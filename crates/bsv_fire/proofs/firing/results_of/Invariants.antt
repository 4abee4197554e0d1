use Rattle.std.proofs.Common.{◌≡◌, map, take}
use Rattle.std.specs.Prelude.{unwrap_or}
use Rattle.bsv_fire.proofs.firing.results_of.Given as goal

abbrev pub invariant-loop-given : goal.invariant-loop-given
invariant-loop-given l = l.found ≡ map (λ o. unwrap_or o l.count) (take l.given-index l.results)
