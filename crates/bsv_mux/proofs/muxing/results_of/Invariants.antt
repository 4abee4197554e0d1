use Rattle.std.proofs.Common.{◌≡◌, map, take}
use Rattle.bsv_mux.specs.Nexts.{renamed}
use Rattle.bsv_mux.proofs.muxing.results_of.Given as goal

abbrev pub invariant-loop-place : goal.invariant-loop-place
invariant-loop-place l = l.found ≡ map (renamed l.before l.behind) (take l.place-index l.results)
