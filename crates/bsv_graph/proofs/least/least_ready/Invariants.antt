use Rattle.std.proofs.Common.{ℕ, ◌<◌}
use Rattle.bsv_graph.specs.Ready.{IsReady, AreClear}
use Rattle.bsv_graph.proofs.least.least_ready.Given as goal

abbrev pub invariant-loop-b : goal.invariant-loop-b
invariant-loop-b l =
    ((k : ℕ) → k < l.b → ¬ IsReady l.reach l.placed k)
    × AreClear l.reach l.placed l.waits
