use Rattle.std.proofs.Common.{ℕ, ◌<◌}
use Rattle.std.specs.Prelude.{IsTrue}
use Rattle.bsv_graph.specs.Table.{at}
use Rattle.bsv_graph.proofs.graph.Graph.least_on_cycle.Given as goal

abbrev pub invariant-loop-a : goal.invariant-loop-a
invariant-loop-a l = (b : ℕ) → b < l.a → ¬ IsTrue (at l.self.reach b b)
