use Rattle.std.proofs.Common.{◌≡◌}
use Rattle.bsv_graph.specs.Growing.{IsClosed}
use Rattle.bsv_graph.specs.Table.{Adds}
use Rattle.bsv_graph.proofs.TableLemmas.{GrownBelow}
use Rattle.bsv_graph.proofs.reach.grow.Given as goal

abbrev pub invariant-loop-x : goal.invariant-loop-x
invariant-loop-x l =
    (l.reach.side ≡ l.initial.reach.side)
    × (IsClosed l.initial.reach → Adds l.initial.reach l.reach (GrownBelow l.initial.reach l.x l.from l.to))
