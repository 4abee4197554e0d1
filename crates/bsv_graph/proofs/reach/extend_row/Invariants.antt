use Rattle.std.proofs.Common.{◌≡◌, ◌<◌, ◌⊎◌}
use Rattle.std.specs.Prelude.{IsTrue}
use Rattle.bsv_graph.specs.Table.{at, Adds}
use Rattle.bsv_graph.proofs.reach.extend_row.Given as goal

abbrev pub invariant-loop-y : goal.invariant-loop-y
invariant-loop-y l =
    Adds l.initial.reach l.reach (λ x z. (x ≡ l.a) × (z < l.y) × ((z ≡ l.b) ⊎ IsTrue (at l.initial.reach l.b z)))
