use Rattle.std.proofs.Common.{◌≡◌, ◌<◌}
use Rattle.std.specs.Prelude.{IsTrue}
use Rattle.bsv_graph.specs.Table.{Adds}
use Rattle.bsv_schedule.specs.relating.Rows.{mark}
use Rattle.bsv_schedule.proofs.relating.relations.copy_row.Given as goal

abbrev pub invariant-loop-b : goal.invariant-loop-b
invariant-loop-b l = Adds l.initial.table l.table (λ x y. (x ≡ l.a) × (y < l.b) × IsTrue (mark l.marks y))
