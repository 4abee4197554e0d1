use Rattle.std.proofs.Common.{◌≡◌, ◌<◌, length}
use Rattle.std.specs.Prelude.{IsTrue}
use Rattle.bsv_graph.specs.Table.{Adds, side_of}
use Rattle.bsv_schedule.specs.relating.Rows.{mark_at}
use Rattle.bsv_schedule.proofs.relating.relations.table_of.Given as goal

abbrev pub invariant-loop-a : goal.invariant-loop-a
invariant-loop-a l = record {
  side : side_of l.table ≡ length l.rows;
  adds : Adds l.initial.table l.table (λ x y. (x < l.a) × IsTrue (mark_at l.relation l.rows x y));
}
