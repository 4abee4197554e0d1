use Rattle.std.proofs.Common.{◌≡◌, take}
use Rattle.std.specs.Prelude.{IsTrue}
use Rattle.std.specs.List.{list_any}
use Rattle.bsv_schedule.specs.relating.Elements.{preempts}
use Rattle.bsv_graph.specs.Table.{Adds, side_of}
use Rattle.bsv_schedule.proofs.relating.relations.preempts_of.Given as goal

abbrev pub invariant-loop-pair : goal.invariant-loop-pair
invariant-loop-pair l = record {
  side : side_of l.table ≡ l.count;
  adds : Adds l.initial.table l.table (λ a b. IsTrue (list_any (preempts a b) (take l.pair-index l.pairs)));
}
