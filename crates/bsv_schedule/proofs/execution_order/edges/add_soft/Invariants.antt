use Rattle.std.proofs.Common.{◌≡◌, ◌++◌}
use Rattle.bsv_graph.specs.Edges.{edges_from}
use Rattle.bsv_schedule.specs.relating.Relating.{is_soft}
use Rattle.bsv_schedule.specs.relating.Relations.{relating_of}
use Rattle.bsv_schedule.proofs.execution_order.edges.add_soft.Given as goal

abbrev pub invariant-loop-b : goal.invariant-loop-b
invariant-loop-b l = l.edges ≡ l.initial.edges ++ edges_from (is_soft (relating_of l.relations)) l.b l.a
