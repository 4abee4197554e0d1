use Rattle.bsv_graph.specs.Ready.{IsClear}
use Rattle.bsv_graph.proofs.least.first_before.Given as goal

abbrev pub invariant-loop-a : goal.invariant-loop-a
invariant-loop-a l = IsClear l.reach l.placed l.b l.a
