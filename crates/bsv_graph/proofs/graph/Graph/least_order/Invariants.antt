use Rattle.std.proofs.Common.{◌≡◌, List, []}
use Rattle.bsv_graph.specs.declared.edge.Edge.{Edge}
use Rattle.bsv_graph.specs.Reaching.{Marks}
use Rattle.bsv_graph.specs.Ready.{AreClear}
use Rattle.bsv_graph.specs.Table.{side_of}
use Rattle.bsv_graph.proofs.LeastLemmas.{IsFilled, IsGreedy}
use Rattle.bsv_graph.proofs.graph.Graph.least_order.Given as goal

abbrev pub invariant-loop : goal.invariant-loop
invariant-loop l = record {
  side : l.side ≡ side_of l.self.reach;
  filled : IsFilled (side_of l.self.reach) l.placed.items l.order l.counter;
  clear : AreClear l.self.reach l.placed.items l.waits.items;
  greedy : (es : List Edge) → Marks es l.self.reach → IsGreedy es (side_of l.self.reach) [] l.order;
}
