use Rattle.std.proofs.Common.{◌≡◌}
use Rattle.bsv_graph.specs.Edges.{numbers_below}
use Rattle.bsv_fire.specs.AtHand as hand
use Rattle.bsv_fire.specs.FireBuilder.{with_seen}
use Rattle.bsv_fire.proofs.builder.FireBuilder.place_seen.Given as goal

abbrev pub invariant-loop-method : goal.invariant-loop-method
invariant-loop-method l =
    hand.net_so_far l.net_so_far
    ≡ with_seen (hand.ground l.self) l.kind l.part l.by (hand.net_so_far l.initial.net_so_far) (numbers_below l.method)
