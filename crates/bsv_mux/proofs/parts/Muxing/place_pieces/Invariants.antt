use Rattle.std.proofs.Common.{◌≡◌}
use Rattle.bsv_design.specs.parts.Kinds.{kind_table}
use Rattle.bsv_graph.specs.Edges.{numbers_below}
use Rattle.bsv_net.specs.AtHand.{wires}
use Rattle.bsv_mux.specs.AtHand as hand
use Rattle.bsv_mux.specs.Nexts.{pieces}
use Rattle.bsv_mux.proofs.parts.Muxing.place_pieces.Given as goal

abbrev pub invariant-loop-number : goal.invariant-loop-number
invariant-loop-number l =
    pieces (hand.told l.self) (kind_table l.kind) (wires l.found) l.initial.nodes l.initial.nexts (numbers_below l.number)
    ≡ record { nodes = l.nodes; places = l.nexts }
