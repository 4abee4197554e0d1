use Rattle.std.proofs.Common.{◌≡◌, []}
use Rattle.bsv_design.specs.parts.Kinds.{kind_table}
use Rattle.bsv_graph.specs.Edges.{numbers_below}
use Rattle.bsv_mux.specs.AtHand as hand
use Rattle.bsv_mux.specs.Nexts.{ports}
use Rattle.bsv_mux.proofs.parts.Muxing.ports.Given as goal

abbrev pub invariant-loop-method : goal.invariant-loop-method
invariant-loop-method l =
    ports (hand.told l.self) (kind_table l.kind) l.call_sites l.initial.nodes [] (numbers_below l.method)
    ≡ record { nodes = l.nodes; ports = l.ports }
