use Rattle.std.proofs.Common.{◌≡◌, []}
use Rattle.bsv_design.specs.parts.Kinds.{kind_table}
use Rattle.bsv_graph.specs.Edges.{numbers_below}
use Rattle.bsv_ports.specs.Ports.{zeros}
use Rattle.bsv_ports.proofs.ports.zeros.Given as goal

abbrev pub invariant-loop-number : goal.invariant-loop-number
invariant-loop-number l =
    zeros (kind_table l.kind) l.method l.initial.nodes [] (numbers_below l.number) ≡ record { nodes = l.nodes; places = l.places }
