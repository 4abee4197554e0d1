use Rattle.std.proofs.Common.{◌≡◌, ◌++◌, map}
use Rattle.bsv_clock.specs.Shows.{cell, cell_of}
use Rattle.bsv_design.specs.parts.Kinds.{kind_table}
use Rattle.bsv_graph.specs.Edges.{numbers_below}
use Rattle.bsv_ports.proofs.ground.push_registers.Given as goal

abbrev pub invariant-loop-number : goal.invariant-loop-number
invariant-loop-number l =
    map cell l.registers ≡ map cell l.initial.registers ++ map (cell_of (kind_table l.part.kind)) (numbers_below l.number)
