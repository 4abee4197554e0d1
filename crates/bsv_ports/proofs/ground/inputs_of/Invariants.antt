use Rattle.std.proofs.Common.{◌≡◌, ◌++◌, map, length}
use Rattle.bsv_design.specs.scheme.Schemes.{outline}
use Rattle.bsv_clock.specs.Shows.{input_widths_of}
use Rattle.bsv_ports.proofs.ground.inputs_of.Given as goal

abbrev pub invariant-loop-element : goal.invariant-loop-element
invariant-loop-element l =
    l.widths ++ input_widths_of (map outline l.rest) ≡ input_widths_of (map outline l.elements)

abbrev pub decreases-loop-element : goal.decreases-loop-element
decreases-loop-element l = length l.rest
