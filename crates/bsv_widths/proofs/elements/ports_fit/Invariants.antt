use Rattle.std.proofs.Common.{◌≡◌, length}
use Rattle.std.specs.List.{list_all}
use Rattle.bsv_design.specs.design.Widths.{port_fits}
use Rattle.bsv_widths.proofs.elements.ports_fit.Given as goal

abbrev pub decreases-loop-port : goal.decreases-loop-port
decreases-loop-port l = length l.rest

abbrev pub invariant-loop-port : goal.invariant-loop-port
invariant-loop-port l = list_all port_fits l.rest ≡ list_all port_fits l.ports
