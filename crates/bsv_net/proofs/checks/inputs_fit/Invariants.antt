use Rattle.std.proofs.Common.{◌≡◌, length}
use Rattle.std.specs.List.{list_all}
use Rattle.bsv_net.specs.Nets.{width_fits}
use Rattle.bsv_net.proofs.checks.inputs_fit.Given as goal

abbrev pub decreases-loop-width : goal.decreases-loop-width
decreases-loop-width l = length l.rest

abbrev pub invariant-loop-width : goal.invariant-loop-width
invariant-loop-width l = list_all width_fits l.rest ≡ list_all width_fits l.inputs
