use Rattle.std.proofs.Common.{◌≡◌, ◌++◌, length}
use Rattle.bsv_net.specs.AtHand.{net_data}
use Rattle.bsv_vgen.specs.Modules.{outputs_from}
use Rattle.bsv_vgen.proofs.told_wires.add_outputs.Given as goal

abbrev pub invariant-loop-method : goal.invariant-loop-method
invariant-loop-method l = l.assigns ++ outputs_from l.known (net_data l.net) l.number l.rest ≡ l.initial.assigns ++ outputs_from l.known (net_data l.net) 0 l.methods

abbrev pub decreases-loop-method : goal.decreases-loop-method
decreases-loop-method l = length l.rest
