use Rattle.std.proofs.Common.{◌≡◌, [], length}
use Rattle.bsv_ports.specs.Ports.{all_picked}
use Rattle.bsv_ports.proofs.ports.pick_all.Given as goal

abbrev pub invariant-loop-one : goal.invariant-loop-one
invariant-loop-one l = all_picked l.nodes l.live l.places l.firsts l.seconds ≡ all_picked l.initial.nodes l.live [] l.first l.second

abbrev pub decreases-loop-one : goal.decreases-loop-one
decreases-loop-one l = length l.firsts
