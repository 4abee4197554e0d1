use Rattle.std.proofs.Common.{◌≡◌, length}
use Rattle.std.specs.List.{list_all}
use Rattle.bsv_net.specs.Nets.{is_within}
use Rattle.bsv_net.proofs.checks.are_within.Given as goal

abbrev pub decreases-loop-node : goal.decreases-loop-node
decreases-loop-node l = length l.rest

abbrev pub invariant-loop-node : goal.invariant-loop-node
invariant-loop-node l = list_all (is_within l.inputs l.registers) l.rest ≡ list_all (is_within l.inputs l.registers) l.nodes
