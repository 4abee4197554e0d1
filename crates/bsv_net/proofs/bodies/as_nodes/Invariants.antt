use Rattle.std.proofs.Common.{◌≡◌, ◌++◌, length, map, IsTrue}
use Rattle.std.specs.List.{list_all}
use Rattle.bsv_net.specs.Nets.{is_within, as_node}
use Rattle.bsv_net.proofs.bodies.as_nodes.Given as goal

abbrev pub decreases-loop-node : goal.decreases-loop-node
decreases-loop-node l = length l.rest

abbrev pub invariant-loop-node : goal.invariant-loop-node
invariant-loop-node l = record {
  within : IsTrue (list_all (is_within l.inputs l.registers) l.rest);
  placed : l.found ++ map (as_node l.inputs) l.rest ≡ map (as_node l.inputs) l.nodes;
}
