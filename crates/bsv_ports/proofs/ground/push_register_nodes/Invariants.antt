use Rattle.std.proofs.Common.{◌≡◌, ◌++◌, map}
use Rattle.bsv_graph.specs.Edges.{numbers_below}
use Rattle.bsv_net.specs.declared.node.NetNode.TheVariants as net
use Rattle.bsv_ports.proofs.ground.push_register_nodes.Given as goal

abbrev pub invariant-loop-number : goal.invariant-loop-number
invariant-loop-number l = l.nodes ≡ l.initial.nodes ++ map net.Register (numbers_below l.number)
