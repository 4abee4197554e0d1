-- What the definitions see of what the code has at hand.
use Rattle.std.specs.Prelude.{ℕ, ◌==◌, List, [], slice_get, Option, Some, None, if◌then◌else◌}
use Rattle.bsv_net.specs.declared.net.Net.{Net}
use Rattle.bsv_net.specs.declared.wires.MethodPort.{MethodPort}
use Rattle.bsv_net.specs.declared.wires.Wires.{Wires}
use Rattle.bsv_net.specs.declared.net_data.NetData.{NetData}
use Rattle.bsv_net.specs.Placing as placing
use Rattle.bsv_net.specs.Placing.{node_at}

-- the nodes of a method, where they are placed
abbrev pub placed : Option (Option MethodPort) → Option MethodPort
placed None = None
placed (Some o) = o

abbrev pub called_in : Option MethodPort → ℕ
called_in None = 0
called_in (Some p) = p.called

abbrev pub args_in : Option MethodPort → List ℕ
args_in None = []
args_in (Some p) = p.args

-- where a piece of a part finds its words: the part's registers from this node on, the nodes of its methods, and beside them
-- those of the arguments of one method
abbrev pub wires_with : ℕ → List (Option MethodPort) → ℕ → List ℕ → placing.Wires
wires_with registers ports own args = record {
  registers = registers;
  called = λ m. called_in (placed (slice_get ports m));
  argument = λ m k. if m == own then node_at args k else node_at (args_in (placed (slice_get ports m))) k;
}

abbrev pub wires : Wires → placing.Wires
wires w = wires_with w.registers w.ports.now w.own w.own_args.now

abbrev pub net_data : Net → NetData
net_data n = record {
  inputs = n.inputs;
  registers = n.registers;
  nodes = n.nodes;
  nexts = n.nexts;
  fires = n.fires;
  readies = n.readies;
  results = n.results;
  sites = n.sites;
}
