-- A net with other nodes, and what it gives at other places among them.
use Rattle.std.specs.Prelude.{ℕ, List, [], map, length, slice_get, Option, Some, None}
use Rattle.bsv_net.specs.declared.net_data.NetData.{NetData}
use Rattle.bsv_net.specs.declared.node.NetNode.{NetNode}

abbrev pub or_none : ℕ → Option ℕ → ℕ
or_none none None = none
or_none none (Some k) = k

abbrev pub place_or : List ℕ → ℕ → ℕ → ℕ
place_or places none k = or_none none (slice_get places k)

abbrev pub with_nodes : NetData → List NetNode → List ℕ → NetData
with_nodes c nodes places = record {
  inputs = c.inputs;
  registers = c.registers;
  nodes = nodes;
  nexts = map (place_or places (length nodes)) c.nexts;
  fires = map (place_or places (length nodes)) c.fires;
  readies = map (place_or places (length nodes)) c.readies;
  results = map (place_or places (length nodes)) c.results;
  sites = [];
}
