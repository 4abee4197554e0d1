-- What the definitions see of what the code has at hand.
use Rattle.std.specs.Prelude.{List, map}
use Rattle.bsv_design.specs.declared.design.NamedPart.{NamedPart}
use Rattle.bsv_design.specs.declared.kind.Kind.{Kind}
use Rattle.bsv_fire.specs.declared.body.Pieces.{Pieces}
use Rattle.bsv_fire.specs.declared.net_so_far.NetSoFar.{NetSoFar}
use Rattle.bsv_fire.specs.declared.builder.FireBuilder.{FireBuilder as GrowingAtHand}
use Rattle.bsv_fire.specs.Grounds.{Base, Ground}
use Rattle.bsv_fire.specs.FireBuilder.{FireBuilder}

abbrev pub kinds : List NamedPart → List Kind
kinds ps = map (λ p. p.kind) ps

abbrev pub base : Pieces → Base
base p = record { kinds = kinds p.parts.now; registers = p.registers.now; none = p.none }

abbrev pub ground : GrowingAtHand → Ground
ground g = record {
  base = record { kinds = kinds g.design.now.parts; registers = g.registers.now; none = g.none };
  elements = g.design.now.elements;
  needs = g.guards.now.needs;
  stops = g.schedule.now.stops;
  call_sites = g.call_sites.now;
  inputs = g.inputs.now;
}

abbrev pub net_so_far : NetSoFar → FireBuilder
net_so_far d = record {
  nodes = d.nodes;
  ports = d.ports.items;
  stoppers = d.stoppers.items;
  fires = d.fires.items;
  readies = d.readies.items;
  results = d.results.items;
  sites = d.sites.items;
}
