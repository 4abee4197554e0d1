-- A run, clock by clock.
use Rattle.std.specs.Prelude.{false, List, length}
use Rattle.bsv_prim.specs.declared.part.Part.{Part}
use Rattle.bsv_design.specs.scheme.Schemes.{design_scheme, kinds_of}
use Rattle.bsv_design.specs.scheme.Seen.{asking, design_data}
use Rattle.bsv_design.specs.scheme.States.{AskingFits, FitsKinds}
use Rattle.bsv_design.specs.scheme.Rooms.{HasRoom}
use Rattle.bsv_clock.specs.Shows.{Shows}
use Rattle.bsv_net.specs.AtHand.{net_data}
use Rattle.bsv_net.specs.ShowsByNet.{NamesResults, NetCarries}
use Rattle.bsv_net.specs.declared.net.Net.{Net}
use Rattle.bsv_flow.specs.declared.scheduling.Compiled.{Compiled}
use Rattle.bsv_sim.specs.Simulation.{IsSimulated, net_of, registers_of}
use Rattle.bsv_lockstep.specs.declared.clocks.Run.{Run}

-- a net carries what was compiled, and names a node for each result
pub record CarriesDesign (c : Compiled) (n : Net) : Type 0 where
  pub carries : NetCarries false (design_scheme (design_data c.design)) c.schedule n
  pub results : NamesResults (design_scheme (design_data c.design)) (net_data n)

-- a run fits what was compiled: the serial engine's state and the requests fit, and the registers of the simulator show a state
pub record FitsRun (c : Compiled) (r : Run) : Type 0 where
  pub parts : FitsKinds (kinds_of (design_data c.design)) r.state.parts.items
  pub requests : AskingFits c.design.elements (asking r.requests)
  pub room : HasRoom (length c.design.elements) r.fired
  pub simulated : IsSimulated c.design c.schedule (net_of r.sim)
  pub held : List Part
  pub held_fits : FitsKinds (kinds_of (design_data c.design)) held
  pub shows : Shows (kinds_of (design_data c.design)) held (registers_of r.sim)
  pub told : HasRoom (length c.design.elements) r.told
