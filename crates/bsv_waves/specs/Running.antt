-- A run fits its design: the net carries it, the registers show a state of it, and there is room for what is told.
use Rattle.std.specs.Prelude.{List, length}
use Rattle.bsv_prim.specs.declared.part.Part.{Part}
use Rattle.bsv_design.specs.scheme.Rooms.{HasRoom}
use Rattle.bsv_design.specs.scheme.Seen.{asking}
use Rattle.bsv_sim.specs.Simulation.{IsShown, IsSimulated, net_of, registers_of}
use Rattle.bsv_waves.specs.declared.run.Run.{Run}

pub record FitsRun (r : Run) : Type 0 where
  pub parts : List Part
  pub simulated : IsSimulated r.design r.schedule (net_of r.sim)
  pub shown : IsShown r.design (asking r.requests) parts (registers_of r.sim)
  pub room : HasRoom (length r.design.elements) r.fired
