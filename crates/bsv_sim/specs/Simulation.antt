-- A simulator of a net, and what its clock is: the clock of the design that the net carries.
use Rattle.std.specs.Prelude.{false, List, length}
use Rattle.bsv_bits.specs.Words.{Bits}
use Rattle.bsv_prim.specs.declared.part.Part.{Part}
use Rattle.bsv_design.specs.declared.design.Design.{Design}
use Rattle.bsv_design.specs.declared.fired.Fired.{Fired}
use Rattle.bsv_design.specs.declared.schedule.Schedule.{Schedule}
use Rattle.bsv_design.specs.scheme.Rooms.{HasRoom}
use Rattle.bsv_design.specs.scheme.Schemes.{Asking, design_scheme, kinds_of}
use Rattle.bsv_design.specs.scheme.Seen.{design_data}
use Rattle.bsv_design.specs.scheme.States.{AskingFits, FitsKinds}
use Rattle.bsv_clock.specs.Events.{Happens}
use Rattle.bsv_clock.specs.Grounds.{IsScheduleOf, KeepsRules}
use Rattle.bsv_clock.specs.Shows.{Shows}
use Rattle.bsv_net.specs.declared.net.Net.{Net}
use Rattle.bsv_net.specs.AtHand.{net_data}
use Rattle.bsv_net.specs.ShowsByNet.{NamesResults, NetCarries}
use Rattle.bsv_sim.specs.declared.sim.Sim.{Sim}

-- the net that is run
abbrev pub net_of : Sim → Net
net_of sim = sim.net

-- the words of its registers
abbrev pub registers_of : Sim → List Bits
registers_of sim = sim.registers.items

-- ---- what a clock needs

-- the net carries the design and names a node for each result, and the schedule is that of the design
pub record IsSimulated (d : Design) (made : Schedule) (n : Net) : Type 0 where
  pub rules : KeepsRules (design_scheme (design_data d))
  pub schedule : IsScheduleOf (design_scheme (design_data d)) made
  pub carries : NetCarries false (design_scheme (design_data d)) made n
  pub results : NamesResults (design_scheme (design_data d)) (net_data n)

-- the requests are of the design, and these words of the registers show a state of it
pub record IsShown (d : Design) (q : Asking) (s : List Part) (ws : List Bits) : Type 0 where
  pub requests : AskingFits d.elements q
  pub parts : FitsKinds (kinds_of (design_data d)) s
  pub shows : Shows (kinds_of (design_data d)) s ws

-- so it is of some design and some state, and there is room for what is told of each element
pub record CanClock (sim : Sim) (made : Schedule) (q : Asking) (f : Fired) : Type 0 where
  pub design : Design
  pub state : List Part
  pub simulated : IsSimulated design made (net_of sim)
  pub shown : IsShown design q state (registers_of sim)
  pub room : HasRoom (length design.elements) f

-- ---- what a clock is

-- all that happens in a clock from the state is told, and the registers show the state after it
pub record IsClockOf (d : Design) (made : Schedule) (q : Asking) (s : List Part) (f : Fired) (ws : List Bits) : Type 0 where
  pub after : List Part
  pub happens : Happens false (design_scheme (design_data d)) made q s f after
  pub fits : FitsKinds (kinds_of (design_data d)) after
  pub shows : Shows (kinds_of (design_data d)) after ws
