-- The simulator beside the serial engine: its start, and its clocks.
use Rattle.std.proofs.Common.{◌≡◌, List, length, map, sym, subst}
use Rattle.bsv_prim.specs.declared.part.Part.{Part}
use Rattle.bsv_design.specs.declared.design.Design.{Design}
use Rattle.bsv_design.specs.declared.kind.Kind.{Kind}
use Rattle.bsv_design.specs.scheme.Rooms.{HasRoom}
use Rattle.bsv_design.specs.scheme.Schemes.{design_scheme, kinds_of}
use Rattle.bsv_design.specs.scheme.Seen.{asking, design_data}
use Rattle.bsv_design.specs.scheme.States.{AskingFits, FitsKinds, opening}
use Rattle.bsv_clock.specs.Shows.{Shows, cell, cells_of}
use Rattle.bsv_clock.proofs.OneRun.{opening_fits}
use Rattle.bsv_net.specs.AtHand.{net_data}
use Rattle.bsv_net.specs.declared.net.Net.{Net}
use Rattle.bsv_share.specs.Sharing.{CarriesSame, NamesSame}
use Rattle.bsv_sim.specs.Simulation.{CanClock, IsClockOf, IsShown, IsSimulated, net_of, registers_of}
use Rattle.bsv_flow.specs.Running.{BelongTogether}
use Rattle.bsv_flow.specs.declared.scheduling.Compiled.{Compiled}
use Rattle.bsv_flow.proofs.SharedNets.{names_shared}
use Rattle.bsv_flow.proofs.VerilogOfTree.{registers_there}
use Rattle.bsv_lockstep.specs.Running.{CarriesDesign, FitsRun}
use Rattle.bsv_lockstep.specs.declared.clocks.Run.{Run}

-- ---- the start

-- a net without repeats is hardware of what was compiled, as the one with repeats is
pub simulated_by : (c : Compiled) (old new : Net) → BelongTogether c → CarriesDesign c old → CarriesSame old new → NamesSame (net_data old) (net_data new)
    → IsSimulated c.design c.schedule new
simulated_by c old new together carried carries names = record {
  rules = together.rules;
  schedule = together.schedule;
  carries = carries _ _ _ carried.carries;
  results = names_shared (design_scheme (design_data c.design)) (net_data old) (net_data new) names carried.results;
}

pub begins : (c : Compiled) (r : Run) (n : Net) → IsSimulated c.design c.schedule n → net_of r.sim ≡ n
    → ((ks : List Kind) → map cell n.registers ≡ cells_of ks → Shows ks (opening ks) (registers_of r.sim))
    → r.state.parts.items ≡ opening (kinds_of (design_data c.design)) → AskingFits c.design.elements (asking r.requests)
    → HasRoom (length c.design.elements) r.fired → HasRoom (length c.design.elements) r.told → FitsRun c r
begins c r n simulated net shows state asks room told =
    let ks = kinds_of (design_data c.design) in
    record {
      parts = subst (FitsKinds ks) (sym state) (opening_fits ks);
      requests = asks;
      room = room;
      simulated = subst (IsSimulated c.design c.schedule) (sym net) simulated;
      held = opening ks;
      held_fits = opening_fits ks;
      shows = shows ks (registers_there c.design c.schedule n simulated.carries);
      told = told;
    }

-- ---- a clock

module _ (c : Compiled) (old : Run) (fits : FitsRun c old) where
  shown : IsShown c.design (asking old.requests) fits.held (registers_of old.sim)
  shown = record { requests = fits.requests; parts = fits.held_fits; shows = fits.shows }

  pub can_clock : CanClock old.sim c.schedule (asking old.requests) old.told
  can_clock = record {
    design = c.design;
    state = fits.held;
    simulated = fits.simulated;
    shown = shown;
    room = fits.told;
  }

  pub fits_after : (new : Run) → net_of new.sim ≡ net_of old.sim
      → ((e : Design) (s : List Part) → IsSimulated e c.schedule (net_of old.sim) → IsShown e (asking old.requests) s (registers_of old.sim)
      → IsClockOf e c.schedule (asking old.requests) s new.told (registers_of new.sim))
      → asking new.requests ≡ asking old.requests → FitsKinds (kinds_of (design_data c.design)) new.state.parts.items
      → HasRoom (length c.design.elements) new.fired → HasRoom (length c.design.elements) new.told → FitsRun c new
  fits_after new net clock asks parts room told =
      let after = clock c.design fits.held fits.simulated shown in
      record {
        parts = parts;
        requests = subst (AskingFits c.design.elements) (sym asks) fits.requests;
        room = room;
        simulated = subst (IsSimulated c.design c.schedule) (sym net) fits.simulated;
        held = after.after;
        held_fits = after.fits;
        shows = after.shows;
        told = told;
      }
