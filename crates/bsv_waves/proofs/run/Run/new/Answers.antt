use Rattle.std.proofs.Common.{sym, subst}
use Rattle.bsv_design.specs.scheme.Schemes.{kinds_of}
use Rattle.bsv_design.specs.scheme.Seen.{design_data}
use Rattle.bsv_design.specs.scheme.States.{opening}
use Rattle.bsv_clock.proofs.OneRun.{opening_fits}
use Rattle.bsv_sim.specs.Simulation.{IsSimulated}
use Rattle.bsv_flow.proofs.VerilogOfTree.{registers_there}
use Rattle.bsv_waves.proofs.run.Run.new.Goals as goal

-- the simulator's net is that of the design, and its registers show the opening
pub returns : goal.returns
returns c =
    let d = c.args.compiled.design in
    let made = c.args.compiled.schedule in
    let net = c.args.compiled.net in
    let ks = kinds_of (design_data d) in
    let room = c.in_ok-fired.ensures in
    let simulated : IsSimulated d made net = record {
      rules = c.requires.rules;
      schedule = c.requires.schedule;
      carries = c.requires.carries;
      results = c.requires.results;
    } in
    record {
      parts = opening ks;
      simulated = subst (IsSimulated d made) (sym c.in_ok-sim.ensures.net) simulated;
      shown = record {
        requests = c.in_ok-requests.ensures.fit;
        parts = opening_fits ks;
        shows = c.in_ok-sim.ensures.opening ks (registers_there d made net c.requires.carries);
      };
      room = record { list = room.list_room; stopped = room.stopped_room; blocked = room.blocked_room; results = room.results_room };
    }
