use Rattle.std.proofs.Common.{sym, subst}
use Rattle.bsv_design.specs.scheme.Seen.{asking}
use Rattle.bsv_sim.specs.Simulation.{IsShown, IsSimulated, registers_of}
use Rattle.bsv_waves.proofs.run.Run.clock.Goals as goal

-- what is asked is of the design, and the rest is as it was
pub clock-requires : goal.clock-requires
clock-requires c =
    let fits = c.requires in
    ∣ record {
      design = c.args.self.now.design;
      state = fits.parts;
      simulated = fits.simulated;
      shown = record { requests = c.in_ok-line.ensures.fits; parts = fits.shown.parts; shows = fits.shown.shows };
      room = fits.room;
    } ∣₁

-- the registers show the state after the clock
pub returns : goal.returns
returns c =
    let d = c.args.self.now.design in
    let fits = c.requires in
    let shown : IsShown d (asking c.line.new.requests) fits.parts (registers_of c.args.self.now.sim) = record { requests = c.in_ok-line.ensures.fits; parts = fits.shown.parts; shows = fits.shown.shows } in
    let after = c.clock.ensures.happens d fits.parts fits.simulated shown in
    record {
      parts = after.after;
      simulated = subst (IsSimulated d c.args.self.now.schedule) (sym c.clock.ensures.net) fits.simulated;
      shown = record { requests = c.in_ok-line.ensures.fits; parts = after.fits; shows = after.shows };
      room = c.clock.ensures.room _ fits.room;
    }
