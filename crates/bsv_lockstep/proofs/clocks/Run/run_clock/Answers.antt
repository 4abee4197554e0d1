use Rattle.std.proofs.Common.{refl}
use Rattle.bsv_lockstep.specs.declared.clocks.Run.{Run}
use Rattle.bsv_lockstep.proofs.Simulating.{can_clock, fits_after}
use Rattle.bsv_lockstep.proofs.clocks.Run.run_clock.Goals as goal

pub clock-requires : goal.clock-requires
clock-requires c = ∣ can_clock c.args.compiled.now c.args.self.now c.requires.fits ∣₁

pub returns : goal.returns
returns c =
    let old : Run = c.args.self.now in
    let new : Run = record { state = c.clock-2.new.state; requests = old.requests; fired = c.clock-2.new.fired; sim = c.clock.new.self; told = c.clock.new.fired } in
    record {
      fits = fits_after c.args.compiled.now old c.requires.fits new c.clock.ensures.net c.clock.ensures.happens refl
          c.clock-2.ensures.fits c.clock-2.ensures.room (c.clock.ensures.room _ c.requires.fits.told);
    }
