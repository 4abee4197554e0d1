use Rattle.std.proofs.Common.{ℕ, ◌+◌, List, length, ap, ◌∙◌}
use Rattle.bsv_design.specs.scheme.Seen.{asking}
use Rattle.bsv_run.specs.declared.run.Run.{Run}
use Rattle.bsv_run.proofs.Clocking.{can_clock, clock_from, fits_after}
use Rattle.bsv_top.proofs.MadeRun.{fired_more, none_fired}
use Rattle.bsv_top.proofs.made.run_clocks.Goals as goal

pub loop-clock-init : goal.loop-clock-init
loop-clock-init c = record {
  fired = none_fired c.args.scheduled.now c.args.run.now c.requires.start;
  fits = c.requires.start.fits;
  nothing = c.requires.start.nothing;
}

pub clock-requires : goal.clock-requires
clock-requires c =
    let fits = c.loop-clock.invariant.fits in
    ∣ can_clock c.args.scheduled.now.design c.args.scheduled.now.schedule c.loop-clock.run fits (asking c.loop-clock.run.requests) fits.requests ∣₁

pub loop-clock-preserved : goal.loop-clock-preserved
loop-clock-preserved c =
    let d = c.args.scheduled.now in
    let old = c.loop-clock.run in
    let so_far = c.loop-clock.invariant in
    let new : Run = record { lines = old.lines; sim = c.clock.new.self; requests = old.requests; fired = c.clock.new.fired; writer = old.writer } in
    record {
      fired = fired_more d c.loop-clock._clock c.loop-clock.count _ old new (asking old.requests) so_far.fired so_far.nothing
          (clock_from d.design d.schedule old so_far.fits new so_far.fits.requests c.clock.ensures.happens _ so_far.fired.state)
          (c.in_ok-count.ensures ∙ ap (λ (n : ℕ). c.loop-clock.count + n) (ap (λ (xs : List ℕ). length xs) c.as_slice.ensures.value));
      fits = fits_after d.design d.schedule old so_far.fits new so_far.fits.requests c.clock.ensures.happens c.clock.ensures.net (c.clock.ensures.room _ so_far.fits.room);
      nothing = so_far.nothing;
    }
