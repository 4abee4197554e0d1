-- A lawful scheme whose schedule obeys the attributes has exactly one clock from each state that fits.
use Rattle.std.proofs.Common.{false, List}
use Rattle.bsv_prim.specs.declared.part.Part.{Part}
use Rattle.bsv_design.specs.declared.schedule.Schedule.{Schedule}
use Rattle.bsv_design.specs.scheme.Schemes.{Scheme, Asking}
use Rattle.bsv_attr.specs.Obeying.{Obeys}
use Rattle.bsv_clock.specs.Grounds.{BelongTogether, Fit, IsLawful, IsScheduleOf}
use Rattle.bsv_clock.specs.Settling.{the_clock, fired_in, end_of}
use Rattle.bsv_clock.proofs.Clocks.{some_clock, only_fired, only_after, clock_fed}
use Rattle.bsv_clock.proofs.Steadily.{steady_scheme}
use Rattle.bsv_flow.specs.Clocked.{HasOneClock, IsWellClocked}

pub well_clocked : (S : Scheme) (made : Schedule) → IsLawful S → IsScheduleOf S made → Obeys S made → IsWellClocked S made
well_clocked S made lawful scheduled obeys = record { obeys = obeys; clocks = clocks } where
  clocks : (q : Asking) (s : List Part) → Fit S q s → HasOneClock S made q s
  clocks q s fit =
      let together : BelongTogether S made q s = record { lawful = lawful; schedule = scheduled; fit = fit } in
      let steady = steady_scheme false S lawful in
      record {
        fired = fired_in made (the_clock false S made q s);
        after = end_of S made s (the_clock false S made q s);
        clock = some_clock false S made q s together steady;
        one = λ others end is. (only_fired false S made q s together steady others end is, only_after false S made q s together steady others end is);
        fits = (clock_fed false S made q s together steady).end_fits;
      }
