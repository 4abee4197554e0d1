-- What a schedule promises of the clocks of a scheme: it obeys every attribute, and there is exactly one clock from each
-- state that fits (Hoe and Arvind 2004; Bluespec reference guide, "Scheduling attributes").
use Rattle.std.specs.Prelude.{◌≡◌, ℕ, false, List}
use Rattle.bsv_prim.specs.declared.part.Part.{Part}
use Rattle.bsv_design.specs.declared.schedule.Schedule.{Schedule}
use Rattle.bsv_design.specs.scheme.Schemes.{Scheme, Asking}
use Rattle.bsv_design.specs.scheme.States.{FitsKinds}
use Rattle.bsv_attr.specs.Obeying.{Obeys}
use Rattle.bsv_clock.specs.Clocks.{IsClock}
use Rattle.bsv_clock.specs.Grounds.{Fit}

-- from this state, with these requests, there is one clock, and the state after it fits
pub record HasOneClock (S : Scheme) (made : Schedule) (q : Asking) (s : List Part) : Type 0 where
  pub fired : List ℕ
  pub after : List Part
  pub clock : IsClock false S made q s fired after
  pub one : (others : List ℕ) (end : List Part) → IsClock false S made q s others end → (others ≡ fired) × (end ≡ after)
  pub fits : FitsKinds S.kinds after

-- the schedule obeys every attribute, and from each state that fits, with requests that fit, there is one clock
pub record IsWellClocked (S : Scheme) (made : Schedule) : Type 0 where
  pub obeys : Obeys S made
  pub clocks : (q : Asking) (s : List Part) → Fit S q s → HasOneClock S made q s
