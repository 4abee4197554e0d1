-- What a schedule says of the elements that fire in one clock: none of them stops another, and what is ready beside them
-- is stopped by one of them (Hoe and Arvind 2004, "Operation-centric hardware description and synthesis": conflicting
-- rules; Bluespec reference guide, "Scheduling attributes").
use Rattle.std.specs.Prelude.{◌≡◌, ℕ, Bool, true, List}
use Rattle.bsv_design.specs.declared.schedule.Schedule.{Schedule}
use Rattle.bsv_design.specs.scheme.Schemes.{Scheme}
use Rattle.bsv_graph.specs.Orders.{In}
use Rattle.bsv_schedule.specs.relating.Elements.{relating}
use Rattle.bsv_schedule.specs.stopping.Stops.{Stops}

-- a stops b in the schedule
abbrev pub StopsIn : Scheme → Schedule → ℕ → ℕ → Type 0
StopsIn S s a b = Stops (relating S) s.execution s.urgency a b

-- no member of the list stops another one
abbrev pub NoMemberStops : Scheme → Schedule → List ℕ → Type 0
NoMemberStops S s fired = (a b : ℕ) → In fired a → In fired b → ¬ StopsIn S s a b

-- what is ready and no member is stopped by a member
abbrev pub OthersAreStopped : Scheme → Schedule → (ℕ → Bool) → List ℕ → Type 0
OthersAreStopped S s is_ready fired =
    (n : ℕ) → ¬ In fired n → is_ready n ≡ true → (f : ℕ) × In fired f × StopsIn S s f n
