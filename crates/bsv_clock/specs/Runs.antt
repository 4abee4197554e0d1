-- Whole runs: from the opening state, each clock goes from the state after the clock before it.
use Rattle.std.specs.Prelude.{◌≡◌, ℕ, Bool, List, [], ◌∷◌}
use Rattle.std.specs.List.{AllByRecursion}
use Rattle.bsv_prim.specs.declared.part.Part.{Part}
use Rattle.bsv_design.specs.declared.fired.Fired.{Fired}
use Rattle.bsv_design.specs.declared.schedule.Schedule.{Schedule}
use Rattle.bsv_design.specs.scheme.Schemes.{Scheme, Asking}
use Rattle.bsv_design.specs.scheme.States.{opening}
use Rattle.bsv_guard.specs.Fitting.{RequestFits}
use Rattle.bsv_clock.specs.Events.{Happens, TellAlike}

-- a clock of a run: what happened, and the state after it
pub record Row : Type 0 where
  pub fired : Fired
  pub after : List Part

abbrev pub Continues : Bool → Scheme → Schedule → List Part → List Asking → List Row → Type 0
Continues aggressive S made s [] [] = Unit {0}
Continues aggressive S made s (q ∷ qs) (row ∷ rows) =
    Happens aggressive S made q s row.fired row.after × Continues aggressive S made row.after qs rows
Continues aggressive S made s _ _ = ⊥

-- the clocks of a run, one for each of the requests
abbrev pub Runs : Bool → Scheme → Schedule → List Asking → List Row → Type 0
Runs aggressive S made qs rows = Continues aggressive S made (opening S.kinds) qs rows

-- the same is told of both runs, and the states are the same
abbrev pub TellRunsAlike : List Row → List Row → Type 0
TellRunsAlike [] [] = Unit {0}
TellRunsAlike (row ∷ rows) (other ∷ others) =
    TellAlike row.fired other.fired × (row.after ≡ other.after) × TellRunsAlike rows others
TellRunsAlike _ _ = ⊥

-- each of the requests gives each element arguments of its widths
abbrev pub AllFit : Scheme → List Asking → Type 0
AllFit S qs = AllByRecursion (λ q. (n : ℕ) → RequestFits S q n) qs
