-- One clock: which rules and asked methods fire, and the state after it (Hoe and Arvind 2004: many rules fire in one clock
-- as if one after the other; Bluespec reference guide, "Rules", "Scheduling attributes").
use Rattle.std.specs.Prelude.{◌≡◌, ℕ, Bool, true, false, ◌&&◌, ◌||◌, ◌==◌, List, filter, slice_get, Option, Some, None, unwrap_or}
use Rattle.std.specs.List.{list_any}
use Rattle.bsv_prim.specs.declared.part.Part.{Part}
use Rattle.bsv_design.specs.declared.schedule.Schedule.{Schedule}
use Rattle.bsv_design.specs.design.Roles.{is_rule}
use Rattle.bsv_design.specs.scheme.Schemes.{Scheme, Outline, Asking, ready}
use Rattle.bsv_design.specs.scheme.Serial.{Serial}
use Rattle.bsv_design.specs.scheme.States.{emptied}
use Rattle.bsv_graph.specs.Orders.{In}
use Rattle.bsv_schedule.specs.stopping.Firing.{NoMemberStops, OthersAreStopped}
use Rattle.bsv_clock.specs.Looks.{clock_look}

-- the number is in the list
unfoldable pub is_in : List ℕ → ℕ → Bool
is_in xs n = list_any (λ x. x == n) xs

-- the method of this position is asked
abbrev pub is_asked : Asking → ℕ → Bool
is_asked q n = unwrap_or (slice_get q.asked n) false

abbrev pub may_fire_as : Asking → ℕ → Option Outline → Bool
may_fire_as q n None = false
may_fire_as q n (Some o) = is_rule o.role || is_asked q n

-- the element is a rule, or a method that is asked
unfoldable pub may_fire : Scheme → Asking → ℕ → Bool
may_fire S q n = may_fire_as q n (slice_get S.elements n)

-- it may fire, and is ready under the look of the clock in which these elements fire
unfoldable pub is_candidate : Bool → Scheme → Asking → List Part → List ℕ → ℕ → Bool
is_candidate aggressive S q s fired n = may_fire S q n && ready aggressive S q n (clock_look S q s fired)

-- a clock from a state: the elements that fire, and the state after it
pub record IsClock (aggressive : Bool) (S : Scheme) (made : Schedule) (q : Asking) (s : List Part) (fired : List ℕ) (after : List Part) : Type 0 where
  -- they are rules and asked methods, in the execution order
  pub in_order : filter (is_in fired) made.execution ≡ fired
  pub may : (n : ℕ) → In fired n → may_fire S q n ≡ true
  -- run one at a time, each is ready at its turn; what they leave is the state after the clock
  pub serial : Serial aggressive S q (emptied S.kinds s) fired after
  -- each is ready in the clock look
  pub in_look : (n : ℕ) → In fired n → ready aggressive S q n (clock_look S q s fired) ≡ true
  -- none stops another
  pub none_stopped : NoMemberStops S made fired
  -- what is ready there and does not fire is stopped by one that fires
  pub others_stopped : OthersAreStopped S made (is_candidate aggressive S q s fired) fired
