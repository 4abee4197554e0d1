-- A schedule obeys the attributes of a scheme, one line for each attribute (Bluespec reference guide, "Scheduling
-- attributes"; Hoe and Arvind 2004, for what a clock is).
use Rattle.std.specs.Prelude.{◌≡◌, ℕ, Bool, true, false, not, List, filter}
use Rattle.bsv_prim.specs.declared.part.Part.{Part}
use Rattle.bsv_design.specs.declared.schedule.Schedule.{Schedule}
use Rattle.bsv_design.specs.declared.attributes.Attribute.TheVariants as attribute
use Rattle.bsv_design.specs.scheme.Schemes.{Scheme, Asking, Look, ready, seen, all_hold}
use Rattle.bsv_design.specs.scheme.Traces.{Demand, has_name}
use Rattle.bsv_graph.specs.Orders.{In, IsBefore}
use Rattle.bsv_schedule.specs.relating.Marks.{IsMarked, IsPaired}
use Rattle.bsv_clock.specs.Clocks.{IsClock}
use Rattle.bsv_clock.specs.Grounds.{Fit}
use Rattle.bsv_clock.specs.Looks.{clock_look}

-- in each clock from a state that fits, with requests that fit, this holds of the look of the clock and of what fires
abbrev pub InEachClock : Scheme → Schedule → (Bool → Asking → Look → List ℕ → Type 0) → Type 0
InEachClock S made Holds =
    (aggressive : Bool) (q : Asking) (s : List Part) (fired : List ℕ) (after : List Part) → Fit S q s
    → IsClock aggressive S made q s fired after → Holds aggressive q (clock_look S q s fired) fired

-- the conditions that are the element's own, and of no method of a module
abbrev pub own : List Demand → List Demand
own ds = filter (λ d. not (has_name d)) ds

pub record Obeys (S : Scheme) (made : Schedule) : Type 0 where
  -- of adjacent names the first is the more urgent one
  pub descending_urgency : (a b : ℕ) → IsPaired S.pairs attribute.DescendingUrgency a b → IsBefore made.urgency a b
  -- of adjacent names the first takes effect first
  pub execution_order : (a b : ℕ) → IsPaired S.pairs attribute.ExecutionOrder a b → IsBefore made.execution a b
  -- the left one is the more urgent one
  pub preempts : (a b : ℕ) → IsPaired S.pairs attribute.Preempts a b → IsBefore made.urgency a b
  -- and the right one fires in no clock in which the left one does
  pub preempted : (a b : ℕ) → IsPaired S.pairs attribute.Preempts a b
      → InEachClock S made (λ aggressive q look fired. In fired a → ¬ In fired b)
  -- a marked rule fires in each clock in whose look it is ready
  pub fires : (r : ℕ) → IsMarked S.asserts true r
      → InEachClock S made (λ aggressive q look fired. ready aggressive S q r look ≡ true → In fired r)
  -- a marked rule is ready exactly where its own condition is true, whatever its methods look at
  pub no_implicit : (r : ℕ) → IsMarked S.asserts false r
      → (aggressive : Bool) (q : Asking) (look : Look) → ready aggressive S q r look ≡ all_hold aggressive (own (seen S q r look).demands)
