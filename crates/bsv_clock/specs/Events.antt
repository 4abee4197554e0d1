-- What a clock leaves to tell, beside the state: which element was stopped, and by what; which method was blocked; and what
-- the methods gave.
use Rattle.std.specs.Prelude.{◌≡◌, ℕ, Bool, not, ◌&&◌, ◌⊎◌, List, [], ◌∷◌, ◌++◌, map, filter, length, Option, Some, None}
use Rattle.std.specs.List.{AllByRecursion, flat_map}
use Rattle.bsv_bits.specs.Words.{Bits}
use Rattle.bsv_prim.specs.declared.part.Part.{Part}
use Rattle.bsv_design.specs.declared.fired.Fired.{Fired}
use Rattle.bsv_design.specs.declared.schedule.Schedule.{Schedule}
use Rattle.bsv_design.specs.scheme.Schemes.{Scheme, Asking, Look, ready, value}
use Rattle.bsv_design.specs.scheme.Serial.{run_whole}
use Rattle.bsv_design.specs.scheme.States.{emptied, plain}
use Rattle.bsv_graph.specs.Edges.{numbers_below}
use Rattle.bsv_graph.specs.Orders.{In, IsBefore}
use Rattle.bsv_schedule.specs.stopping.Firing.{StopsIn}
use Rattle.bsv_clock.specs.Clocks.{IsClock, is_in, is_asked, is_candidate}
use Rattle.bsv_clock.specs.Looks.{clock_look}

-- of those that fire, the first one in urgency that stops the element
pub record IsFirstStopper (S : Scheme) (made : Schedule) (fired : List ℕ) (stopped : ℕ × ℕ) : Type 0 where
  pub fires : In fired stopped.1
  pub stops : StopsIn S made stopped.1 stopped.0
  pub first : (f : ℕ) → In fired f → StopsIn S made f stopped.0 → (f ≡ stopped.1) ⊎ IsBefore made.urgency stopped.1 f

-- the elements that are ready and do not fire, by urgency
abbrev pub stopped_in : Bool → Scheme → Schedule → Asking → List Part → List ℕ → List ℕ
stopped_in aggressive S made q s fired =
    filter (λ n. is_candidate aggressive S q s fired n && not (is_in fired n)) made.urgency

-- the methods that are asked and not ready, by position
abbrev pub blocked_in : Bool → Scheme → Asking → List Part → List ℕ → List ℕ
blocked_in aggressive S q s fired =
    filter (λ n. is_asked q n && not (ready aggressive S q n (clock_look S q s fired))) (numbers_below (length S.elements))

abbrev pub gives : ℕ → Option Bits → List (ℕ × Bits)
gives n None = []
gives n (Some w) = (n, w) ∷ []

-- what the elements give that give a word, each at its turn
abbrev pub results_in_turn : Scheme → Asking → List Part → List ℕ → List (ℕ × Bits)
results_in_turn S q ps [] = []
results_in_turn S q ps (n ∷ ns) = gives n (value S q n (plain ps)) ++ results_in_turn S q (run_whole S q n ps) ns

-- what elements give under a look
abbrev pub results_under : Scheme → Asking → Look → List ℕ → List (ℕ × Bits)
results_under S q look ns = flat_map (λ n. gives n (value S q n look)) ns

-- all that happens in a clock from a state
pub record Happens (aggressive : Bool) (S : Scheme) (made : Schedule) (q : Asking) (s : List Part) (fired : Fired) (after : List Part) : Type 0 where
  pub clock : IsClock aggressive S made q s fired.list.items after
  pub stopped : map (λ p. p.0) fired.stopped.items ≡ stopped_in aggressive S made q s fired.list.items
  pub stoppers : AllByRecursion (IsFirstStopper S made fired.list.items) fired.stopped.items
  pub blocked : fired.blocked.items ≡ blocked_in aggressive S q s fired.list.items
  pub results : fired.results.items ≡ results_in_turn S q (emptied S.kinds s) fired.list.items

-- the same is told of both
pub record TellAlike (a b : Fired) : Type 0 where
  pub list : a.list.items ≡ b.list.items
  pub stopped : a.stopped.items ≡ b.stopped.items
  pub blocked : a.blocked.items ≡ b.blocked.items
  pub results : a.results.items ≡ b.results.items
