-- What is told of a clock, of what the words of the nodes of a net tell of the elements.
use Rattle.std.specs.Prelude.{◌≡◌, ◌≤◌, ℕ, Bool, List, [], ◌∷◌, filter, length, slice_get, vec_capacity, Option, Some, None, if◌then◌else◌}
use Rattle.std.specs.List.{flat_map}
use Rattle.bsv_bits.specs.Words.{Bits}
use Rattle.bsv_design.specs.declared.fired.Fired.{Fired}
use Rattle.bsv_design.specs.declared.schedule.Schedule.{Schedule}
use Rattle.bsv_graph.specs.Edges.{numbers_below}
use Rattle.bsv_clock.specs.Events.{gives}
use Rattle.bsv_sim.specs.Signals.{Signals, fires, word, is_blocked, is_stopped}
use Rattle.bsv_sim.specs.Stoppers.{all_noted}

-- the one that the table has of the element, where it is stopped
abbrev pub stopper : Signals → List Bool → List ℕ → ℕ → Option ℕ
stopper r asked ss n = (if is_stopped r asked n then slice_get ss n else None)

abbrev pub pair : ℕ → Option ℕ → List (ℕ × ℕ)
pair n None = []
pair n (Some by) = (n, by) ∷ []

-- those that fire
unfoldable pub all_fired : Signals → List ℕ → List ℕ
all_fired r ns = filter (λ n. fires r n) ns

-- what these give
unfoldable pub all_given : Signals → List ℕ → List (ℕ × Bits)
all_given r ns = flat_map (λ n. gives n (word r n)) ns

-- those that are stopped, each with the one that stops it
unfoldable pub all_stopped : Signals → List Bool → List ℕ → List ℕ → List (ℕ × ℕ)
all_stopped r asked ss ns = flat_map (λ n. pair n (stopper r asked ss n)) ns

-- the methods that are blocked
unfoldable pub all_blocked : Signals → List Bool → List ℕ
all_blocked r asked = filter (λ n. is_blocked r asked n) (numbers_below (length asked))

-- all that is told of a clock, where the table was this one before
pub record IsTold (r : Signals) (made : Schedule) (asked : List Bool) (ss : List ℕ) (f : Fired) : Type 0 where
  pub list : f.list.items ≡ all_fired r made.execution
  pub stopped : f.stopped.items ≡ all_stopped r asked (all_noted r made.stops ss made.urgency) made.urgency
  pub blocked : f.blocked.items ≡ all_blocked r asked
  pub results : f.results.items ≡ all_given r (all_fired r made.execution)

-- there is room for all of that
pub record HasRoomFor (made : Schedule) (asked : List Bool) (f : Fired) : Type 0 where
  pub list : length made.execution ≤ vec_capacity f.list
  pub stopped : length made.urgency ≤ vec_capacity f.stopped
  pub blocked : length asked ≤ vec_capacity f.blocked
  pub results : length made.execution ≤ vec_capacity f.results

-- no list has less room than before
pub record KeepsRoom (before after : Fired) : Type 0 where
  pub list : vec_capacity before.list ≤ vec_capacity after.list
  pub stopped : vec_capacity before.stopped ≤ vec_capacity after.stopped
  pub blocked : vec_capacity before.blocked ≤ vec_capacity after.blocked
  pub results : vec_capacity before.results ≤ vec_capacity after.results
