-- How elements relate, and their places in the two orders.
use Rattle.std.specs.Prelude.{◌≡◌, ℕ, List, length}
use Rattle.bsv_schedule.specs.relating.Relating.{Relating}
use Rattle.bsv_schedule.specs.relating.Relations.{relating_of, count_of}
use Rattle.bsv_schedule.specs.declared.stopping.stops.Placing.{Placing}
use Rattle.bsv_schedule.specs.stopping.Placed.{HasPlaces}

abbrev pub size_of : Placing → ℕ
size_of p = count_of p.relations.now

-- each element has a place in both orders
pub record IsPlaced (p : Placing) : Type 0 where
  pub execution : length p.execution.now ≡ size_of p
  pub urgency : length p.urgency.now ≡ size_of p

-- the places are those of these orders
pub record ArePlaces (p : Placing) (execution urgency : List ℕ) : Type 0 where
  pub executed : HasPlaces (size_of p) execution p.execution.now
  pub urged : HasPlaces (size_of p) urgency p.urgency.now

-- so it is of the orders of which they are the places
abbrev pub ForOrders : Placing → (Relating → List ℕ → List ℕ → Type 0) → Type 0
ForOrders p P = (execution urgency : List ℕ) → ArePlaces p execution urgency → P (relating_of p.relations.now) execution urgency
