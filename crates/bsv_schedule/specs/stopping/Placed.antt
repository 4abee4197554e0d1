-- The places of elements in an order.
use Rattle.std.specs.Prelude.{◌≡◌, ℕ, ◌<◌, List, length, slice_index}
use Rattle.bsv_graph.specs.Orders.{IsOrderOf, place_of}

-- the list has of each element below n its place in the order
pub record HasPlaces (n : ℕ) (order places : List ℕ) : Type 0 where
  pub order_of : IsOrderOf n order
  pub size : length places ≡ n
  pub at : (a : ℕ) → a < n → slice_index places a ≡ place_of order a
