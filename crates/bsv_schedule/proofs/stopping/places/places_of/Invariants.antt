use Rattle.std.proofs.Common.{◌≡◌, ℕ, take, length, get_or}
use Rattle.bsv_graph.specs.Orders.{In, place_of}
use Rattle.bsv_schedule.proofs.stopping.places.places_of.Given as goal

abbrev pub invariant-loop-place : goal.invariant-loop-place
invariant-loop-place l = record {
  size : length l.places.items ≡ l.count;
  placed : (a : ℕ) → In (take l.place l.order) a → get_or l.places.items a 0 ≡ place_of l.order a;
}
