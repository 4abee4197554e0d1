-- The places of elements in an order.
use Rattle.std.specs.Prelude.{ℕ, ◌+◌, List, [], ◌∷◌, slice_set}

-- the elements of the list have their places, from this one on
unfoldable pub all_placed : List ℕ → ℕ → List ℕ → List ℕ
all_placed places at [] = places
all_placed places at (n ∷ ns) = all_placed (slice_set places n at) (at + 1) ns
