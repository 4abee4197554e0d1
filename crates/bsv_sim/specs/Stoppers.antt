-- The table that has of each element the first one that stops it: those that fire are noted with whom they stop, the least
-- urgent one first, and what is noted last stays.
use Rattle.std.specs.Prelude.{ℕ, List, [], ◌∷◌, slice_get, slice_set, if◌then◌else◌}
use Rattle.bsv_clock.specs.Settling.{or_no_numbers}
use Rattle.bsv_sim.specs.Signals.{Signals, fires}

-- this element stops each of these
unfoldable pub noted : List ℕ → List ℕ → ℕ → List ℕ
noted ss [] by = ss
noted ss (n ∷ ns) by = noted (slice_set ss n by) ns by

-- an element stops those of its list where it fires
abbrev pub noted_by : Signals → List (List ℕ) → List ℕ → ℕ → List ℕ
noted_by r stops ss n = (if fires r n then noted ss (or_no_numbers (slice_get stops n)) n else ss)

-- all of these, from the last one
unfoldable pub all_noted : Signals → List (List ℕ) → List ℕ → List ℕ → List ℕ
all_noted r stops ss [] = ss
all_noted r stops ss (n ∷ ns) = noted_by r stops (all_noted r stops ss ns) n
