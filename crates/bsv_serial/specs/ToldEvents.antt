-- What is told of a clock in which this comes of the elements.
use Rattle.std.specs.Prelude.{ℕ, Bool, true, false, List, [], ◌∷◌, filter, length, slice_get, Option, Some, None}
use Rattle.std.specs.List.{flat_map}
use Rattle.bsv_bits.specs.Words.{Bits}
use Rattle.bsv_clock.specs.Events.{gives}
use Rattle.bsv_graph.specs.Edges.{numbers_below}
use Rattle.bsv_serial.specs.declared.fates.Fate.{Fate}
use Rattle.bsv_serial.specs.declared.fates.Fate.TheVariants as fate

abbrev pub or_idle : Option Fate → Fate
or_idle None = fate.Idle
or_idle (Some f) = f

abbrev pub fate_at : List Fate → ℕ → Fate
fate_at fates n = or_idle (slice_get fates n)

-- ---- those that fire, and what they give, in the execution order

abbrev pub is_fired : Fate → Bool
is_fired (fate.Fired o) = true
is_fired _ = false

unfoldable pub all_fired : List Fate → List ℕ → List ℕ
all_fired fates ns = filter (λ n. is_fired (fate_at fates n)) ns

abbrev pub given_by : ℕ → Fate → List (ℕ × Bits)
given_by n (fate.Fired o) = gives n o
given_by n _ = []

unfoldable pub all_given : List Fate → List ℕ → List (ℕ × Bits)
all_given fates ns = flat_map (λ n. given_by n (fate_at fates n)) ns

-- ---- those that are stopped, by urgency

abbrev pub stopped_by : ℕ → Fate → List (ℕ × ℕ)
stopped_by n (fate.Stopped by) = (n, by) ∷ []
stopped_by n _ = []

unfoldable pub all_stopped : List Fate → List ℕ → List (ℕ × ℕ)
all_stopped fates ns = flat_map (λ n. stopped_by n (fate_at fates n)) ns

-- ---- those that are blocked, by position

abbrev pub is_blocked : Fate → Bool
is_blocked fate.Blocked = true
is_blocked _ = false

unfoldable pub all_blocked : List Fate → List ℕ
all_blocked fates = filter (λ n. is_blocked (fate_at fates n)) (numbers_below (length fates))
