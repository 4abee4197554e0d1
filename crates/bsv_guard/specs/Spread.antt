-- Calls that stand one after the other in the arms of choices, so that no two of them are ever both taken.
use Rattle.std.specs.Prelude.{ℕ, ◌==◌, nat_lt, Bool, true, false, ◌&&◌, ◌||◌, List, [], ◌∷◌, length, slice_get, slice_index_or, Option, Some, None}
use Rattle.bsv_design.specs.declared.element.Call.{Call}
use Rattle.bsv_design.specs.declared.node.Branch.{Branch}
use Rattle.bsv_guard.specs.Groups.{place}

-- the second one is in a later arm of a choice of both, and around it both are in the same arms
abbrev pub in_later_arm : List Branch → List Branch → Bool
in_later_arm [] bs = false
in_later_arm (a ∷ others) [] = false
in_later_arm (a ∷ others) (b ∷ bs) = (a.choice == b.choice) && (nat_lt a.arm b.arm || ((a.arm == b.arm) && in_later_arm others bs))

abbrev pub arms_in : Option Call → List Branch
arms_in None = []
arms_in (Some c) = c.branches

-- the arms in which the call of a number stands
abbrev pub arms_of : List Call → ℕ → List Branch
arms_of cs j = arms_in (slice_get cs j)

-- after the call of this number, each of these is in a later arm than the one before it
abbrev pub spread_after : List Call → ℕ → List ℕ → Bool
spread_after cs i [] = true
spread_after cs i (j ∷ js) = in_later_arm (arms_of cs i) (arms_of cs j) && spread_after cs j js

abbrev pub is_spread : List Call → List ℕ → Bool
is_spread cs [] = true
is_spread cs (j ∷ js) = spread_after cs j js

-- of the group of a method of a part
abbrev pub spread_of : List Bool → ℕ → ℕ → Bool
spread_of ss part method = slice_index_or ss (place part method (length ss)) false
