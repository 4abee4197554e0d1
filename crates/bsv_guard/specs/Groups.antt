-- The numbers of the calls of an element in groups, in which the calls of one method of one part are together.
use Rattle.std.specs.Prelude.{◌≡◌, ℕ, ◌+◌, ◌*◌, ◌%◌, ◌<◌, List, [], ◌∷◌, ◌++◌, length, slice_get, slice_index_or, slice_set, Some}
use Rattle.bsv_design.specs.declared.element.Call.{Call}

-- the group of a method of a part, among so many
abbrev pub place : ℕ → ℕ → ℕ → ℕ
place part method count = (part * 8 + method) % count

abbrev pub group_of : List (List ℕ) → ℕ → ℕ → List ℕ
group_of gs part method = slice_index_or gs (place part method (length gs)) []

-- the number is in the list
pub record StandsIn (js : List ℕ) (j : ℕ) : Type 0 where
  pub at : ℕ
  pub within : at < length js
  pub is : slice_index_or js at 0 ≡ j

-- each call of these is in its group
abbrev pub AreGrouped : List Call → List (List ℕ) → Type 0
AreGrouped cs gs = (j : ℕ) (c : Call) → slice_get cs j ≡ Some c → StandsIn (group_of gs c.part c.method) j

-- the number is in the group, too
abbrev pub added : List (List ℕ) → ℕ → ℕ → List (List ℕ)
added gs at number = slice_set gs at (slice_index_or gs at [] ++ number ∷ [])
