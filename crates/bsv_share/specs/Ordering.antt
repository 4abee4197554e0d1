-- Nodes that are marked, since the net gives them or a marked node reads them.
use Rattle.std.specs.Prelude.{◌≡◌, ◌⊎◌, ℕ, Bool, true, false, List, slice_get, Option, Some, None}
use Rattle.bsv_net.specs.declared.net_data.NetData.{NetData}
use Rattle.bsv_share.specs.Sharing.{IsReached}

abbrev pub or_false : Option Bool → Bool
or_false None = false
or_false (Some b) = b

abbrev pub is_marked : List Bool → ℕ → Bool
is_marked marks k = or_false (slice_get marks k)

-- no others are marked than before, and those of which this holds
abbrev pub MarksOnly : (ℕ → Type 0) → List Bool → List Bool → Type 0
MarksOnly P old new = (k : ℕ) → is_marked new k ≡ true → (is_marked old k ≡ true) ⊎ P k

abbrev pub NoneMarked : List Bool → Type 0
NoneMarked marks = (k : ℕ) → is_marked marks k ≡ false

-- each node that is marked is reached
abbrev pub AllReached : NetData → List Bool → Type 0
AllReached c marks = (k : ℕ) → is_marked marks k ≡ true → IsReached c k

abbrev pub PlacesReached : NetData → List ℕ → Type 0
PlacesReached c places = (k n : ℕ) → slice_get places k ≡ Some n → IsReached c n
