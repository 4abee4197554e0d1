-- Two calls of one element, as calls of a flat body: where a call stands and what it calls is the same in every run.
use Rattle.std.specs.Prelude.{◌≡◌, ℕ, ◌==◌, ◌<◌, ◌≤◌, Bool, true, not, ◌&&◌, List, length, slice_get, slice_index_or, Option, Some, None, ◌⊎◌}
use Rattle.bsv_design.specs.declared.element.Call.{Call}
use Rattle.bsv_design.specs.declared.kind.Kind.{Kind}
use Rattle.bsv_design.specs.design.Branches.{apart}
use Rattle.bsv_design.specs.scheme.Relations.{may_stand}
use Rattle.bsv_guard.specs.declared.search.Breach.{Breach}

-- two calls on one part that are in different arms of no choice, and may not be in one element
abbrev pub breaks : List Kind → Call → Call → Bool
breaks ks c d = (c.part == d.part) && not (apart c.branches d.branches) && not (may_stand (slice_get ks c.part) c.method d.method)

-- ---- among the calls of an element

-- a pair of calls, the earlier one first, that breaks the rule
pub record IsPair (ks : List Kind) (cs : List Call) (i j : ℕ) (c d : Call) : Type 0 where
  pub first : slice_get cs i ≡ Some c
  pub second : slice_get cs j ≡ Some d
  pub earlier : i < j
  pub broken : breaks ks c d ≡ true

abbrev pub AreFree : List Kind → List Call → Type 0
AreFree ks cs = (i j : ℕ) (c d : Call) → IsPair ks cs i j c d → ⊥

-- the first such pair, by the earlier call and then by the later one, calls these methods of this part
pub record IsFound (ks : List Kind) (cs : List Call) (part x y : ℕ) : Type 0 where
  pub earlier : ℕ
  pub later : ℕ
  pub one : Call
  pub other : Call
  pub pair : IsPair ks cs earlier later one other
  pub first : (k l : ℕ) (c d : Call) → IsPair ks cs k l c d → (earlier < k) ⊎ ((earlier ≡ k) × (later ≤ l))
  pub part_is : one.part ≡ part
  pub first_is : one.method ≡ x
  pub second_is : other.method ≡ y

abbrev pub IsSearched : List Kind → List Call → Option Breach → Type 0
IsSearched ks cs None = AreFree ks cs
IsSearched ks cs (Some b) = IsFound ks cs b.part b.first b.second

-- ---- after one call

-- none of the calls of these numbers comes after the call of this number and breaks the rule with it
abbrev pub NoneAmong : List Kind → List Call → ℕ → Call → List ℕ → Type 0
NoneAmong ks cs i c js =
    (k : ℕ) → k < length js → (d : Call) → slice_get cs (slice_index_or js k 0) ≡ Some d → i < slice_index_or js k 0 → breaks ks c d ≡ true → ⊥

-- no call after it does
abbrev pub NoneAfter : List Kind → List Call → ℕ → Call → Type 0
NoneAfter ks cs i c = (j : ℕ) (d : Call) → slice_get cs j ≡ Some d → i < j → breaks ks c d ≡ true → ⊥

-- the first call after it that does calls this method
pub record IsFirstAfter (ks : List Kind) (cs : List Call) (i : ℕ) (c : Call) (method : ℕ) : Type 0 where
  pub later : ℕ
  pub other : Call
  pub at : slice_get cs later ≡ Some other
  pub behind : i < later
  pub broken : breaks ks c other ≡ true
  pub method_is : other.method ≡ method
  pub first : (j : ℕ) (d : Call) → slice_get cs j ≡ Some d → i < j → breaks ks c d ≡ true → later ≤ j

abbrev pub IsSearchedAfter : List Kind → List Call → ℕ → Call → Option Breach → Type 0
IsSearchedAfter ks cs i c None = NoneAfter ks cs i c
IsSearchedAfter ks cs i c (Some b) = (c.part ≡ b.part) × (c.method ≡ b.first) × IsFirstAfter ks cs i c b.second
