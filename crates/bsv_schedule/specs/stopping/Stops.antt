-- Which elements may not fire in one clock, and which of them yields (Hoe and Arvind 2004, "Operation-centric hardware
-- description and synthesis": conflicting rules; Bluespec reference guide, "preempts").
use Rattle.std.specs.Prelude.{◌≡◌, ℕ, ◌<◌, ◌⊎◌, IsTrue, IsFalse, List, [], ◌∷◌, ◌++◌, length, Some, slice_get}
use Rattle.bsv_graph.specs.Orders.{In, IsBefore, place_of}
use Rattle.bsv_schedule.specs.relating.Relating.{Relating}

-- the one that is earlier in the execution order does not go before the other
abbrev pub Clash : Relating → List ℕ → ℕ → ℕ → Type 0
Clash r execution a b =
    (IsBefore execution a b × IsFalse (r.goes a b)) ⊎ (IsBefore execution b a × IsFalse (r.goes b a))

-- a is before b in urgency and they clash, or a preempts b
abbrev pub Stops : Relating → List ℕ → List ℕ → ℕ → ℕ → Type 0
Stops r execution urgency a b =
    (IsBefore urgency a b × Clash r execution a b) ⊎ IsTrue (r.preempts a b)

-- the members of the list with P, in its order
abbrev pub Picks : (ℕ → Type 0) → List ℕ → List ℕ → Type 0
Picks P [] xs = xs ≡ []
Picks P (u ∷ us) xs =
    (P u × ((rest : List ℕ) × (xs ≡ u ∷ rest) × Picks P us rest)) ⊎ (¬ P u × Picks P us xs)

-- one list for each element: what it stops, by urgency
pub record AreStops (r : Relating) (execution urgency : List ℕ) (lists : List (List ℕ)) : Type 0 where
  pub count : length lists ≡ r.count
  pub each : (a : ℕ) → a < r.count
      → (xs : List ℕ) × (slice_get lists a ≡ Some xs) × Picks (Stops r execution urgency a) urgency xs

-- What a clock needs of the two orders: no element feeds one that is executed before it or itself; one that is executed
-- before another goes before it, unless one stops the other; what feeds or stops another is the more urgent one.
pub record Ordered (r : Relating) (execution urgency : List ℕ) : Type 0 where
  pub no_later : (before behind : List ℕ) (e f : ℕ) → execution ≡ before ++ (e ∷ behind)
      → In (e ∷ behind) f → IsFalse (r.feeds f e)
  pub no_clash : (before behind : List ℕ) (e f : ℕ) → execution ≡ before ++ (e ∷ behind)
      → In before f → ¬ Stops r execution urgency f e → ¬ Stops r execution urgency e f → IsTrue (r.goes f e)
  pub feeds_before : (a b : ℕ) → a < r.count → b < r.count → IsTrue (r.feeds a b)
      → place_of urgency a < place_of urgency b
  pub stops_before : (a b : ℕ) → Stops r execution urgency a b → place_of urgency a < place_of urgency b
