-- What stops an element, by the lists of a schedule.
use Rattle.std.specs.Prelude.{◌≡◌, ℕ, List, ◌∷◌, ◌++◌, slice_get, Some}
use Rattle.bsv_graph.specs.Orders.{In}

-- f stops r: the list of f has r
pub record ListStops (lists : List (List ℕ)) (f r : ℕ) : Type 0 where
  pub stopped : List ℕ
  pub at : slice_get lists f ≡ Some stopped
  pub has : In stopped r

-- no element of the urgency order stops r
abbrev pub NoneStops : List ℕ → List (List ℕ) → ℕ → Type 0
NoneStops urgency lists r = (f : ℕ) → In urgency f → ¬ ListStops lists f r

-- f is the first one in urgency that stops r
pub record IsFirstListed (urgency : List ℕ) (lists : List (List ℕ)) (r f : ℕ) : Type 0 where
  pub before : List ℕ
  pub behind : List ℕ
  pub split : urgency ≡ before ++ (f ∷ behind)
  pub stops : ListStops lists f r
  pub first : (g : ℕ) → In before g → ¬ ListStops lists g r
