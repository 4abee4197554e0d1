-- The implicit conditions of an element (Bluespec reference guide, "Implicit conditions"): the conditions of methods of
-- modules, and calls of methods of primitives that have a guard.
use Rattle.std.specs.Prelude.{◌≡◌, ℕ, ◌<◌, Bool, true, List, [], ◌++◌, map, slice_get, Some}
use Rattle.bsv_design.specs.declared.kind.Kind.{Kind}
use Rattle.bsv_design.specs.design.Guards.{is_guarded}
use Rattle.bsv_design.specs.scheme.Relations.{no_answers, sites_of}
use Rattle.bsv_design.specs.scheme.Schemes.{Scheme, filled, ports_of}
use Rattle.bsv_design.specs.scheme.Traces.{Site, Demand, has_name, kind_at}

-- the conditions of an element are the same in every run, but for whether they hold
abbrev pub demands_of : Scheme → ℕ → List Demand
demands_of S n = (S.trace n no_answers (filled (ports_of (slice_get S.elements n)) [])).demands

abbrev pub has_guard : List Kind → Site → Bool
has_guard ks c = is_guarded (kind_at ks c.target) c.target.method

-- of each condition of an element and then of each call, in the order of the text, whether it is implicit. Places of
-- conditions and calls are counted so
unfoldable pub are_implicit : Scheme → ℕ → List Bool
are_implicit S n = map has_name (demands_of S n) ++ map (has_guard S.kinds) (sites_of S n)

-- no truth comes before the place
abbrev pub NoneTrueBelow : List Bool → ℕ → Type 0
NoneTrueBelow truths k = (j : ℕ) → j < k → ¬ (slice_get truths j ≡ Some true)

abbrev pub NoneTrue : List Bool → Type 0
NoneTrue truths = (j : ℕ) → ¬ (slice_get truths j ≡ Some true)

-- the first truth is at the place
pub record IsFirstTrue (truths : List Bool) (k : ℕ) : Type 0 where
  pub at : slice_get truths k ≡ Some true
  pub first : NoneTrueBelow truths k
