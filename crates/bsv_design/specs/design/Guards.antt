-- Guards that were lifted out of the bodies (Bluespec reference guide, "Implicit conditions"): of each element one need for
-- each call of a method that has a guard.
use Rattle.std.specs.Prelude.{ℕ, ◌+◌, Bool, true, false, not, ◌&&◌, ◌||◌, List, [], ◌∷◌, map, slice_get, Option, Some, None, if◌then◌else◌}
use Rattle.bsv_bits.specs.Words.{Bits}
use Rattle.bsv_design.specs.declared.element.Call.{Call}
use Rattle.bsv_design.specs.declared.element.Element.{Element}
use Rattle.bsv_design.specs.declared.kind.Kind.{Kind}
use Rattle.bsv_design.specs.declared.schedule.Need.{Need}
use Rattle.bsv_design.specs.design.Bodies.{target, at, words}
use Rattle.bsv_design.specs.parts.Kinds.{kind_table}
use Rattle.bsv_design.specs.design.Words.{is_one}
use Rattle.bsv_design.specs.scheme.Schemes.{Look, is_open, answers, all_hold}
use Rattle.bsv_design.specs.scheme.Traces.{kind_at, demand_at}

abbrev pub is_guarded : Option Kind → ℕ → Bool
is_guarded None m = false
is_guarded (Some k) m = (kind_table k).guarded m

-- one need for each call of a method that has a guard, in the order of the calls, which are counted from this number
unfoldable pub needs_from : List Kind → ℕ → List Call → List Need
needs_from ks n [] = []
needs_from ks n (c ∷ cs) =
    if is_guarded (kind_at ks (target c)) c.method then record { call = n; under = None } ∷ needs_from ks (n + 1) cs
    else needs_from ks (n + 1) cs

abbrev pub needs_of : List Kind → List Element → List (List Need)
needs_of ks es = map (λ e. needs_from ks 0 e.calls) es

-- the guard of the call is true on what its method looks at
abbrev pub holds_at : List Kind → Look → Option Call → Bool
holds_at ks look None = true
holds_at ks look (Some c) = is_open ks look (target c)

-- a need that is asked nowhere, or under a node that is 0, holds
abbrev pub is_asked : List Bits → Option ℕ → Bool
is_asked ws None = true
is_asked ws (Some k) = is_one (at ws k)

abbrev pub needs_hold : List Kind → Look → List Call → List Bits → List Need → Bool
needs_hold ks look cs ws [] = true
needs_hold ks look cs ws (n ∷ ns) =
    (holds_at ks look (slice_get cs n.call) || not (is_asked ws n.under)) && needs_hold ks look cs ws ns

-- every condition of the body holds, and every need
unfoldable pub body_ready : Bool → List Kind → Element → List Need → Look → List Bits → Bool
body_ready aggressive ks e ns look arguments = by (words e (answers ks look) arguments) where
  by : List Bits → Bool
  by ws = all_hold aggressive (map (demand_at ws) e.conditions) && needs_hold ks look e.calls ws ns
