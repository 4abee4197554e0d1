-- The call sites of methods that act, on each part, in the order in which their calls take effect: by the execution order
-- of their elements, and in one element in the order of the text.
use Rattle.std.specs.Prelude.{ℕ, ◌+◌, ◌==◌, nat_lt, Bool, false, ◌&&◌, cond, List, [], ◌∷◌, ◌++◌, map, length, slice_get, slice_set, Option, Some, None}
use Rattle.std.specs.List.{flat_map}
use Rattle.bsv_design.specs.declared.element.Call.{Call}
use Rattle.bsv_design.specs.declared.element.Element.{Element}
use Rattle.bsv_design.specs.declared.kind.Kind.{Kind}
use Rattle.bsv_design.specs.parts.Kinds.{kind_table}
use Rattle.bsv_graph.specs.Edges.{numbers_below}
use Rattle.bsv_ports.specs.declared.call_sites.CallSite.{CallSite}

-- what there is of a list that may be missing
abbrev pub or_none : {X : Type 0} → Option (List X) → List X
or_none None = []
or_none (Some xs) = xs

-- the method is one of the kind, and acts
abbrev pub acts_in : Option Kind → ℕ → Bool
acts_in None m = false
acts_in (Some k) m = nat_lt m (kind_table k).methods && (kind_table k).is_action m

-- those on a part among the calls of an element, from this number on
unfoldable pub call_sites_from : List Kind → ℕ → ℕ → ℕ → List Call → List CallSite
call_sites_from ks i f n [] = []
call_sites_from ks i f n (c ∷ cs) =
    cond ((c.part == i) && acts_in (slice_get ks c.part) c.method)
    (record { element = f; call = n; method = c.method } ∷ call_sites_from ks i f (n + 1) cs) (call_sites_from ks i f (n + 1) cs)

abbrev pub call_sites_in : List Kind → ℕ → ℕ → Option Element → List CallSite
call_sites_in ks i f None = []
call_sites_in ks i f (Some e) = call_sites_from ks i f 0 e.calls

-- those of these elements, one after the other
unfoldable pub call_sites_of : List Kind → List Element → List ℕ → ℕ → List CallSite
call_sites_of ks es order i = flat_map (λ f. call_sites_in ks i f (slice_get es f)) order

-- of each part its own
abbrev pub all_call_sites : List Kind → List Element → List ℕ → List (List CallSite)
all_call_sites ks es order = map (call_sites_of ks es order) (numbers_below (length ks))

-- ---- as they are found: each is added to those of its part

abbrev pub with_call : List Kind → List (List CallSite) → Call → CallSite → List (List CallSite)
with_call ks call_sites c s =
    cond (nat_lt c.part (length call_sites) && acts_in (slice_get ks c.part) c.method)
    (slice_set call_sites c.part (or_none (slice_get call_sites c.part) ++ s ∷ [])) call_sites

unfoldable pub with_calls : List Kind → List (List CallSite) → ℕ → ℕ → List Call → List (List CallSite)
with_calls ks call_sites f n [] = call_sites
with_calls ks call_sites f n (c ∷ cs) =
    with_calls ks (with_call ks call_sites c (record { element = f; call = n; method = c.method })) f (n + 1) cs

abbrev with_element : List Kind → List (List CallSite) → ℕ → Option Element → List (List CallSite)
with_element ks call_sites f None = call_sites
with_element ks call_sites f (Some e) = with_calls ks call_sites f 0 e.calls

unfoldable pub with_elements : List Kind → List Element → List (List CallSite) → List ℕ → List (List CallSite)
with_elements ks es call_sites [] = call_sites
with_elements ks es call_sites (f ∷ fs) = with_elements ks es (with_element ks call_sites f (slice_get es f)) fs
