-- The methods that elements use, each once.
use Rattle.std.specs.Prelude.{◌≡◌, ℕ, ◌⊎◌, ◌↔◌, nat_lt, Bool, true, false, ◌&&◌, IsTrue, List, [], ◌∷◌, map, length, slice_get, slice_index_or, Some}
use Rattle.std.specs.List.{list_all, list_any}
use Rattle.bsv_design.specs.declared.element.Call.{Call}
use Rattle.bsv_design.specs.declared.element.Element.{Element}
use Rattle.bsv_design.specs.declared.kind.Kind.{Kind}
use Rattle.bsv_design.specs.declared.attributes.Attribute.{Attribute}
use Rattle.bsv_design.specs.declared.attributes.Pair.{Pair}
use Rattle.bsv_design.specs.design.Bodies.{Target, target}
use Rattle.bsv_design.specs.design.Widths.{call_named}
use Rattle.bsv_schedule.specs.declared.relating.related.Relation.{Relation}
use Rattle.bsv_schedule.specs.declared.relating.usage.Use.{Use}
use Rattle.bsv_schedule.specs.relating.Elements.{is_ordering, is_urging}
use Rattle.bsv_schedule.specs.relating.Related.{names_method, on_one_part}

abbrev pub target_of : Use → Target
target_of u = record { part = u.part; method = u.method }

-- x is in the list
abbrev pub Among : {X : Type 0} → List X → X → Type 0
Among [] x = ⊥
Among (y ∷ ys) x = (x ≡ y) ⊎ Among ys x

-- the same methods are used
abbrev pub UseSame : List Target → List Target → Type 0
UseSame xs ys = (t : Target) → Among xs t ↔ Among ys t

pub record Meets (w : Relation) (ks : List Kind) (xs ys : List Target) : Type 0 where
  pub first : Target
  pub second : Target
  pub in_first : Among xs first
  pub in_second : Among ys second
  pub meet : IsTrue (on_one_part w ks first second)

-- the method of the part is used, too
abbrev pub IsNoted : List Use → ℕ → ℕ → List Use → Type 0
IsNoted old part m new = (t : Target) → Among (map target_of new) t ↔ ((t ≡ record { part = part; method = m }) ⊎ Among (map target_of old) t)

abbrev pub used : List Use → List Target
used us = map target_of us

abbrev pub use_named : List Kind → Use → Bool
use_named ks u = names_method ks u.part u.method

abbrev pub is_named : List Kind → List Use → Bool
is_named ks us = list_all (use_named ks) us

-- the calls of the elements name methods of parts
abbrev pub CallsNamed : List Kind → List Element → Type 0
CallsNamed ks es = (n : ℕ) (e : Element) → slice_get es n ≡ Some e → IsTrue (list_all (call_named ks) e.calls)

-- what each element uses
pub record AreUsages (ks : List Kind) (es : List Element) (us : List (List Use)) : Type 0 where
  pub count : length us ≡ length es
  pub named : (n : ℕ) (own : List Use) → slice_get us n ≡ Some own → IsTrue (is_named ks own)
  pub same : (n : ℕ) (e : Element) (own : List Use) → slice_get es n ≡ Some e → slice_get us n ≡ Some own → UseSame (used own) (map target e.calls)

abbrev pub calls_meet : Relation → List Kind → List Call → List Call → Bool
calls_meet w ks cs ds = list_any (λ c. list_any (λ d. on_one_part w ks (target c) (target d)) ds) cs

abbrev pub AllNamed : List Kind → List (List Use) → Type 0
AllNamed ks us = (n : ℕ) (own : List Use) → slice_get us n ≡ Some own → IsTrue (is_named ks own)

-- a use of the element of the first position and one of that of the second stand in the relation
abbrev pub MeetAt : Relation → List Kind → List (List Use) → ℕ → ℕ → Type 0
MeetAt w ks us a b = Meets w ks (used (slice_index_or us a [])) (used (slice_index_or us b []))

-- `execution_order`, or else the other two
abbrev pub is_listed : Bool → Attribute → Bool
is_listed true = is_ordering
is_listed false = is_urging

-- the pair names elements below the count
abbrev pub pair_below : ℕ → Pair → Bool
pair_below n p = nat_lt p.before n && nat_lt p.after n
