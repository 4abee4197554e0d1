-- What is known of an element where these calls were made on each part: whether it is ready, its words, its calls and its
-- value.
use Rattle.std.specs.Prelude.{◌≡◌, ℕ, Bool, false, IsTrue, List, [], map, slice_get, Option, Some, None, option_map}
use Rattle.std.specs.List.{list_all}
use Rattle.bsv_bits.specs.Words.{Bits}
use Rattle.bsv_prim.specs.declared.part.Part.{Part}
use Rattle.bsv_design.specs.declared.element.Element.{Element}
use Rattle.bsv_design.specs.declared.kind.Kind.{Kind}
use Rattle.bsv_design.specs.declared.schedule.Need.{Need}
use Rattle.bsv_design.specs.design.Bodies.{at}
use Rattle.bsv_design.specs.design.Guards.{needs_from}
use Rattle.bsv_design.specs.scheme.Schemes.{Asking, filled, if_asked}
use Rattle.bsv_design.specs.scheme.Traces.{Site, site_at}
use Rattle.bsv_design.specs.design.Widths.{call_named}
use Rattle.bsv_serial.specs.declared.calls_made.MadeCall.{MadeCall}
use Rattle.bsv_serial.specs.Bodies.{CanBeComputed, holds, words_under}
use Rattle.bsv_serial.specs.Sights.{look_with, or_none}

-- what elements are computed from
pub record SettingData : Type 0 where
  pub kinds : List Kind
  pub elements : List Element
  -- the guards that have to hold
  pub needs : List (List Need)
  pub asking : Asking
  -- the parts that methods look at after the calls that they see
  pub state : List Part

-- the words that the element is asked with, and 0 where it is not asked
abbrev pub given_to : SettingData → Element → ℕ → List Bits
given_to g e n = filled e.arguments (if_asked (slice_get g.asking.asked n) (slice_get g.asking.args n))

module _ (g : SettingData) (calls_made : List (List MadeCall)) (n : ℕ) where
  abbrev ready_of : Option Element → Bool
  ready_of None = false
  ready_of (Some e) = holds g.kinds (look_with g.kinds g.state calls_made) e (or_none (slice_get g.needs n)) (given_to g e n)

  abbrev words_of : Option Element → List Bits
  words_of None = []
  words_of (Some e) = words_under g.kinds (look_with g.kinds g.state calls_made) e (given_to g e n)

  -- every guard and every condition holds
  unfoldable pub is_ready : Bool
  is_ready = ready_of (slice_get g.elements n)

  -- the words of its nodes
  unfoldable pub words_at : List Bits
  words_at = words_of (slice_get g.elements n)

  -- it can be computed, and these are the guards that its calls need
  pub record CanRun : Type 0 where
    pub element : Element
    pub is : slice_get g.elements n ≡ Some element
    pub body : CanBeComputed g.kinds g.state calls_made element (given_to g element n)
    pub needs : slice_get g.needs n ≡ Some (needs_from g.kinds 0 element.calls)
    pub named : IsTrue (list_all (call_named g.kinds) element.calls)

abbrev pub sites_of : List Kind → List Bits → Option Element → List Site
sites_of ks ws None = []
sites_of ks ws (Some e) = map (site_at ks ws) e.calls

abbrev pub value_of : List Bits → Option Element → Option Bits
value_of ws None = None
value_of ws (Some e) = option_map (at ws) e.result
