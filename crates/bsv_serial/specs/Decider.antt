-- What comes of each element in a clock, as it is decided by urgency.
use Rattle.std.specs.Prelude.{◌≡◌, ◌<◌, ℕ, Bool, true, false, ◌||◌, List, [], ◌∷◌, length, replicate, slice_get, slice_set, slice_index, Option, Some, None, if◌then◌else◌}
use Rattle.std.specs.List.{AllByRecursion}
use Rattle.bsv_bits.specs.Words.{Bits}
use Rattle.bsv_design.specs.declared.element.Element.{Element}
use Rattle.bsv_design.specs.design.Roles.{is_rule}
use Rattle.bsv_clock.specs.Clocks.{is_asked}
use Rattle.bsv_serial.specs.declared.fates.Fate.{Fate}
use Rattle.bsv_serial.specs.declared.fates.Fate.TheVariants as fate
use Rattle.bsv_serial.specs.declared.calls_made.MadeCall.{MadeCall}
use Rattle.bsv_serial.specs.Making.{with_sites}
use Rattle.bsv_serial.specs.Settings.{SettingData, CanRun, is_ready, words_at, sites_of, value_of}
use Rattle.bsv_serial.specs.Sights.{or_none}

-- what a clock is decided from
pub record Course : Type 0 where
  pub ground : SettingData
  -- of each element those that it stops, and its place in the execution order
  pub stops : List (List ℕ)
  pub places : List ℕ

-- what is decided so far
pub record SoFar : Type 0 where
  -- the calls that are made on each part
  pub calls_made : List (List MadeCall)
  -- of each element the first one that fires and stops it
  pub stoppers : List (Option ℕ)
  pub fates : List Fate

-- ---- stopping

abbrev pub flattened : Option (Option ℕ) → Option ℕ
flattened None = None
flattened (Some o) = o

-- the element is stopped by this one, where none stops it so far
abbrev pub stopped_at : List (Option ℕ) → ℕ → ℕ → Option ℕ → List (Option ℕ)
stopped_at ss n by (Some other) = ss
stopped_at ss n by None = slice_set ss n (Some by)

unfoldable pub all_stopped : List (Option ℕ) → List ℕ → ℕ → List (Option ℕ)
all_stopped ss [] by = ss
all_stopped ss (n ∷ ns) by = all_stopped (stopped_at ss n by (flattened (slice_get ss n))) ns by

-- ---- one element

abbrev pub with_fate : SoFar → ℕ → Fate → SoFar
with_fate x n f = record { calls_made = x.calls_made; stoppers = x.stoppers; fates = slice_set x.fates n f }

abbrev pub place_in : Course → ℕ → ℕ
place_in c n = slice_index c.places n

module _ (c : Course) (x : SoFar) (n : ℕ) where
  abbrev pub words : List Bits
  words = words_at c.ground x.calls_made n

  -- it fires
  unfoldable pub fired : Option Element → SoFar
  fired o = record {
    calls_made = with_sites c.ground.kinds (place_in c n) x.calls_made (sites_of c.ground.kinds words o);
    stoppers = all_stopped x.stoppers (or_none (slice_get c.stops n)) n;
    fates = slice_set x.fates n (fate.Fired (value_of words o));
  }

  -- it is ready
  abbrev pub unless_stopped : Option Element → Option ℕ → SoFar
  unless_stopped o (Some by) = with_fate x n (fate.Stopped by)
  unless_stopped o None = fired o

  abbrev pub if_ready : Option Element → Bool → Bool → SoFar
  if_ready o rule true = unless_stopped o (flattened (slice_get x.stoppers n))
  if_ready o rule false = if rule then x else with_fate x n fate.Blocked

  abbrev pub of_element : Option Element → SoFar
  of_element None = x
  of_element (Some e) =
      if is_rule e.role || is_asked c.ground.asking n then if_ready (Some e) (is_rule e.role) (is_ready c.ground x.calls_made n) else x

  unfoldable pub decided : SoFar
  decided = of_element (slice_get c.ground.elements n)

  -- it can be decided
  pub record CanDecide : Type 0 where
    pub run : CanRun c.ground x.calls_made n
    pub place : n < length c.places
    pub calls : length x.calls_made ≡ length c.ground.kinds
    pub stoppers : length x.stoppers ≡ length c.ground.elements
    pub fates : length x.fates ≡ length c.ground.elements
    pub stopped : AllByRecursion (λ m. m < length c.ground.elements) (or_none (slice_get c.stops n))

-- ---- all elements

-- nothing is decided yet
abbrev pub undecided : Course → SoFar
undecided c = record {
  calls_made = replicate (length c.ground.kinds) [];
  stoppers = replicate (length c.ground.elements) None;
  fates = replicate (length c.ground.elements) fate.Idle;
}

-- these elements are decided, one after the other
unfoldable pub all_decided : Course → SoFar → List ℕ → SoFar
all_decided c x [] = x
all_decided c x (n ∷ ns) = all_decided c (decided c x n) ns

-- each of them can be, where those before it are
abbrev pub CanDecideAll : Course → SoFar → List ℕ → Type 0
CanDecideAll c x [] = Unit {0}
CanDecideAll c x (n ∷ ns) = CanDecide c x n × CanDecideAll c (decided c x n) ns
