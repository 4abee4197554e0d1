-- The texts of a report and of a schedule. The name of an element is looked up by its place.
use Rattle.std.specs.Prelude.{ℕ, ◌+◌, ◌==◌, Bool, true, false, if◌then◌else◌, List, [], ◌∷◌, ◌++◌, map, slice_get, Option, None, Some, codes, decimal}
use Rattle.std.specs.List.{flat_map, join_with_byte}
use Rattle.bsv_bits.specs.Words.{Bits}
use Rattle.bsv_bits.specs.Constants.{constant_text}
use Rattle.bsv_prim.specs.declared.part.Part.{Part}
use Rattle.bsv_prim.specs.declared.part.Part.TheVariants as part
use Rattle.bsv_design.specs.declared.design.NamedPart.{NamedPart}
use Rattle.bsv_design.specs.declared.element.Element.{Element}
use Rattle.bsv_design.specs.declared.fired.Fired.{Fired}
use Rattle.bsv_design.specs.declared.kind.Kind.{Kind}
use Rattle.bsv_design.specs.declared.schedule.Schedule.{Schedule}
use Rattle.bsv_design.specs.declared.kind.Kind.TheVariants as kind

-- the end of each line
abbrev pub line_feed : List ℕ
line_feed = 10 ∷ []

-- ---- names

abbrev pub name_of : Option Element → List ℕ
name_of None = []
name_of (Some e) = e.name

-- the name of the element at a place; nothing where there is none
abbrev pub name_at : List Element → ℕ → List ℕ
name_at elements place = name_of (slice_get elements place)

-- the names, each after a blank
abbrev pub names : (ℕ → List ℕ) → List ℕ → List ℕ
names named places = flat_map (λ place. codes " " ++ named place) places

-- a word, and names after it
abbrev pub list_line : List ℕ → (ℕ → List ℕ) → List ℕ → List ℕ
list_line head named places = head ++ names named places ++ line_feed

-- ---- states

-- registers and queues have a line, wires have none
abbrev pub has_line : Kind → Bool
has_line (kind.Reg k) = true
has_line (kind.RegU k) = true
has_line (kind.Wire k) = false
has_line (kind.DWire k) = false
has_line (kind.RWire k) = false
has_line (kind.Pulse k) = false
has_line (kind.Plain k) = true
has_line (kind.Pipeline k) = true
has_line (kind.Bypass k) = true

-- the words from the front, as `[8'h05 8'h06]`
unfoldable pub queue_text : List Bits → List ℕ
queue_text words = codes "[" ++ join_with_byte 32 (map constant_text words) ++ codes "]"

-- a word that so many come before, with a blank where there are some
abbrev pub word_text : ℕ → Bits → List ℕ
word_text number word = if number == 0 then constant_text word else codes " " ++ constant_text word

abbrev pub words_from : ℕ → List Bits → List ℕ
words_from number [] = []
words_from number (word ∷ words) = word_text number word ++ words_from (number + 1) words

abbrev pub part_text : Part → List ℕ
part_text (part.Number word) = constant_text word
part_text (part.Queue queue) = queue_text queue.items
part_text (part.Held held) = []

-- `c.x = 4'h1`
abbrev pub state_line : NamedPart → Part → List ℕ
state_line instance held =
    if has_line instance.kind then instance.path ++ codes " = " ++ part_text held ++ line_feed else []

-- of each instance, in building order
abbrev pub state_lines : List NamedPart → List Part → List ℕ
state_lines (instance ∷ instances) (held ∷ parts) = state_line instance held ++ state_lines instances parts
state_lines _ _ = []

-- ---- reports

unfoldable pub opening_text : List NamedPart → List Part → List ℕ
opening_text instances parts = codes "opening" ++ line_feed ++ state_lines instances parts

abbrev pub number_line : ℕ → List ℕ
number_line number = codes "clock " ++ decimal number ++ line_feed

-- an element that was ready and did not fire, and the one that stopped it
abbrev pub stopped_line : (ℕ → List ℕ) → ℕ × ℕ → List ℕ
stopped_line named pair = codes "stopped " ++ named pair.0 ++ (codes " by " ++ named pair.1) ++ line_feed

-- a method that was asked and not ready
abbrev pub blocked_line : (ℕ → List ℕ) → ℕ → List ℕ
blocked_line named place = codes "blocked " ++ named place ++ line_feed

-- what a method gave
abbrev pub result_line : (ℕ → List ℕ) → ℕ × Bits → List ℕ
result_line named gave = named gave.0 ++ codes " -> " ++ constant_text gave.1 ++ line_feed

-- what happened in a clock
unfoldable pub event_lines : (ℕ → List ℕ) → Fired → List ℕ
event_lines named fired =
    list_line (codes "fired") named fired.list.items
    ++ flat_map (stopped_line named) fired.stopped.items
    ++ flat_map (blocked_line named) fired.blocked.items
    ++ flat_map (result_line named) fired.results.items

-- the clock of a number, and the state after it
unfoldable pub clock_text : (ℕ → List ℕ) → ℕ → Fired → List NamedPart → List Part → List ℕ
clock_text named number fired instances parts =
    number_line number ++ event_lines named fired ++ state_lines instances parts

-- ---- schedules

abbrev pub or_none : Option (List ℕ) → List ℕ
or_none None = []
or_none (Some places) = places

-- the elements that the one at a place stops
abbrev pub stopped_by : List (List ℕ) → ℕ → List ℕ
stopped_by stops place = or_none (slice_get stops place)

-- an element that stops others, and these
abbrev pub some_stops : (ℕ → List ℕ) → ℕ → List ℕ → List ℕ
some_stops named place stopped = codes "stops " ++ named place ++ codes ":" ++ names named stopped ++ line_feed

-- nothing where it stops none
abbrev pub stops_text : (ℕ → List ℕ) → ℕ → List ℕ → List ℕ
stops_text named place [] = []
stops_text named place (s ∷ stopped) = some_stops named place (s ∷ stopped)

abbrev pub stops_line : (ℕ → List ℕ) → List (List ℕ) → ℕ → List ℕ
stops_line named stops place = stops_text named place (stopped_by stops place)

-- both orders, and by urgency which elements stop which
unfoldable pub schedule_text : (ℕ → List ℕ) → Schedule → List ℕ
schedule_text named schedule =
    list_line (codes "execution") named schedule.execution ++ list_line (codes "urgency") named schedule.urgency
    ++ flat_map (stops_line named schedule.stops) schedule.urgency
