-- A clock as what each element does in it: by urgency, each element looks at what the more urgent ones do, and no list has
-- to be guessed. `settled` promises that this is the clock.
use Rattle.std.specs.Prelude.{◌≡◌, ◌<◌, ℕ, zero, suc, Bool, cond, not, ◌&&◌, List, [], filter, length, slice_get, Option, Some, None, is_some}
use Rattle.std.specs.List.{list_any, flat_map}
use Rattle.bsv_prim.specs.declared.part.Part.{Part}
use Rattle.bsv_design.specs.declared.schedule.Schedule.{Schedule}
use Rattle.bsv_design.specs.design.Bodies.{Target}
use Rattle.bsv_design.specs.scheme.Schemes.{Scheme, Asking, Called, Look, ready, calls}
use Rattle.bsv_design.specs.scheme.Serial.{by_rank}
use Rattle.bsv_design.specs.scheme.States.{emptied, after_calls}
use Rattle.bsv_graph.specs.Orders.{place_of}
use Rattle.bsv_guard.specs.ElementLaws.{IsUse}
use Rattle.bsv_clock.specs.Clocks.{is_in, may_fire}
use Rattle.bsv_clock.specs.Looks.{look_after, seen_by}

-- of each element its calls by rank, or nothing where it does not fire
abbrev pub Doing : Type 0
Doing = ℕ → Option (List Called)

abbrev pub deed : Option (List Called) → List Called
deed None = []
deed (Some cs) = cs

-- the calls of these elements, one after the other
unfoldable pub deeds : Doing → List ℕ → List Called
deeds D ns = flat_map (λ n. deed (D n)) ns

-- it fires
abbrev pub fires : Doing → ℕ → Bool
fires D n = is_some (D n)

-- what the methods look at in such a clock
unfoldable pub look_of : Scheme → Schedule → List Part → Doing → Look
look_of S made s D = look_after S.kinds (emptied S.kinds s) (deeds D made.execution)

abbrev pub or_no_numbers : Option (List ℕ) → List ℕ
or_no_numbers None = []
or_no_numbers (Some ns) = ns

-- the first element stops the second one, by the lists of the schedule
unfoldable pub stops_in : Schedule → ℕ → ℕ → Bool
stops_in made f n = is_in (or_no_numbers (slice_get made.stops f)) n

-- some element that fires stops it
unfoldable pub is_stopped : Schedule → Doing → ℕ → Bool
is_stopped made D n = list_any (λ f. fires D f && stops_in made f n) made.urgency

-- an element fires where it may, is ready under the look, and is stopped by none that fires
unfoldable pub decide : Bool → Scheme → Schedule → Asking → List Part → Doing → ℕ → Option (List Called)
decide aggressive S made q s D n =
    cond (may_fire S q n && ready aggressive S q n (look_of S made s D) && not (is_stopped made D n))
    (Some (by_rank S.kinds (calls S q n (look_of S made s D)))) None

-- each element makes calls of methods that it uses
abbrev pub DoesWithin : Scheme → Doing → Type 0
DoesWithin S D = (n k : ℕ) (c : Called) → slice_get (deed (D n)) k ≡ Some c → IsUse S n c.target

-- they do the same of all that are more urgent
abbrev pub DoAlikeBefore : Schedule → ℕ → Doing → Doing → Type 0
DoAlikeBefore made n D E = (f : ℕ) → place_of made.urgency f < place_of made.urgency n → D f ≡ E f

-- what is decided of an element rests on what the more urgent ones do
abbrev pub RestsOnUrgent : Bool → Scheme → Schedule → Type 0
RestsOnUrgent aggressive S made =
    (q : Asking) (s : List Part) (D E : Doing) (n : ℕ) → n < length S.elements → DoesWithin S D → DoesWithin S E
    → DoAlikeBefore made n D E → decide aggressive S made q s D n ≡ decide aggressive S made q s E n

-- and so do the calls that each method sees that it uses
abbrev pub SeesRestOnUrgent : Scheme → Schedule → Type 0
SeesRestOnUrgent S made =
    (D E : Doing) (n : ℕ) → n < length S.elements → DoesWithin S D → DoesWithin S E → DoAlikeBefore made n D E
    → (t : Target) → IsUse S n t → seen_by S.kinds t (deeds D made.execution) ≡ seen_by S.kinds t (deeds E made.execution)

-- each does what is decided of it
abbrev pub IsSettled : Bool → Scheme → Schedule → Asking → List Part → Doing → Type 0
IsSettled aggressive S made q s D = (n : ℕ) → D n ≡ decide aggressive S made q s D n

-- decided so many times anew, from a clock in which nothing fires
abbrev pub rounds : Bool → Scheme → Schedule → Asking → List Part → ℕ → Doing
rounds aggressive S made q s zero n = None
rounds aggressive S made q s (suc k) n = decide aggressive S made q s (rounds aggressive S made q s k) n

-- what each element does in the clock
unfoldable pub the_clock : Bool → Scheme → Schedule → Asking → List Part → Doing
the_clock aggressive S made q s = rounds aggressive S made q s (suc (length S.elements))

-- the elements that fire, in the execution order
unfoldable pub fired_in : Schedule → Doing → List ℕ
fired_in made D = filter (fires D) made.execution

-- the parts after the clock
unfoldable pub end_of : Scheme → Schedule → List Part → Doing → List Part
end_of S made s D = after_calls S.kinds (emptied S.kinds s) (deeds D made.execution)
