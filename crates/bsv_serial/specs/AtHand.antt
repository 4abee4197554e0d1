-- What the definitions see of what the code has at hand.
use Rattle.std.specs.Prelude.{◌≡◌, ℕ, IsTrue, List, map, slice_get, Some}
use Rattle.std.specs.List.{list_all}
use Rattle.bsv_bits.specs.Words.{Bits}
use Rattle.bsv_prim.specs.declared.part.Part.{Part}
use Rattle.bsv_design.specs.declared.design.Design.{Design}
use Rattle.bsv_design.specs.declared.design.NamedPart.{NamedPart}
use Rattle.bsv_design.specs.declared.element.Element.{Element}
use Rattle.bsv_design.specs.declared.kind.Kind.{Kind}
use Rattle.bsv_design.specs.declared.node.Node.{Node}
use Rattle.bsv_design.specs.declared.schedule.Need.{Need}
use Rattle.bsv_design.specs.declared.schedule.Schedule.{Schedule}
use Rattle.bsv_design.specs.design.Bodies.{Answers}
use Rattle.bsv_design.specs.design.Guards.{needs_from}
use Rattle.bsv_design.specs.scheme.Schemes.{Asking, Look, filled, answers}
use Rattle.bsv_design.specs.scheme.Seen.{asking}
use Rattle.bsv_design.specs.design.Widths.{call_named}
use Rattle.bsv_serial.specs.declared.body.Body.{Body}
use Rattle.bsv_serial.specs.declared.decider.Decider.{Decider}
use Rattle.bsv_serial.specs.declared.fates.Fates.{Fates}
use Rattle.bsv_serial.specs.declared.looks.Looks.{Looks}
use Rattle.bsv_serial.specs.declared.setting.Setting.{Setting}
use Rattle.bsv_serial.specs.Bodies.{CanBeComputed, AreOpen, HasOperands, words_under}
use Rattle.bsv_serial.specs.Decider.{Course, SoFar}
use Rattle.bsv_serial.specs.Settings.{SettingData}
use Rattle.bsv_serial.specs.Sights.{look_with}

abbrev pub kinds : List NamedPart → List Kind
kinds ps = map (λ p. p.kind) ps

abbrev pub look : Looks → Look
look l = look_with (kinds l.parts.now) l.state.now l.calls_made.now

-- ---- an element

abbrev pub body_kinds : Body → List Kind
body_kinds b = kinds b.looks.parts.now

abbrev pub body_answers : Body → Answers
body_answers b = answers (body_kinds b) (look b.looks)

-- the words of its arguments
abbrev pub arguments : Body → List Bits
arguments b = filled b.element.now.arguments b.given.now

abbrev pub IsComputable : Body → Type 0
IsComputable b = CanBeComputed (body_kinds b) b.looks.state.now b.looks.calls_made.now b.element.now (arguments b)

abbrev pub AllOpen : Body → Type 0
AllOpen b = AreOpen (body_kinds b) (look b.looks) b.element.now.calls

abbrev pub CanFollow : Body → List Bits → Node → Type 0
CanFollow b = HasOperands (body_kinds b) b.element.now.arguments b.element.now.calls

abbrev pub body_words : Body → List Bits
body_words b = words_under (body_kinds b) (look b.looks) b.element.now (arguments b)

-- these are the guards that the calls need
abbrev pub AreNeedsOf : Body → List Need → Type 0
AreNeedsOf b needs = needs ≡ needs_from (body_kinds b) 0 b.element.now.calls

-- ---- all elements

abbrev pub ground : Setting → SettingData
ground s = record {
  kinds = kinds s.design.now.parts;
  elements = s.design.now.elements;
  needs = s.guards.now.needs;
  asking = asking s.requests.now;
  state = s.state.now;
}

-- the calls of the element are of methods of parts
abbrev pub AreNamed : Setting → ℕ → Type 0
AreNamed s n =
    (e : Element) → slice_get s.design.now.elements n ≡ Some e → IsTrue (list_all (call_named (kinds s.design.now.parts)) e.calls)

-- ---- a clock

abbrev pub so_far : Fates → SoFar
so_far f = record { calls_made = f.calls_made.items; stoppers = f.stoppers.items; fates = f.fates.items }

abbrev pub course : Decider → Course
course d = record { ground = ground d.setting; stops = d.schedule.now.stops; places = d.places.now }

-- what a clock is decided from: a design, the guards that its elements need, its schedule, what is asked, the parts at the
-- clock's start, and the places in the execution order
abbrev pub clock_course : Design → List (List Need) → Schedule → Asking → List Part → List ℕ → Course
clock_course design needs made q start places = record {
  ground = record { kinds = kinds design.parts; elements = design.elements; needs = needs; asking = q; state = start };
  stops = made.stops;
  places = places;
}
