-- What the definitions see of the values of the code.
use Rattle.std.specs.Prelude.{◌≡◌, ◌⊎◌, Option, Some, None, Result, Ok, Err}
use Rattle.bsv_scopes.specs.Seen.{entries}
use Rattle.bsv_names.specs.declared.place.Place.{Place}
use Rattle.bsv_names.specs.UntypedSeen.{untyped}
use Rattle.bsv_types.specs.declared.typed.Typed.{Typed}
use Rattle.bsv_modules.specs.Seen.{types_of}
use Rattle.bsv_check.specs.declared.checking.Done as code_done
use Rattle.bsv_check.specs.declared.checking.Parts as code_parts
use Rattle.bsv_check.specs.declared.blame.Blame as code_blame
use Rattle.bsv_check.specs.declared.checking.PlaceFail.{PlaceFail}
use Rattle.bsv_check.specs.declared.checking.PlaceFail.TheVariants as place_fail
use Rattle.bsv_check.specs.declared.fault.CheckFault.{CheckFault}
use Rattle.bsv_check.specs.declared.fault.CheckFault.TheVariants as fault
use Rattle.bsv_check.specs.Headers.{AtPlace}
use Rattle.bsv_check.specs.Blame.{Blame}
use Rattle.bsv_check.specs.Checked.{Done, ProgramParts, made_of, Refused, twice_defined, bad_attribute, unknown_name, type_fault, width_fault}

abbrev pub done_of : code_done.Done → Done
done_of d = record { functions = d.functions; modules = d.modules }

abbrev pub made_by : code_parts.Parts → ProgramParts
made_by x = made_of (types_of x.types) (done_of x.done)

-- what is blamed so far
abbrev pub blame_of : code_blame.Blame → Blame
blame_of b = record { untyped = untyped b.untyped; reaches = entries b.reaches; fault = b.fault }

-- what a function that fails leaves open: nothing where it says that there is no typing at this place
abbrev pub FailsAtPlace : {Y : Type 0} → PlaceFail → AtPlace Y → Type 0
FailsAtPlace place_fail.Memory given = Unit {0}
FailsAtPlace (place_fail.At place) given = given ≡ Err place

-- what a function gives, as it is seen, is what the definition gives, unless memory ran out
abbrev pub GivesPlace : {X Y : Type 0} → (X → Y) → Result X PlaceFail → AtPlace Y → Type 0
GivesPlace view (Ok x) given = given ≡ Ok (view x)
GivesPlace view (Err e) given = FailsAtPlace e given

-- ---- answers

-- the parts of a typed program
abbrev pub typed_seen : Typed → ProgramParts
typed_seen t = record { enums = t.enums; structs = t.structs; interfaces = t.interfaces; functions = t.functions; modules = t.modules }

-- a refusal that the code gives, which is one of these; nothing where memory ran out
abbrev pub Refusing : CheckFault → (Refused → Type 0) → Type 0
Refusing fault.OutOfMemory is = Unit {0}
Refusing (fault.TwiceDefined place) is = is (twice_defined place)
Refusing (fault.BadAttribute place) is = is (bad_attribute place)
Refusing (fault.UnknownName place) is = is (unknown_name place)
Refusing (fault.TypeFault place) is = is (type_fault place)
Refusing (fault.WidthFault place) is = is (width_fault place)

-- what the code answers, as it is seen, is what the definition gives, unless memory ran out
abbrev pub Answers : {X : Type 0} → (X → ProgramParts) → Result X CheckFault → Result ProgramParts Refused → Type 0
Answers view (Ok x) given = given ≡ Ok (view x)
Answers view (Err e) given = Refusing e (λ r. given ≡ Err r)

-- the refusal is this one, or there is none
abbrev pub Refuses : {X : Type 0} → Result X CheckFault → Option Refused → Type 0
Refuses (Ok x) given = given ≡ None
Refuses (Err e) given = Refusing e (λ r. given ≡ Some r)

-- the code answers with this fault at a place exactly where the definition refuses so, unless memory ran out
abbrev pub Stands : (Place → CheckFault) → (Place → Refused) → Result Typed CheckFault → Result ProgramParts Refused → Type 0
Stands code refused result given =
    (place : Place) → (result ≡ Err (code place) → given ≡ Err (refused place)) × (given ≡ Err (refused place) → (result ≡ Err fault.OutOfMemory) ⊎ (result ≡ Err (code place)))
