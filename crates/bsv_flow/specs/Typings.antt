-- The typing of what was loaded, or its refusal: the first kind that occurs anywhere, where it stands.
use Rattle.std.specs.Prelude.{◌≡◌, ℕ, List, [], slice_get, Option, Some, None, Result, Ok, Err}
use Rattle.bsv_names.specs.declared.place.Place.{Place}
use Rattle.bsv_check.specs.declared.fault.CheckFault.{CheckFault}
use Rattle.bsv_check.specs.declared.fault.CheckFault.TheVariants as fault
use Rattle.bsv_check.specs.Checked as checked
use Rattle.bsv_check.specs.Checked.{ProgramParts, Refused, checked}
use Rattle.bsv_flow.specs.declared.loading.Loaded.{Loaded}
use Rattle.bsv_flow.specs.declared.refusal.Refusal.{Refusal}
use Rattle.bsv_flow.specs.declared.refusal.Refusal.TheVariants as refusal
use Rattle.bsv_flow.specs.Loads.{IsLoaded, Refuses}
use Rattle.bsv_flow.specs.Positions.{line, column}

-- the name and the bytes of the file of this number. Of what was loaded each package has its file
abbrev pub or_empty : Option (List ℕ) → List ℕ
or_empty None = []
or_empty (Some bytes) = bytes

abbrev pub file_of : Loaded → ℕ → List ℕ
file_of l number = or_empty (slice_get l.files number)

abbrev pub source_of : Loaded → ℕ → List ℕ
source_of l number = or_empty (slice_get l.sources number)

abbrev pub line_of : Loaded → Place → ℕ
line_of l p = line (source_of l p.«package») p.span.start

abbrev pub column_of : Loaded → Place → ℕ
column_of l p = column (source_of l p.«package») p.span.start

-- a refusal, with the file, the line and the column of its place
abbrev pub placed : Loaded → Refused → Refusal
placed l (checked.Refused.twice_defined p) = refusal.TwiceDefined (file_of l p.«package») (line_of l p) (column_of l p)
placed l (checked.Refused.bad_attribute p) = refusal.BadAttribute (file_of l p.«package») (line_of l p) (column_of l p)
placed l (checked.Refused.unknown_name p) = refusal.UnknownName (file_of l p.«package») (line_of l p) (column_of l p)
placed l (checked.Refused.type_fault p) = refusal.TypeFault (file_of l p.«package») (line_of l p) (column_of l p)
placed l (checked.Refused.width_fault p) = refusal.WidthFault (file_of l p.«package») (line_of l p) (column_of l p)

-- the refusal that a fault of the check tells; want of memory is none
abbrev pub told : CheckFault → Option Refused
told fault.OutOfMemory = None
told (fault.TwiceDefined p) = Some (checked.Refused.twice_defined p)
told (fault.BadAttribute p) = Some (checked.Refused.bad_attribute p)
told (fault.UnknownName p) = Some (checked.Refused.unknown_name p)
told (fault.TypeFault p) = Some (checked.Refused.type_fault p)
told (fault.WidthFault p) = Some (checked.Refused.width_fault p)

abbrev pub with_place : Loaded → Result ProgramParts Refused → Result ProgramParts Refusal
with_place l (Ok m) = Ok m
with_place l (Err r) = Err (placed l r)

-- what the packages are typed as, or the first refusal
abbrev pub typing_of : Loaded → Result ProgramParts Refusal
typing_of l = with_place l (checked l.packages)

-- what is loaded, and has a typing
pub record IsTyped (first : List ℕ) (contents : List ℕ → List ℕ) (l : Loaded) : Type 0 where
  pub loaded : IsLoaded first contents l
  pub made : ProgramParts
  pub typed : typing_of l ≡ Ok made

-- nothing is typed: the first refusal, in loading or after it in typing
pub data IsUntyped (first : List ℕ) (contents : List ℕ → List ℕ) (r : Refusal) : Type 0 where
  loading : Refuses first contents r → IsUntyped first contents r
  typing : (l : Loaded) → IsLoaded first contents l → typing_of l ≡ Err r → IsUntyped first contents r
