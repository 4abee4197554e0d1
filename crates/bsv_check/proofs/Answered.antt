-- What each answer says.
use Rattle.std.proofs.Common.{inl, inr, Result, Ok, Err, refl}
use Rattle.bsv_types.specs.declared.typed.Typed.{Typed}
use Rattle.bsv_check.specs.declared.fault.CheckFault.{CheckFault}
use Rattle.bsv_check.specs.declared.fault.CheckFault.TheVariants as fault
use Rattle.bsv_check.specs.Checked.{ProgramParts, Refused, twice_defined, bad_attribute, unknown_name, type_fault, width_fault}
use Rattle.bsv_check.specs.Seen.{Answers, Stands, typed_seen}

pub twice_defined_stands : (result : Result Typed CheckFault) (given : Result ProgramParts Refused) → Answers typed_seen result given → Stands fault.TwiceDefined twice_defined result given
twice_defined_stands (Ok t) given is place = (λ e. cc, λ e. cc)
twice_defined_stands (Err fault.OutOfMemory) given is place = (λ e. cc, λ e. inl refl)
twice_defined_stands (Err (fault.TwiceDefined there)) given is place = (λ e. cc, λ e. inr cc)
twice_defined_stands (Err (fault.BadAttribute there)) given is place = (λ e. cc, λ e. cc)
twice_defined_stands (Err (fault.UnknownName there)) given is place = (λ e. cc, λ e. cc)
twice_defined_stands (Err (fault.TypeFault there)) given is place = (λ e. cc, λ e. cc)
twice_defined_stands (Err (fault.WidthFault there)) given is place = (λ e. cc, λ e. cc)

pub bad_attribute_stands : (result : Result Typed CheckFault) (given : Result ProgramParts Refused) → Answers typed_seen result given → Stands fault.BadAttribute bad_attribute result given
bad_attribute_stands (Ok t) given is place = (λ e. cc, λ e. cc)
bad_attribute_stands (Err fault.OutOfMemory) given is place = (λ e. cc, λ e. inl refl)
bad_attribute_stands (Err (fault.TwiceDefined there)) given is place = (λ e. cc, λ e. cc)
bad_attribute_stands (Err (fault.BadAttribute there)) given is place = (λ e. cc, λ e. inr cc)
bad_attribute_stands (Err (fault.UnknownName there)) given is place = (λ e. cc, λ e. cc)
bad_attribute_stands (Err (fault.TypeFault there)) given is place = (λ e. cc, λ e. cc)
bad_attribute_stands (Err (fault.WidthFault there)) given is place = (λ e. cc, λ e. cc)

pub unknown_name_stands : (result : Result Typed CheckFault) (given : Result ProgramParts Refused) → Answers typed_seen result given → Stands fault.UnknownName unknown_name result given
unknown_name_stands (Ok t) given is place = (λ e. cc, λ e. cc)
unknown_name_stands (Err fault.OutOfMemory) given is place = (λ e. cc, λ e. inl refl)
unknown_name_stands (Err (fault.TwiceDefined there)) given is place = (λ e. cc, λ e. cc)
unknown_name_stands (Err (fault.BadAttribute there)) given is place = (λ e. cc, λ e. cc)
unknown_name_stands (Err (fault.UnknownName there)) given is place = (λ e. cc, λ e. inr cc)
unknown_name_stands (Err (fault.TypeFault there)) given is place = (λ e. cc, λ e. cc)
unknown_name_stands (Err (fault.WidthFault there)) given is place = (λ e. cc, λ e. cc)

pub type_fault_stands : (result : Result Typed CheckFault) (given : Result ProgramParts Refused) → Answers typed_seen result given → Stands fault.TypeFault type_fault result given
type_fault_stands (Ok t) given is place = (λ e. cc, λ e. cc)
type_fault_stands (Err fault.OutOfMemory) given is place = (λ e. cc, λ e. inl refl)
type_fault_stands (Err (fault.TwiceDefined there)) given is place = (λ e. cc, λ e. cc)
type_fault_stands (Err (fault.BadAttribute there)) given is place = (λ e. cc, λ e. cc)
type_fault_stands (Err (fault.UnknownName there)) given is place = (λ e. cc, λ e. cc)
type_fault_stands (Err (fault.TypeFault there)) given is place = (λ e. cc, λ e. inr cc)
type_fault_stands (Err (fault.WidthFault there)) given is place = (λ e. cc, λ e. cc)

pub width_fault_stands : (result : Result Typed CheckFault) (given : Result ProgramParts Refused) → Answers typed_seen result given → Stands fault.WidthFault width_fault result given
width_fault_stands (Ok t) given is place = (λ e. cc, λ e. cc)
width_fault_stands (Err fault.OutOfMemory) given is place = (λ e. cc, λ e. inl refl)
width_fault_stands (Err (fault.TwiceDefined there)) given is place = (λ e. cc, λ e. cc)
width_fault_stands (Err (fault.BadAttribute there)) given is place = (λ e. cc, λ e. cc)
width_fault_stands (Err (fault.UnknownName there)) given is place = (λ e. cc, λ e. cc)
width_fault_stands (Err (fault.TypeFault there)) given is place = (λ e. cc, λ e. cc)
width_fault_stands (Err (fault.WidthFault there)) given is place = (λ e. cc, λ e. inr cc)
