-- A fault of the check, with its place, is the refusal of what was loaded.
use Rattle.std.proofs.Common.{◌≡◌, ◌∙◌, Some, Err, option_map, ap}
use Rattle.std.proofs.lemmas.Option.{same_Some}
use Rattle.bsv_check.specs.declared.fault.CheckFault.{CheckFault}
use Rattle.bsv_check.specs.declared.fault.CheckFault.TheVariants as fault
use Rattle.bsv_check.specs.Checked.{Refused, checked}
use Rattle.bsv_check.specs.Seen.{Refusing}
use Rattle.bsv_flow.specs.declared.loading.Loaded.{Loaded}
use Rattle.bsv_flow.specs.declared.refusal.Refusal.{Refusal}
use Rattle.bsv_flow.specs.Typings.{placed, told, with_place, typing_of}

by_place : (l : Loaded) (q : Refused) (r : Refusal) → checked l.packages ≡ Err q → Some (placed l q) ≡ Some r → typing_of l ≡ Err r
by_place l q r is told_so = ap (with_place l) is ∙ ap Err (same_Some (placed l q) r told_so)

pub told_as : (l : Loaded) (e : CheckFault) (r : Refusal) → Refusing e (λ q. checked l.packages ≡ Err q) → option_map (placed l) (told e) ≡ Some r → typing_of l ≡ Err r
told_as l fault.OutOfMemory r is told_so = absurd cc
told_as l (fault.TwiceDefined p) r is told_so = by_place l (Refused.twice_defined p) r is told_so
told_as l (fault.BadAttribute p) r is told_so = by_place l (Refused.bad_attribute p) r is told_so
told_as l (fault.UnknownName p) r is told_so = by_place l (Refused.unknown_name p) r is told_so
told_as l (fault.TypeFault p) r is told_so = by_place l (Refused.type_fault p) r is told_so
told_as l (fault.WidthFault p) r is told_so = by_place l (Refused.width_fault p) r is told_so
