-- What each answer tells of how elements relate.
use Rattle.std.specs.Prelude.{◌≡◌, ◌≢◌, ◌⊎◌, ℕ, List, filter, Some, slice_get, Result, Ok, Err}
use Rattle.bsv_design.specs.declared.attributes.Pair.{Pair}
use Rattle.bsv_schedule.specs.relating.Elements.{is_urging}
use Rattle.bsv_schedule.specs.relating.Relating.{Relating}
use Rattle.bsv_schedule.specs.urgency_order.Orders.{UrgencyCycle, MethodBehindRule, Urges}
use Rattle.bsv_schedule.specs.declared.urgency_order.fault.UrgencyFault.{UrgencyFault}
use Rattle.bsv_schedule.specs.declared.urgency_order.fault.UrgencyFault.TheVariants as fault

-- the pairs of `descending_urgency` and `preempts`, in the order of the text
abbrev pub urging_pairs : List Pair → List Pair
urging_pairs ps = filter (λ p. is_urging p.attribute) ps

-- why elements that relate in this way, by these pairs of attributes, have no urgency order
abbrev pub RefusesUrgency : Relating → List Pair → UrgencyFault → Type 0
RefusesUrgency r ps (fault.UrgencyCycle p) = (k : ℕ) × UrgencyCycle r k × (slice_get (urging_pairs ps) k ≡ Some p)
RefusesUrgency r ps (fault.MethodBehindRule m q) = MethodBehindRule r m q
RefusesUrgency r ps fault.OutOfMemory = Unit {0}

-- the answer to how they relate, where there is memory
abbrev pub IsUrgencyAnswer : Relating → List Pair → Result (List ℕ) UrgencyFault → Type 0
IsUrgencyAnswer r ps (Ok xs) = Urges r xs
IsUrgencyAnswer r ps (Err f) = RefusesUrgency r ps f × (f ≢ fault.OutOfMemory)

-- what is given is the answer, or memory ran out
abbrev pub IsUrgencyUnlessMemory : Result (List ℕ) UrgencyFault → Result (List ℕ) UrgencyFault → Type 0
IsUrgencyUnlessMemory given answer = (given ≡ answer) ⊎ (given ≡ Err fault.OutOfMemory)
