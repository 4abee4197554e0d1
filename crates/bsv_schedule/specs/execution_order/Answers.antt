-- What each fault tells of how elements relate.
use Rattle.std.specs.Prelude.{◌≡◌, ◌≢◌, ◌⊎◌, ℕ, List, Some, slice_get, Result, Ok, Err}
use Rattle.bsv_design.specs.declared.attributes.Attribute.TheVariants as attribute
use Rattle.bsv_design.specs.declared.attributes.Pair.{Pair}
use Rattle.bsv_schedule.specs.relating.Elements.{edge_of}
use Rattle.bsv_schedule.specs.execution_order.Orders.{WireCycle, ValueClash, ExecutionCycle, Executes}
use Rattle.bsv_schedule.specs.relating.Relating.{Relating}
use Rattle.bsv_schedule.specs.declared.execution_order.fault.OrderFault.{OrderFault}
use Rattle.bsv_schedule.specs.declared.execution_order.fault.OrderFault.TheVariants as fault

-- the pair of `execution_order` at this place
pub record IsOrderingPair (r : Relating) (k : ℕ) (p : Pair) : Type 0 where
  pub attribute : p.attribute ≡ attribute.ExecutionOrder
  pub edge : slice_get r.ordering k ≡ Some (edge_of p)

-- why elements that relate in this way have no execution order
abbrev pub RefusesExecution : Relating → OrderFault → Type 0
RefusesExecution r (fault.WireCycle a) = WireCycle r a
RefusesExecution r (fault.ValueClash v) = ValueClash r v
RefusesExecution r (fault.ExecutionCycle p) = (k : ℕ) × ExecutionCycle r k × IsOrderingPair r k p
RefusesExecution r fault.OutOfMemory = Unit {0}

-- the answer to how elements relate, where there is memory
abbrev pub IsExecutionAnswer : Relating → Result (List ℕ) OrderFault → Type 0
IsExecutionAnswer r (Ok xs) = Executes r xs
IsExecutionAnswer r (Err f) = RefusesExecution r f × (f ≢ fault.OutOfMemory)

-- what is given is the answer, or memory ran out
abbrev pub IsExecutionUnlessMemory : Result (List ℕ) OrderFault → Result (List ℕ) OrderFault → Type 0
IsExecutionUnlessMemory given answer = (given ≡ answer) ⊎ (given ≡ Err fault.OutOfMemory)
