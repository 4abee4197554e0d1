-- There is one answer of the execution order.
use Rattle.std.proofs.Common.{◌≡◌, ℕ, inl, inr, List, refl, sym, ◌∙◌, ap}
use Rattle.std.specs.Prelude.{Result, Ok, Err, IfOk, IfErr, slice_get}
use Rattle.std.proofs.lemmas.Bool.{cases_order}
use Rattle.std.proofs.lemmas.Option.{same_Some}
use Rattle.bsv_design.specs.declared.attributes.Pair.{Pair}
use Rattle.bsv_graph.specs.declared.edge.Edge.{Edge}
use Rattle.bsv_schedule.specs.relating.Elements.{edge_of}
use Rattle.bsv_schedule.specs.execution_order.Orders.{Executes, IsFirstValueClash}
use Rattle.bsv_schedule.specs.relating.Relating.{Relating, early_edges}
use Rattle.bsv_graph.specs.Walks.{LeastOnCycle}
use Rattle.bsv_graph.proofs.GraphLemmas.{closes_one}
use Rattle.bsv_schedule.proofs.OrderLaws.{execution_one}
use Rattle.bsv_schedule.specs.declared.execution_order.fault.OrderFault.{OrderFault}
use Rattle.bsv_schedule.specs.declared.execution_order.fault.OrderFault.TheVariants as fault
use Rattle.bsv_schedule.specs.execution_order.Answers.{IsOrderingPair, RefusesExecution, IsExecutionAnswer, IsExecutionUnlessMemory}

least_one : (es : List Edge) (a b : ℕ) → LeastOnCycle es a → LeastOnCycle es b → a ≡ b
least_one es a b p q = elim (cases_order a b) [
  | inl e ↦ e
  | inr (inl l) ↦ absurd (q.lower a l p.cycle)
  | inr (inr l) ↦ absurd (p.lower b l q.cycle)
]

clash_one : (r : Relating) (a b : ℕ) → IsFirstValueClash r a → IsFirstValueClash r b → a ≡ b
clash_one r a b p q = elim (cases_order a b) [
  | inl e ↦ e
  | inr (inl l) ↦ absurd (q.earlier a l p.clash)
  | inr (inr l) ↦ absurd (p.earlier b l q.clash)
]

pair_one : (r : Relating) (k l : ℕ) (p q : Pair) → k ≡ l → IsOrderingPair r k p → IsOrderingPair r l q → p ≡ q
pair_one r k l p q e x y =
    let s : edge_of p ≡ edge_of q = same_Some (edge_of p) (edge_of q) (sym x.edge ∙ (ap (slice_get r.ordering) e ∙ y.edge)) in
    let a : p.attribute ≡ q.attribute = x.attribute ∙ sym y.attribute in
    λ i. record { attribute = a i; before = ap (λ z. z.from) s i; after = ap (λ z. z.to) s i }

module _ (r : Relating) where
  -- the answers exclude each other
  pub one : (x y : Result (List ℕ) OrderFault) → IsExecutionAnswer r x → IsExecutionAnswer r y → x ≡ y
  one (Ok xs) (Ok ys) p q = ap Ok (execution_one r xs ys p.order q.order)
  one (Ok xs) (Err (fault.WireCycle b)) p q = absurd (p.feeds b q.0.cycle)
  one (Ok xs) (Err (fault.ValueClash w)) p q = absurd (p.values w q.0.1.within q.0.1.clash)
  one (Ok xs) (Err (fault.ExecutionCycle s)) p q = let c = q.0.1.2 in absurd (p.pairs c.before c.behind c.edge c.split c.closes)
  one (Err (fault.WireCycle a)) (Ok ys) p q = absurd (q.feeds a p.0.cycle)
  one (Err (fault.WireCycle a)) (Err (fault.WireCycle b)) p q = ap (λ z. Err (fault.WireCycle z)) (least_one _ a b p.0 q.0)
  one (Err (fault.WireCycle a)) (Err (fault.ValueClash w)) p q = absurd (q.0.0 a p.0.cycle)
  one (Err (fault.WireCycle a)) (Err (fault.ExecutionCycle s)) p q = absurd (q.0.1.0 a p.0.cycle)
  one (Err (fault.ValueClash v)) (Ok ys) p q = absurd (q.values v p.0.1.within p.0.1.clash)
  one (Err (fault.ValueClash v)) (Err (fault.WireCycle b)) p q = absurd (p.0.0 b q.0.cycle)
  one (Err (fault.ValueClash v)) (Err (fault.ValueClash w)) p q = ap (λ z. Err (fault.ValueClash z)) (clash_one r v w p.0.1 q.0.1)
  one (Err (fault.ValueClash v)) (Err (fault.ExecutionCycle s)) p q = absurd (q.0.1.1 v p.0.1.within p.0.1.clash)
  one (Err (fault.ExecutionCycle t)) (Ok ys) p q = let c = p.0.1.2 in absurd (q.pairs c.before c.behind c.edge c.split c.closes)
  one (Err (fault.ExecutionCycle t)) (Err (fault.WireCycle b)) p q = absurd (p.0.1.0 b q.0.cycle)
  one (Err (fault.ExecutionCycle t)) (Err (fault.ValueClash w)) p q = absurd (p.0.1.1 w q.0.1.within q.0.1.clash)
  one (Err (fault.ExecutionCycle t)) (Err (fault.ExecutionCycle s)) p q =
      ap (λ z. Err (fault.ExecutionCycle z))
      (pair_one r p.0.0 q.0.0 t s (closes_one (early_edges r r.count) r.ordering p.0.0 q.0.0 p.0.1.2 q.0.1.2) p.0.2 q.0.2)
  one (Err fault.OutOfMemory) y p q = absurd (p.1 refl)
  one x (Err fault.OutOfMemory) p q = absurd (q.1 refl)

  -- what is given is the answer, or memory ran out
  pub exact : (given answer : Result (List ℕ) OrderFault) → IfOk given (λ xs. Executes r xs) → IfErr given (λ f. RefusesExecution r f) → IsExecutionAnswer r answer
      → IsExecutionUnlessMemory given answer
  exact (Ok xs) answer p q h = inl (one (Ok xs) answer p h)
  exact (Err (fault.WireCycle a)) answer p q h = inl (one (Err (fault.WireCycle a)) answer (q, λ e. cc) h)
  exact (Err (fault.ValueClash v)) answer p q h = inl (one (Err (fault.ValueClash v)) answer (q, λ e. cc) h)
  exact (Err (fault.ExecutionCycle t)) answer p q h = inl (one (Err (fault.ExecutionCycle t)) answer (q, λ e. cc) h)
  exact (Err fault.OutOfMemory) answer p q h = inr refl
