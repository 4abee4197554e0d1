-- Why nothing was compiled, as a stop.
use Rattle.std.proofs.Common.{◌≡◌, ◌∙◌, ℕ, List, Result, Err, Some, refl, sym, ap, subst}
use Rattle.bsv_io.specs.Faults.{MayFault}
use Rattle.bsv_io.specs.Reading.{Reading}
use Rattle.bsv_io.specs.Writing.{Writing}
use Rattle.bsv_flow.specs.declared.refusal.CompileFault.{CompileFault}
use Rattle.bsv_flow.specs.declared.refusal.CompileFault.TheVariants as fault
use Rattle.bsv_flow.specs.declared.refusal.Refusal.{Refusal}
use Rattle.bsv_flow.specs.Buildings.{Rejects}
use Rattle.bsv_flow.specs.Loads.{Reaches}
use Rattle.bsv_top.specs.declared.stop.Stop.{Stop}
use Rattle.bsv_top.specs.declared.stop.Stop.TheVariants as stop
use Rattle.bsv_top.specs.Answers as a
use Rattle.bsv_top.specs.Answers.{Asks}
use Rattle.bsv_top.specs.Outcomes as o
use Rattle.bsv_top.specs.Outcomes.{IsUnread}
use Rattle.bsv_top.specs.Stops.{IsStopOf, stop_of}

module _ {A : Type 0} (words : List (List ℕ)) (file top : List ℕ) (asks : Asks words file top) (f : CompileFault) (s : Stop) (is : s ≡ stop_of f) where
  pub fault_stops : (contents : List ℕ → List ℕ) (out : Writing) → ((r : Refusal) → ◌≡◌ {A = Result A CompileFault} (Err f) (Err (fault.Refused r)) → Rejects file contents top r)
      → ((name : List ℕ) → ◌≡◌ {A = Result A CompileFault} (Err f) (Err (fault.ReadFault name)) → Reaches file contents name) → IsStopOf words contents out out s
  fault_stops contents out rejects reaches = subst (λ (x : Stop). IsStopOf words contents out out x) (sym is) (by f rejects reaches)
    where
      by : (e : CompileFault) → ((r : Refusal) → ◌≡◌ {A = Result A CompileFault} (Err e) (Err (fault.Refused r)) → Rejects file contents top r)
          → ((name : List ℕ) → ◌≡◌ {A = Result A CompileFault} (Err e) (Err (fault.ReadFault name)) → Reaches file contents name) → IsStopOf words contents out out (stop_of e)
      by (fault.Refused r) rejects reaches = a.Answer.refused r asks (rejects r refl)
      by (fault.ReadFault name) rejects reaches = o.FaultText.of_source top asks (reaches name refl)
      by fault.OutOfMemory rejects reaches = tt

  pub fault_unread : (files files' : Reading) (out : Writing) (name : List ℕ) → s ≡ stop.Unread name
      → ((n : List ℕ) → ◌≡◌ {A = Result A CompileFault} (Err f) (Err (fault.ReadFault n)) → MayFault files.faults files'.faults × (files'.blamed ≡ Some n))
      → ((n : List ℕ) → ◌≡◌ {A = Result A CompileFault} (Err f) (Err (fault.ReadFault n)) → (contents : List ℕ → List ℕ) → files.contents ≡ Some contents → Reaches file contents n)
      → IsUnread words name files files' out out
  fault_unread files files' out name unread faults reaches = by f (sym is ∙ unread) faults reaches
    where
      by : (e : CompileFault) → stop_of e ≡ stop.Unread name
          → ((n : List ℕ) → ◌≡◌ {A = Result A CompileFault} (Err e) (Err (fault.ReadFault n)) → MayFault files.faults files'.faults × (files'.blamed ≡ Some n))
          → ((n : List ℕ) → ◌≡◌ {A = Result A CompileFault} (Err e) (Err (fault.ReadFault n)) → (contents : List ℕ → List ℕ) → files.contents ≡ Some contents → Reaches file contents n)
          → IsUnread words name files files' out out
      by (fault.Refused r) same faults reaches = absurd (let no_value : ⊥ = cc in no_value)
      by (fault.ReadFault n) same faults reaches =
          let names : n ≡ name = cc in
          let gave : ◌≡◌ {A = Result A CompileFault} (Err (fault.ReadFault n)) (Err (fault.ReadFault name)) = ap (λ (m : List ℕ). Err (fault.ReadFault m)) names in
          let told = faults name gave in
          o.IsUnread.source file top asks told.0 told.1 (reaches name gave) refl
      by fault.OutOfMemory same faults reaches = absurd (let no_value : ⊥ = cc in no_value)
