-- Why a trace is not run to its end, as a stop.
use Rattle.std.proofs.Common.{◌≡◌, ◌∙◌, ℕ, List, Result, Err, refl, sym, ap}
use Rattle.bsv_lemmas.proofs.Choices.{same_err}
use Rattle.bsv_flow.specs.declared.refusal.Refusal.{Refusal}
use Rattle.bsv_run.specs.declared.halt.Halt.{Halt}
use Rattle.bsv_run.specs.declared.halt.Halt.TheVariants as halt
use Rattle.bsv_top.specs.declared.stop.Stop.{Stop}
use Rattle.bsv_top.specs.declared.stop.Stop.TheVariants as stop
use Rattle.bsv_top.specs.Stops.{stop_for}

-- a bad line stops with its number
of_bad : (h : Halt) (trace : List ℕ) (n number : ℕ) → stop_for h trace n ≡ stop.BadLine number → (h ≡ halt.BadLine) × (n ≡ number)
of_bad halt.BadLine trace n number same = (refl, cc)
of_bad halt.Unreadable trace n number same = absurd (let no_value : ⊥ = cc in no_value)
of_bad halt.Unwritable trace n number same = absurd (let no_value : ⊥ = cc in no_value)

-- a trace that cannot be read, with its name
of_unread : (h : Halt) (trace : List ℕ) (n : ℕ) (name : List ℕ) → stop_for h trace n ≡ stop.Unread name → (h ≡ halt.Unreadable) × (trace ≡ name)
of_unread halt.BadLine trace n name same = absurd (let no_value : ⊥ = cc in no_value)
of_unread halt.Unreadable trace n name same = (refl, cc)
of_unread halt.Unwritable trace n name same = absurd (let no_value : ⊥ = cc in no_value)

of_unwritable : (h : Halt) (trace : List ℕ) (n : ℕ) → stop_for h trace n ≡ stop.Unwritable → h ≡ halt.Unwritable
of_unwritable halt.BadLine trace n same = absurd (let no_value : ⊥ = cc in no_value)
of_unwritable halt.Unreadable trace n same = absurd (let no_value : ⊥ = cc in no_value)
of_unwritable halt.Unwritable trace n same = refl

never_refused : (h : Halt) (trace : List ℕ) (n : ℕ) (r : Refusal) → stop_for h trace n ≡ stop.Refused r → ⊥
never_refused halt.BadLine trace n r same = let no_value : ⊥ = cc in no_value
never_refused halt.Unreadable trace n r same = let no_value : ⊥ = cc in no_value
never_refused halt.Unwritable trace n r same = let no_value : ⊥ = cc in no_value

never_memory : (h : Halt) (trace : List ℕ) (n : ℕ) → stop_for h trace n ≡ stop.OutOfMemory → ⊥
never_memory halt.BadLine trace n same = let no_value : ⊥ = cc in no_value
never_memory halt.Unreadable trace n same = let no_value : ⊥ = cc in no_value
never_memory halt.Unwritable trace n same = let no_value : ⊥ = cc in no_value

never_listed : (h : Halt) (trace : List ℕ) (n number : ℕ) → stop_for h trace n ≡ stop.BadListLine number → ⊥
never_listed halt.BadLine trace n number same = let no_value : ⊥ = cc in no_value
never_listed halt.Unreadable trace n number same = let no_value : ⊥ = cc in no_value
never_listed halt.Unwritable trace n number same = let no_value : ⊥ = cc in no_value

never_counted : (h : Halt) (trace : List ℕ) (n count : ℕ) → stop_for h trace n ≡ stop.BadTraces count → ⊥
never_counted halt.BadLine trace n count same = let no_value : ⊥ = cc in no_value
never_counted halt.Unreadable trace n count same = let no_value : ⊥ = cc in no_value
never_counted halt.Unwritable trace n count same = let no_value : ⊥ = cc in no_value

module _ {A : Type 0} (s : Stop) (h : Halt) (trace : List ℕ) (n : ℕ) (is : s ≡ stop_for h trace n) where
  stopped_as : (t : Stop) → ◌≡◌ {A = Result A Stop} (Err s) (Err t) → stop_for h trace n ≡ t
  stopped_as t same = sym is ∙ same_err s t same

  pub halted_bad : (number : ℕ) → ◌≡◌ {A = Result A Stop} (Err s) (Err (stop.BadLine number)) → (h ≡ halt.BadLine) × (n ≡ number)
  halted_bad number same = of_bad h trace n number (stopped_as (stop.BadLine number) same)

  pub halted_unread : (name : List ℕ) → ◌≡◌ {A = Result A Stop} (Err s) (Err (stop.Unread name)) → (h ≡ halt.Unreadable) × (trace ≡ name)
  halted_unread name same = of_unread h trace n name (stopped_as (stop.Unread name) same)

  pub halted_unwritable : ◌≡◌ {A = Result A Stop} (Err s) (Err stop.Unwritable) → h ≡ halt.Unwritable
  halted_unwritable same = of_unwritable h trace n (stopped_as stop.Unwritable same)

  pub halted_refused : (r : Refusal) → ◌≡◌ {A = Result A Stop} (Err s) (Err (stop.Refused r)) → ⊥
  halted_refused r same = never_refused h trace n r (stopped_as (stop.Refused r) same)

  -- nothing is told of a list
  pub halted_listed : (number : ℕ) → ◌≡◌ {A = Result A Stop} (Err s) (Err (stop.BadListLine number)) → ⊥
  halted_listed number same = never_listed h trace n number (stopped_as (stop.BadListLine number) same)

  pub halted_counted : (count : ℕ) → ◌≡◌ {A = Result A Stop} (Err s) (Err (stop.BadTraces count)) → ⊥
  halted_counted count same = never_counted h trace n count (stopped_as (stop.BadTraces count) same)

  -- nothing wants memory
  pub halted_memory : ◌≡◌ {A = Result A Stop} (Err s) (Err stop.OutOfMemory) → ⊥
  halted_memory same = never_memory h trace n (stopped_as stop.OutOfMemory same)

  -- a trace that could not be read is told
  pub halted_read : ((name : List ℕ) → ◌≡◌ {A = Result A Stop} (Err s) (Err (stop.Unread name)) → ⊥) → h ≡ halt.Unreadable → ⊥
  halted_read none was = none trace (ap Err (is ∙ ap (λ (k : Halt). stop_for k trace n) was))

  pub halted_written : (◌≡◌ {A = Result A Stop} (Err s) (Err stop.Unwritable) → ⊥) → h ≡ halt.Unwritable → ⊥
  halted_written none was = none (ap Err (is ∙ ap (λ (k : Halt). stop_for k trace n) was))

-- a bad line is no fault of the trace
pub not_unreadable : {A : Type 0} (h : Halt) → h ≡ halt.BadLine → ◌≡◌ {A = Result A Halt} (Err h) (Err halt.Unreadable) → ⊥
not_unreadable h bad e = let no_value : ⊥ = cc in no_value
