-- What a call gives that changes a value in place.
use Rattle.std.specs.Prelude.{◌≡◌, ℕ, Result, Ok, Err}
use Rattle.bsv_fail.specs.declared.fail.Fail.{Fail}
use Rattle.bsv_fail.specs.declared.fail.Fail.TheVariants as fail
use Rattle.bsv_fail.specs.Given.{Fails}
use Rattle.bsv_tree.specs.declared.tree.Built.{Built}
use Rattle.bsv_elab.specs.declared.refused.Refused.{Refused}
use Rattle.bsv_elab.specs.declared.state.Done.{Done}
use Rattle.bsv_elab.specs.declared.state.Marks.{Marks}
use Rattle.bsv_elab.specs.declared.state.Scope.{Scope}
use Rattle.bsv_elab.specs.declared.state.State.{State}
use Rattle.bsv_elab.specs.Attributes.{both}
use Rattle.bsv_elab.specs.Building.{built}

-- the answer and what the value is then, unless memory ran out
abbrev pub GivesInto : {X Y E : Type 0} → Result X (Fail E) → Y → Result (X × Y) E → Type 0
GivesInto (Ok x) after given = given ≡ Ok (x, after)
GivesInto (Err e) after given = Fails e given

-- what the value is then, unless memory ran out
abbrev pub Becomes : {X Y E : Type 0} → Result X (Fail E) → Y → Result Y E → Type 0
Becomes (Ok x) after given = given ≡ Ok after
Becomes (Err e) after given = Fails e given

-- what carrying out the body of an instance gives: the tree has grown, and the body around it is as it was
abbrev pub GivesDone : Result (Built × Marks) (Fail Refused) → State → State → Result Done Refused → Type 0
GivesDone (Ok x) after before given = (given ≡ Ok (record { built = x.0; grown = after.grown; marks = x.1 })) × (after.scope ≡ before.scope)
GivesDone (Err e) after before given = Fails e given

-- the instance after the end of its body, from what its own attributes ask for, where that is known
abbrev pub Finishes : ℕ → Scope → Result Marks (Fail Refused) → Result (Built × Marks) (Fail Refused) → Type 0
Finishes number s (Ok own) (Ok x) = (x.0 ≡ built number s) × (x.1 ≡ both own s.marks)
Finishes number s (Ok own) (Err e) = e ≡ fail.Memory
Finishes number s (Err e) given = given ≡ Err e
