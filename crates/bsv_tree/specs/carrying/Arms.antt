-- Where the arms of a choice join that is not static: a variable that one of them assigns is after it the value of
-- the taken arm, and an Integer is lost.
use Rattle.std.specs.Prelude.{ℕ, Bool, true, false, ◌||◌, List, [], ◌∷◌, ◌++◌, map, length, slice_get, Option, Some, None, Result, Ok, if◌then◌else◌}
use Rattle.bsv_fail.specs.Given.{◌>>=◌}
use Rattle.bsv_tree.specs.declared.steps.Atom.{Atom}
use Rattle.bsv_tree.specs.declared.steps.Atom.TheVariants as atom
use Rattle.bsv_tree.specs.declared.steps.Step.{Step}
use Rattle.bsv_tree.specs.declared.steps.Step.TheVariants as step
use Rattle.bsv_tree.specs.declared.steps.Arm.{Arm, roll-Arm}
use Rattle.bsv_tree.specs.declared.steps.Choice.{roll-Choice}
use Rattle.bsv_tree.specs.declared.values.Value.TheVariants as value
use Rattle.bsv_tree.specs.declared.values.Local.{Local}
use Rattle.bsv_tree.specs.declared.values.Count.{Count}
use Rattle.bsv_tree.specs.declared.values.Work.{Work}
use Rattle.bsv_tree.specs.declared.values.Pending.{Pending}
use Rattle.bsv_tree.specs.declared.values.Fault.{Fault}
use Rattle.bsv_tree.specs.carrying.Values.{atom_of, truth}
use Rattle.bsv_tree.specs.carrying.Working.{fresh}

abbrev pub touched_at : List Local → ℕ → Bool
touched_at vs at = in_arm (slice_get vs at) where
  in_arm : Option Local → Bool
  in_arm None = false
  in_arm (Some v) = v.touched

-- an arm assigns the variable
abbrev pub assigned : List Pending → List Local → ℕ → Bool
assigned [] last at = touched_at last at
assigned (a ∷ others) last at = touched_at a.locals at || assigned others last at

-- the variable after the arms, where one of them assigned it and its value is this one
abbrev pub joined_as : Local → ℕ → Local
joined_as v slot =
    if v.integer then record { value = v.value; integer = true; lost = true; touched = true }
    else record { value = value.Open (atom.Slot slot); integer = false; lost = false; touched = true }

-- after the variables that are found, and the numbers of those of them that get a value of their own: the variables
-- that are left, and the count after the values
unfoldable pub joined_from : List Pending → List Local → List Local → List ℕ → List Local → Count → Result (List Local × List ℕ × Count) Fault
joined_from arms last found given [] c = Ok (found, given, c)
joined_from arms last found given (v ∷ vs) c =
    if assigned arms last (length found) then
    (if v.integer then joined_from arms last (found ++ joined_as v c.slots ∷ []) given vs c
    else (fresh c 1 >>= λ next. joined_from arms last (found ++ joined_as v c.slots ∷ []) (given ++ length found ∷ []) vs next))
    else joined_from arms last (found ++ v ∷ []) given vs c

abbrev pub given_by : List Local → ℕ → Atom
given_by vs at = of (slice_get vs at) where
  of : Option Local → Atom
  of None = atom_of (truth false)
  of (Some v) = atom_of v.value

abbrev pub arm_of : List ℕ → Pending → Arm
arm_of given p = roll-Arm (record { condition = p.condition; test = p.test; body = p.body; gives = map (given_by p.locals) given })

abbrev pub choice_of : Bool → List Arm → List Step → List Atom → Step
choice_of nested arms last gives = step.Choose (roll-Choice (record { nested = nested; arms = arms; last = last; gives = gives }))

-- the choice of the arms that are left, of which the last one has this work, after variables and a count
unfoldable pub close : List Local → Work → List Pending → List Local → Work → Result (List Local × Work) Fault
close vs w arms last_vs last =
    joined_from arms last_vs [] [] vs (record { weight = last.count.weight; slots = w.count.slots }) >>= λ r.
    Ok (r.0, record { steps = w.steps ++ choice_of false (map (arm_of r.1) arms) last.steps (map (given_by last_vs) r.1) ∷ []; count = r.2 })
