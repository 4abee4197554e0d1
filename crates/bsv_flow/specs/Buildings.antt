-- The tree of what was typed, or its refusal; and the first refusal of a design, in loading, typing, building or
-- scheduling.
use Rattle.std.specs.Prelude.{◌≡◌, ℕ, List, Option, Some, None, Result, Ok, Err, codes}
use Rattle.bsv_fail.specs.Given.{over}
use Rattle.bsv_types.specs.declared.typed.Typed.{Typed}
use Rattle.bsv_check.specs.Seen.{typed_seen}
use Rattle.bsv_design.specs.declared.schedule.Schedule.{Schedule}
use Rattle.bsv_tree.specs.tree.Trees.{TreeData}
use Rattle.bsv_elab.specs.declared.fault.ElabFault.{ElabFault}
use Rattle.bsv_elab.specs.declared.fault.ElabFault.TheVariants as fault
use Rattle.bsv_elab.specs.declared.refused.LimitKind.{LimitKind}
use Rattle.bsv_elab.specs.declared.refused.LimitKind.TheVariants as limit
use Rattle.bsv_elab.specs.Told.{Builds}
use Rattle.bsv_flow.specs.declared.loading.Loaded.{Loaded}
use Rattle.bsv_flow.specs.declared.refusal.Refusal.{Refusal}
use Rattle.bsv_flow.specs.declared.refusal.Refusal.TheVariants as refusal
use Rattle.bsv_flow.specs.Attributes.{attribute_word}
use Rattle.bsv_flow.specs.Loads.{IsLoaded}
use Rattle.bsv_flow.specs.Schedulings.{subject, IsScheduled, Unscheduled}
use Rattle.bsv_flow.specs.Typings.{typing_of, IsTyped, IsUntyped}

-- the word of what is counted
abbrev pub limit_word : LimitKind → List ℕ
limit_word limit.Elements = codes "elements"
limit_word limit.Instances = codes "instances"
limit_word limit.Depth = codes "depth"
limit_word limit.Weight = codes "weight"
limit_word limit.Calls = codes "calls"
limit_word limit.Modules = codes "modules"

-- the refusal that a fault of building tells; want of memory is none
abbrev pub refusal_of : ElabFault → Option Refusal
refusal_of (fault.NoSuchModule name) = Some (refusal.NoSuchModule name)
refusal_of (fault.StaticFault name) = Some (refusal.StaticFault name)
refusal_of (fault.Loop name) = Some (refusal.Loop name)
refusal_of (fault.Recursion name) = Some (refusal.Recursion name)
refusal_of (fault.NameTaken path) = Some (refusal.NameTaken path)
refusal_of (fault.Limit kind most) = Some (refusal.Limit (limit_word kind) most)
refusal_of (fault.NoSuchRule a name) = Some (refusal.NoSuchRule (attribute_word a) name)
refusal_of fault.OutOfMemory = None

-- the tree of a program by the name of its top, or what refuses it
abbrev pub tree_of : Typed → List ℕ → Result TreeData (Option Refusal)
tree_of program top = over refusal_of (Builds program top)

-- what was loaded is typed as this program
abbrev pub IsProgram : Loaded → Typed → Type 0
IsProgram l program = typing_of l ≡ Ok (typed_seen program)

-- a program has a tree, and the tree has a schedule
pub record HasDesign (program : Typed) (top : List ℕ) : Type 0 where
  pub tree : TreeData
  pub built : tree_of program top ≡ Ok tree
  pub made : Schedule
  pub scheduled : IsScheduled (subject tree) made

-- what is loaded, has a typing, and the program that it is typed as has a design
pub record IsBuilt (first : List ℕ) (contents : List ℕ → List ℕ) (top : List ℕ) (l : Loaded) : Type 0 where
  pub typed : IsTyped first contents l
  pub built : (program : Typed) → IsProgram l program → HasDesign program top

-- the first refusal of a design: in loading or typing, after them in building, or after that in scheduling
pub data Rejects (first : List ℕ) (contents : List ℕ → List ℕ) (top : List ℕ) (r : Refusal) : Type 0 where
  untyped : IsUntyped first contents r → Rejects first contents top r
  building : (l : Loaded) (program : Typed) → IsLoaded first contents l → IsProgram l program → tree_of program top ≡ Err (Some r) → Rejects first contents top r
  scheduling : (l : Loaded) (program : Typed) (tree : TreeData) → IsLoaded first contents l → IsProgram l program → tree_of program top ≡ Ok tree → Unscheduled tree r → Rejects first contents top r
