-- What is compiled of files: the tree of what was loaded, and its schedule.
use Rattle.std.specs.Prelude.{◌≡◌, ℕ, List, Some, Ok, Err}
use Rattle.bsv_types.specs.declared.typed.Typed.{Typed}
use Rattle.bsv_design.specs.declared.schedule.Schedule.{Schedule}
use Rattle.bsv_tree.specs.tree.Trees.{TreeData}
use Rattle.bsv_tree.specs.meaning.Schemes.{tree_scheme}
use Rattle.bsv_attr.specs.Obeying.{Obeys}
use Rattle.bsv_flow.specs.declared.loading.Loaded.{Loaded}
use Rattle.bsv_flow.specs.declared.refusal.Refusal.{Refusal}
use Rattle.bsv_flow.specs.declared.scheduling.Compiled.{Compiled}
use Rattle.bsv_flow.specs.Buildings.{tree_of, IsProgram}
use Rattle.bsv_flow.specs.Loads.{IsLoaded}
use Rattle.bsv_flow.specs.Schedulings.{subject, IsScheduled, IsCompiledOf, Unscheduled}
use Rattle.bsv_flow.specs.Typings.{typing_of}

-- what was loaded is typed as a program, whose tree has this schedule
pub record IsScheduledAs (l : Loaded) (top : List ℕ) (tree : TreeData) (made : Schedule) : Type 0 where
  pub program : Typed
  pub typed : IsProgram l program
  pub built : tree_of program top ≡ Ok tree
  pub scheduled : IsScheduled (subject tree) made

-- and the design is that of the tree, with the guards that its calls need, a net and a module that carry the tree, and the
-- schedule obeys every attribute
pub record CompilesTo (l : Loaded) (top : List ℕ) (c : Compiled) : Type 0 where
  pub tree : TreeData
  pub made : IsScheduledAs l top tree c.schedule
  pub design : IsCompiledOf tree c
  pub obeys : Obeys (tree_scheme tree) c.schedule

-- the first refusal of what was loaded: in typing, after that in building, and after that in scheduling
pub data Declines (l : Loaded) (top : List ℕ) (r : Refusal) : Type 0 where
  typing : typing_of l ≡ Err r → Declines l top r
  building : (program : Typed) → IsProgram l program → tree_of program top ≡ Err (Some r) → Declines l top r
  scheduling : (program : Typed) (tree : TreeData) → IsProgram l program → tree_of program top ≡ Ok tree → Unscheduled tree r
      → Declines l top r

-- the same of the first file and of what it imports
pub record IsPlanned (first : List ℕ) (contents : List ℕ → List ℕ) (top : List ℕ) (tree : TreeData) (made : Schedule) : Type 0 where
  pub loaded : Loaded
  pub files : IsLoaded first contents loaded
  pub planned : IsScheduledAs loaded top tree made

pub record IsCompiled (first : List ℕ) (contents : List ℕ → List ℕ) (top : List ℕ) (c : Compiled) : Type 0 where
  pub loaded : Loaded
  pub files : IsLoaded first contents loaded
  pub compiled : CompilesTo loaded top c
