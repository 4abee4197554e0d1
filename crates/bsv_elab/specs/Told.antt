-- How the first refusal is told: a module by its name.
use Rattle.std.specs.Prelude.{ℕ, List, [], Option, Some, None, slice_get, ◌≡◌, Result, Err}
use Rattle.bsv_fail.specs.declared.fail.Fail.{Fail}
use Rattle.bsv_fail.specs.declared.fail.Fail.TheVariants as fail
use Rattle.bsv_fail.specs.Given.{over}
use Rattle.bsv_types.specs.declared.modules.Module.{Module}
use Rattle.bsv_types.specs.declared.typed.Typed.{Typed}
use Rattle.bsv_tree.specs.declared.values.Fault.{Fault}
use Rattle.bsv_tree.specs.declared.values.Fault.TheVariants as fault
use Rattle.bsv_tree.specs.tree.Trees.{TreeData}
use Rattle.bsv_elab.specs.declared.fault.ElabFault.{ElabFault}
use Rattle.bsv_elab.specs.declared.fault.ElabFault.TheVariants as told
use Rattle.bsv_elab.specs.declared.refused.LimitKind.TheVariants as limit
use Rattle.bsv_elab.specs.declared.refused.Refused.{Refused}
use Rattle.bsv_elab.specs.declared.refused.Refused.TheVariants as refused
use Rattle.bsv_elab.specs.Building.{building}

abbrev pub name_or_none : Option Module → List ℕ
name_or_none None = []
name_or_none (Some m) = m.name

abbrev pub module_name : List Module → ℕ → List ℕ
module_name ms number = name_or_none (slice_get ms number)

abbrev pub carried_as : List Module → Fault → ElabFault
carried_as ms (fault.Static number) = told.StaticFault (module_name ms number)
carried_as ms (fault.Loop number) = told.Loop (module_name ms number)
carried_as ms fault.Calls = told.Limit limit.Calls 64
carried_as ms fault.Weight = told.Limit limit.Weight 2000000

abbrev pub told_as : List ℕ → List Module → Refused → ElabFault
told_as top ms refused.NoSuchModule = told.NoSuchModule top
told_as top ms (refused.Carried f) = carried_as ms f
told_as top ms (refused.Recursion number) = told.Recursion (module_name ms number)
told_as top ms (refused.NameTaken path) = told.NameTaken path
told_as top ms (refused.Limit kind most) = told.Limit kind most
told_as top ms (refused.NoSuchRule attribute name) = told.NoSuchRule attribute name

-- the tree of a typed design and of its top, or what refuses it
abbrev pub Builds : Typed → List ℕ → Result TreeData ElabFault
Builds t top = over (told_as top t.modules) (building t top)

-- a call tells what refuses, unless memory ran out
abbrev pub Tells : ElabFault → Result TreeData ElabFault → Type 0
Tells told.OutOfMemory given = Unit {0}
Tells e given = given ≡ Err e

abbrev pub TellsFail : ElabFault → List ℕ → List Module → Fail Refused → Type 0
TellsFail told.OutOfMemory top ms fail = Unit {0}
TellsFail e top ms fail.Memory = ⊥
TellsFail e top ms (fail.Fault r) = told_as top ms r ≡ e
