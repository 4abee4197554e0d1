-- What text of a module stands in: what its names stand for, and what is called from it (Bluespec reference guide, "Method
-- calls", "Function calls").
use Rattle.std.specs.Prelude.{ℕ, ◌+◌, ◌-◌, Bool, true, false, List, length, Option, Some, None}
use Rattle.bsv_types.specs.declared.definitions.Body.{Body}
use Rattle.bsv_types.specs.declared.definitions.Function.{Function}
use Rattle.bsv_types.specs.declared.expressions.Expr.{Expr}
use Rattle.bsv_types.specs.declared.modules.Module.{Module}
use Rattle.bsv_types.specs.Kinds.{Kind as Sort, integer}
use Rattle.bsv_types.specs.Shapes.{Shapes}
use Rattle.bsv_tree.specs.declared.statics.Binding.{Binding}
use Rattle.bsv_tree.specs.declared.steps.MethodPlace.{MethodPlace}
use Rattle.bsv_tree.specs.declared.tree.Instance.{Instance}
use Rattle.bsv_tree.specs.declared.tree.Made.{Made}

-- what is at hand where text of a module stands
pub record Context : Type 0 where
  pub shapes : Shapes
  pub functions : List Function
  pub modules : List Module
  -- the instances whose methods may be called: those that were made so far, and none in the body of a module
  pub instances : List Instance
  -- the module whose text it is, by its place
  pub within : ℕ
  -- the variables of the module that are in scope
  pub bindings : List Binding

-- the variables of a module have the first levels; after them come those of the body, of which the first is what it returns
abbrev pub place_in_body : Context → ℕ → ℕ
place_in_body site level = level - length site.bindings + 1

abbrev pub made_of : Option Instance → Option Made
made_of None = None
made_of (Some i) = Some i.made

-- ---- what is called

pub record Callee : Type 0 where
  -- of a method, the instance and its number there
  pub name : Option MethodPlace
  pub condition : Option Expr
  pub body : Body
  -- it returns an Integer
  pub integer : Bool

abbrev pub is_integer : Sort → Bool
is_integer integer = true
is_integer _ = false
