-- What the typing of modules gives is in order, where what it stands on is so.
use Rattle.std.specs.Prelude.{◌≡◌, ℕ, List, Some, Ok, length, slice_get, IsTrue}
use Rattle.bsv_ast.specs.declared.modules.Module.{Module as Written}
use Rattle.bsv_scopes.specs.Scopes.{found}
use Rattle.bsv_types.specs.declared.modules.Module.{Module}
use Rattle.bsv_types.specs.Kinds.{Kind}
use Rattle.bsv_types.specs.Expressions.{one, World}
use Rattle.bsv_types.specs.Names.{countable}
use Rattle.bsv_types.specs.Modules as typed
use Rattle.bsv_statements.specs.Bodies.{Or}
use Rattle.bsv_typing.specs.Laws.{slot_right, FitsWorld}
use Rattle.bsv_modules.specs.Modules.{Header}
use Rattle.bsv_modules.specs.Programs.{Program, env_of, module_case}

-- what modules may name is in the world, and the headers of modules at their numbers
pub record FitsProgram (p : Program) (w : World) (headers : List typed.Header) : Type 0 where
  pub world : FitsWorld (env_of p (length p.functions)) w
  -- a name of a type stands for a type of values or of instances
  pub types : (name : List ℕ) (k : Kind) → found name p.types.names ≡ Some k → IsTrue (slot_right w.shapes (one k))
  pub modules : (name : List ℕ) (h : Header) → found name p.modules ≡ Some h → slice_get headers h.number ≡ Some (h.params, h.interface)

-- a module is typed so
abbrev pub IsTyped : Program → ℕ → Written → Module → Type 0
IsTyped p number m x = ◌≡◌ {A = Or Module} (module_case p number m) (Ok x)

-- what modules are typed as is in order, where few enough rules and methods are in them
abbrev pub ModulesRight : Program → World → List typed.Header → Type 0
ModulesRight p w headers = (number : ℕ) (m : Written) (x : Module) → IsTyped p number m x → IsTrue (countable x.rules) → IsTrue (countable x.methods) → IsTrue (typed.module_right w headers x)
