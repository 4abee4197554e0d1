-- Names of what has no typing, and what names them. A fault of a definition or a statement that names something
-- without a typing may be the fault of what it names, so it is not blamed on who names it.
use Rattle.std.specs.Prelude.{ℕ, Bool, false, not, ◌&&◌, ◌||◌, List, [], ◌∷◌, ◌++◌, take, Option, Some, None, is_some}
use Rattle.bsv_ast.specs.declared.modules.Param.{Param}
use Rattle.bsv_ast.specs.declared.modules.Method.{Method}
use Rattle.bsv_ast.specs.declared.package.Function.{Function}
use Rattle.bsv_ast.specs.declared.modules.Module.{Module}
use Rattle.bsv_ast.specs.declared.package.Item.{Item}
use Rattle.bsv_ast.specs.declared.package.Item.TheVariants as item
use Rattle.bsv_scopes.specs.declared.definitions.Space.{Space}
use Rattle.bsv_scopes.specs.declared.definitions.Space.TheVariants.{Types, Labels, Functions, Modules}
use Rattle.bsv_scopes.specs.Scopes.{Entries, is_listed, find_in, defined_in, opened, closed}
use Rattle.bsv_scopes.specs.Given.{with_new_name}
use Rattle.bsv_names.specs.declared.event.Event.{Event}
use Rattle.bsv_names.specs.declared.event.Event.TheVariants.{Define, DefineVariable, Open, Close, Use, UseVariable, UseValue}
use Rattle.bsv_names.specs.ExpressionEvents.{type_events}
use Rattle.bsv_names.specs.ModuleEvents.{param_types}
use Rattle.bsv_names.specs.PackageEvents.{item_events}

-- the definitions without a typing
pub record Untyped : Type 0 where
  pub types : List (List ℕ)
  pub labels : List (List ℕ)
  pub functions : List (List ℕ)
  pub modules : List (List ℕ)

abbrev pub all_typed : Untyped
all_typed = record { types = []; labels = []; functions = []; modules = [] }

abbrev pub untyped_in : Space → Untyped → List (List ℕ)
untyped_in Types u = u.types
untyped_in Labels u = u.labels
untyped_in Functions u = u.functions
untyped_in Modules u = u.modules

abbrev pub with_definition : Space → List ℕ → Untyped → Untyped
with_definition Types name u = record u { types = with_new_name name u.types }
with_definition Labels name u = record u { labels = with_new_name name u.labels }
with_definition Functions name u = record u { functions = with_new_name name u.functions }
with_definition Modules name u = record u { modules = with_new_name name u.modules }

-- what is defined there has no typing: a type with its labels, a function or a module
abbrev pub with_untyped : List Event → Untyped → Untyped
with_untyped [] u = u
with_untyped (Define space name s ∷ es) u = with_untyped es (with_definition space name u)
with_untyped (e ∷ es) u = with_untyped es u

-- of the functions only so many count, in the order in which they stand: those that a function may call
abbrev pub with_functions : ℕ → Untyped → Untyped
with_functions reach u = record u { functions = take reach u.functions }

-- the variables that are defined inside, in their scopes
abbrev pub Locals : Type 0
Locals = List (Entries (Unit {0}))

abbrev pub locals_after : Locals → Event → Locals
locals_after ls (DefineVariable name s) = defined_in name tt ls
locals_after ls Open = opened ls
locals_after ls Close = closed ls
locals_after ls _ = ls

abbrev pub is_local : List ℕ → Locals → Bool
is_local name ls = is_some (find_in name ls)

-- a name without `(` after it that is no local one: the variable of that name where there is one, else the function
abbrev pub is_untyped_value : Option Bool → Bool → Bool
is_untyped_value None function = function
is_untyped_value (Some typed) function = not typed

-- the variables in scope, the innermost scope first, each with whether it has a typing
abbrev pub Variables : Type 0
Variables = List (Entries Bool)

module _ (u : Untyped) (vs : Variables) where
  -- the event names something without a typing
  abbrev pub lacks : Locals → Event → Bool
  lacks ls (Use space name s) = is_listed name (untyped_in space u)
  lacks ls (UseVariable name s) = not (is_local name ls) && is_untyped_value (find_in name vs) false
  lacks ls (UseValue name s) = not (is_local name ls) && is_untyped_value (find_in name vs) (is_listed name u.functions)
  lacks ls _ = false

  abbrev pub leans_from : Locals → List Event → Bool
  leans_from ls [] = false
  leans_from ls (e ∷ es) = lacks ls e || leans_from (locals_after ls e) es

-- one of the events names something without a typing
unfoldable pub leans : Untyped → Variables → List Event → Bool
leans u vs es = leans_from u vs (opened []) es

-- the names of the header of a function or a module
abbrev pub function_header_events : Function → List Event
function_header_events f = type_events f.result ++ param_types f.params

abbrev pub module_header_events : Module → List Event
module_header_events m = param_types m.params ++ type_events m.interface

abbrev pub header_events : Item → List Event
header_events (item.Function s f) = function_header_events f
header_events (item.Module s m) = module_header_events m
header_events _ = []

-- the names of the types of a method
abbrev pub method_header_events : Method → List Event
method_header_events m = type_events m.result ++ param_types m.params

unfoldable pub item_leans : Untyped → Item → Bool
item_leans u i = leans u [] (item_events i)

unfoldable pub header_leans : Untyped → Item → Bool
header_leans u i = leans u [] (header_events i)

-- ---- variables

-- a variable more, where one is declared
abbrev pub with_declared : Option (List ℕ) → Bool → Variables → Variables
with_declared None typed vs = vs
with_declared (Some name) typed vs = defined_in name typed vs

-- parameters more
abbrev pub with_params : Bool → List Param → Variables → Variables
with_params typed [] vs = vs
with_params typed (p ∷ ps) vs = with_params typed ps (defined_in p.name.name typed vs)
