-- What the definitions see of the values of the code.
use Rattle.std.specs.Prelude.{ℕ, Bool, ◌||◌, List, map, Option, Result, Err}
use Rattle.std.specs.Map.{keys_of}
use Rattle.bsv_ast.specs.declared.modules.ModuleBranch.{ModuleBranch, fold-ModuleBranch}
use Rattle.bsv_scopes.specs.Scopes.{Entries, found}
use Rattle.bsv_scopes.specs.Seen.{entries}
use Rattle.bsv_scopes.specs.declared.scope.Scope.{Scope}
use Rattle.bsv_types.specs.declared.types.Ty.{Ty}
use Rattle.bsv_types.specs.declared.definitions.Param.{Param}
use Rattle.bsv_types.specs.declared.modules.ModuleStmt.{ModuleStmt}
use Rattle.bsv_types.specs.Kinds.{Kind, kind, is_interface}
use Rattle.bsv_types.specs.declared.definitions.MethodResult.{MethodResult}
use Rattle.bsv_types.specs.Methods.{Effect, effect, methods}
use Rattle.bsv_context.specs.Env.{has_bits, is_typed_value}
use Rattle.bsv_context.specs.Seen.{limits, shapes, shown, type_names, label, header as function_header}
use Rattle.bsv_statements.specs.SeenBodies.{fixed}
use Rattle.bsv_context.specs.declared.context.Context.{Context}
use Rattle.bsv_context.specs.declared.context.FunctionHeader.{FunctionHeader}
use Rattle.bsv_context.specs.declared.context.Label.{Label}
use Rattle.bsv_statements.specs.declared.fail.BodyFail.{BodyFail}
use Rattle.bsv_statements.specs.declared.fail.BodyFail.TheVariants as body_fail
use Rattle.bsv_modules.specs.declared.named.SeenNames as code_names
use Rattle.bsv_modules.specs.declared.program.Program as code_program
use Rattle.bsv_modules.specs.declared.site.Header as code_header
use Rattle.bsv_modules.specs.declared.site.ModuleContext as code_site
use Rattle.bsv_modules.specs.declared.site.State as code_state
use Rattle.bsv_modules.specs.declared.params.Allowed.{Allowed}
use Rattle.bsv_modules.specs.declared.params.Allowed.TheVariants as allowed_types
use Rattle.bsv_modules.specs.Modules.{Header, ModuleContext, State, Run, Arm, stmt_step, arm_step, any_kind}
use Rattle.bsv_modules.specs.Programs.{Types, Program}

abbrev pub kinds : List Ty → List Kind
kinds ts = map kind ts

abbrev pub header : code_header.Header → Header
header h = record { number = h.number; params = kinds h.params; interface = kind h.interface }

abbrev pub named_header : List ℕ × code_header.Header → List ℕ × Header
named_header e = (e.0, header e.1)

abbrev pub headers : Scope code_header.Header → Entries Header
headers s = map named_header (entries s)

abbrev pub module_named : Scope code_header.Header → List ℕ → Option Header
module_named s name = found name (headers s)

abbrev pub site_of : code_site.ModuleContext → ModuleContext
site_of s = record {
  env = fixed s.context.now;
  types = type_names s.context.now;
  modules = module_named s.modules.now;
  wanted = methods (shapes s.context.now) (kind s.interface.now);
}

abbrev pub state_of : code_state.State → State
state_of st = record { scopes = shown st.scopes; rules = st.rules; methods = st.methods.items }

-- which types parameters may have
abbrev pub allowed : Allowed → Context → Kind → Bool
allowed allowed_types.Any c = any_kind
allowed allowed_types.Bits c = has_bits (limits c)
allowed allowed_types.Values c = is_typed_value (limits c)
allowed allowed_types.ValuesAndInterfaces c = λ k. is_typed_value (limits c) k || is_interface k

-- the arms of an `if`
abbrev pub arm_of : ModuleContext → ModuleBranch → Arm
arm_of site = fold-ModuleBranch Run Arm (stmt_step site) arm_step

-- an array by its level, with the type of its instances
abbrev pub array_of : ℕ × Ty → ℕ × Kind
array_of a = (a.0, kind a.1)

-- the parameters of a method, and what it does and gives
abbrev pub method_header_of : List Param × MethodResult → List Param × Effect
method_header_of h = (h.0, effect h.1)

-- ---- types and programs

-- entries, with what they stand for as it is seen
unfoldable pub seen_by : {V W : Type 0} → (V → W) → Entries V → Entries W
seen_by view es = map (λ e. (e.0, view e.1)) es

abbrev pub labels_of : Scope Label → Entries (ℕ × ℕ)
labels_of s = seen_by label (entries s)

abbrev pub types_of : Context → Types
types_of c = record {
  strict = c.strict;
  names = seen_by kind (entries c.types);
  enums = c.enums;
  structs = c.structs;
  interfaces = c.interfaces;
  labels = labels_of c.labels;
}

-- a function and a module as those see them that call and make them
unfoldable pub function_seen : FunctionHeader → ℕ × List Kind × Kind
function_seen h = function_header h

unfoldable pub module_seen : code_header.Header → Header
module_seen h = header h

abbrev pub program_of : code_program.Program → Program
program_of p = record {
  types = types_of p.context;
  functions = seen_by function_seen (entries p.context.functions);
  modules = seen_by module_seen (entries p.modules);
}

-- names that came
abbrev pub seen_names : code_names.SeenNames → List (List ℕ)
seen_names s = keys_of (entries s.names)

-- a fault leaves what was there
abbrev pub KeptAt : {X : Type 0} → Result X BodyFail → Type 0 → Type 0
KeptAt (Err (body_fail.At span)) kept = kept
KeptAt _ kept = Unit {0}

-- the parameters of a function or a module, and its result or its interface
abbrev pub heading : List Param × Ty → List Param × Kind
heading h = (h.0, kind h.1)

-- the statements of a module, and what was typed of it
abbrev pub body_seen : code_state.State × List ModuleStmt → State × List ModuleStmt
body_seen r = (state_of r.0, r.1)
