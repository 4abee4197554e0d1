-- What the definitions see of the values of the code: types, variables, functions, labels and methods.
use Rattle.std.specs.Prelude.{◌≡◌, ℕ, List, map, Option, Some, None, option_map, Result, Ok, Err}
use Rattle.std.specs.Borrow.{Bor}
use Rattle.bsv_types.specs.declared.types.Ty.{Ty}
use Rattle.bsv_types.specs.Kinds.{Kind, bool, maybe, kind}
use Rattle.bsv_types.specs.declared.definitions.MethodHeader.{MethodHeader}
use Rattle.bsv_types.specs.Methods.{Signature, Effect, value, action, action_value, param_kinds, header_signature}
use Rattle.bsv_types.specs.Shapes.{Shapes}
use Rattle.bsv_types.specs.Expressions.{Slot, one, many}
use Rattle.bsv_scopes.specs.declared.scopes.Scopes.{Scopes}
use Rattle.bsv_scopes.specs.Scopes.{Entries, found}
use Rattle.bsv_scopes.specs.Seen.{entries, scopes}
use Rattle.bsv_context.specs.declared.fail.Fail.{Fail}
use Rattle.bsv_context.specs.declared.fail.Fail.TheVariants as fail
use Rattle.bsv_context.specs.declared.made.TypedExpr as code_made
use Rattle.bsv_context.specs.declared.context.Context.{Context}
use Rattle.bsv_context.specs.declared.context.FunctionHeader.{FunctionHeader}
use Rattle.bsv_context.specs.declared.context.Label.{Label}
use Rattle.bsv_context.specs.declared.context.Variable.{Variable}
use Rattle.bsv_context.specs.declared.context.Slot as code_slot
use Rattle.bsv_context.specs.declared.context.Slot.TheVariants as slot
use Rattle.bsv_context.specs.declared.methods.Params.{Params}
use Rattle.bsv_context.specs.declared.methods.Params.TheVariants as params
use Rattle.bsv_context.specs.declared.methods.MethodEffect.{MethodEffect}
use Rattle.bsv_context.specs.declared.methods.MethodEffect.TheVariants as effect
use Rattle.bsv_context.specs.declared.methods.FoundMethod.{FoundMethod}
use Rattle.bsv_context.specs.Env.{TypedExpr, Env, Limits, structure_of, variable_in, in_reach}
use Rattle.bsv_context.specs.Written.{TypeNames}

-- what a function that fails leaves open: nothing where there is no typing
abbrev pub Fails : {Y : Type 0} → Fail → Option Y → Type 0
Fails fail.Memory given = Unit {0}
Fails fail.Fault given = given ≡ None

-- what a function gives, as it is seen, is what the definition gives, unless memory ran out
abbrev pub Gives : {X Y : Type 0} → (X → Y) → Result X Fail → Option Y → Type 0
Gives view (Ok x) given = given ≡ Some (view x)
Gives view (Err e) given = Fails e given

abbrev pub made : code_made.TypedExpr → TypedExpr
made m = record { kind = kind m.ty; expr = m.expr }

abbrev pub slot_of : code_slot.Slot → Slot
slot_of (slot.One t) = one (kind t)
slot_of (slot.Many t) = many (kind t)

abbrev pub variable : Variable → ℕ × Slot
variable v = (v.level, slot_of v.slot)

abbrev pub header : FunctionHeader → ℕ × List Kind × Kind
header f = (f.number, map kind f.params, kind f.result)

abbrev pub label : Label → ℕ × ℕ
label l = (l.of_enum, l.number)

abbrev pub shapes : Context → Shapes
shapes c = record { enums = c.enums; structs = c.structs; interfaces = c.interfaces }

abbrev pub limits : Context → Limits
limits c = record { strict = c.strict; shapes = shapes c }

-- the variables of the open scopes, the innermost first
abbrev pub named_variable : List ℕ × Variable → List ℕ × (ℕ × Slot)
named_variable e = (e.0, variable e.1)

abbrev pub in_layer : Entries Variable → Entries (ℕ × Slot)
in_layer es = map named_variable es

abbrev pub shown : Scopes Variable → List (Entries (ℕ × Slot))
shown v = map in_layer (scopes v)

abbrev pub variable_named : Scopes Variable → List ℕ → Option (ℕ × Slot)
variable_named v name = variable_in (shown v) name

abbrev pub function_named : Context → List ℕ → Option (ℕ × List Kind × Kind)
function_named c name = in_reach c.callable (option_map header (found name (entries c.functions)))

abbrev pub label_named : Context → List ℕ → Option (ℕ × ℕ)
label_named c name = option_map label (found name (entries c.labels))

abbrev pub type_named : Context → List ℕ → Option Kind
type_named c name = option_map kind (found name (entries c.types))

abbrev pub structure_named : Context → List ℕ → Option ℕ
structure_named c name = structure_of (type_named c name)

-- the types that may be written
abbrev pub type_names : Context → TypeNames
type_names c = record { limits = limits c; named = type_named c }

abbrev pub env : Context → Scopes Variable → Env
env c v = record {
  limits = limits c;
  variable = variable_named v;
  function = function_named c;
  label = label_named c;
  structure = structure_named c;
}

-- the types of the parameters of a method
abbrev pub params_of : Params → List Kind
params_of (params.Types ts) = map (λ t. kind t) ts.now
params_of (params.Declared ps) = param_kinds ps.now

abbrev pub effect_of : MethodEffect → Effect
effect_of effect.Action = action
effect_of (effect.Value t) = value (kind t.now)
effect_of (effect.ActionValue t) = action_value (kind t.now)
effect_of effect.Bool = value bool
effect_of (effect.Maybe t) = value (maybe (kind t.now))

-- a method by its number
abbrev pub method_of : FoundMethod → ℕ × Signature
method_of m = (m.number, record { name = m.name.now; params = params_of m.params; effect = effect_of m.effect })

-- the type that is expected, if there is one
abbrev pub expected : Option (Bor Ty) → Option Kind
expected want = option_map (λ t. kind t.now) want

-- a method that a program declares, with its number
abbrev pub header_at : ℕ → Option MethodHeader → Option (ℕ × Signature)
header_at number None = None
header_at number (Some h) = Some (number, header_signature h)
