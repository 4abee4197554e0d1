-- When a typed program is in order: every expression has the type that it carries, every statement and every
-- definition keeps its rules, and names are of their kind and no keywords.
use Rattle.std.specs.Prelude.{ℕ, ◌+◌, ◌==◌, Bool, true, false, ◌&&◌, List, [], ◌∷◌, ◌++◌, map, length, take, codes}
use Rattle.std.specs.List.{list_all}
use Rattle.std.specs.Str.{bytes_eq}
use Rattle.bsv_ast.specs.Names.{is_lower, is_upper}
use Rattle.bsv_types.specs.declared.definitions.Enum.{Enum}
use Rattle.bsv_types.specs.declared.definitions.Struct.{Struct}
use Rattle.bsv_types.specs.declared.definitions.Interface.{Interface}
use Rattle.bsv_types.specs.declared.definitions.MethodHeader.{MethodHeader}
use Rattle.bsv_types.specs.declared.definitions.Function.{Function}
use Rattle.bsv_types.specs.declared.modules.Module.{Module}
use Rattle.bsv_types.specs.Kinds.{Kind, kind}
use Rattle.bsv_types.specs.Widths.{field_kinds}
use Rattle.bsv_types.specs.Shapes.{Shapes, widths_by, is_width, in_range, is_enum_width, is_bits, has_bits, is_value}
use Rattle.bsv_types.specs.Methods.{Effect, value, action, action_value, effect, param_kinds}
use Rattle.bsv_types.specs.Expressions.{World}
use Rattle.bsv_types.specs.Statements.{gives_body}
use Rattle.bsv_types.specs.Names.{distinct, lower_names, countable}
use Rattle.bsv_types.specs.Modules.{header, param_names, param_slots, module_right}

-- the test is passed by each with its place, counted from `first`
abbrev pub each_at : {A : Type 0} → (ℕ → A → Bool) → ℕ → List A → Bool
each_at p first [] = true
each_at p first (x ∷ xs) = p first x && each_at p (first + 1) xs

abbrev pub enum_right : Enum → Bool
enum_right e = is_upper e.name && list_all is_upper e.labels && countable e.labels && is_enum_width e.width (length e.labels)

-- a struct with its place: it names only structs before it
abbrev pub struct_right : Shapes → ℕ → Struct → Bool
struct_right s number t =
    is_upper t.name && lower_names (map (λ f. f.name) t.fields) && countable t.fields && list_all (is_bits s number) (field_kinds t.fields) &&
    in_range t.width && is_width (widths_by s.enums s.structs (field_kinds t.fields)) t.width

abbrev pub effect_right : Shapes → Effect → Bool
effect_right s (value k) = has_bits s k
effect_right s action = true
effect_right s (action_value k) = has_bits s k

abbrev pub method_header_right : Shapes → MethodHeader → Bool
method_header_right s h = is_lower h.name && lower_names (param_names h.params) && list_all (has_bits s) (param_kinds h.params) && effect_right s (effect h.result)

abbrev pub interface_right : Shapes → Interface → Bool
interface_right s i = is_upper i.name && distinct (map (λ h. h.name) i.methods) && countable i.methods && list_all (method_header_right s) i.methods

-- the first interface is `Empty`, which has no methods
abbrev pub begins_empty : List Interface → Bool
begins_empty [] = false
begins_empty (i ∷ is) = bytes_eq i.name (codes "Empty") && length i.methods == 0

abbrev pub call_of : Function → List Kind × Kind
call_of f = (param_kinds f.params, kind f.result)

-- a function with its place: it calls only functions before it
abbrev pub function_right : Shapes → List Function → ℕ → Function → Bool
function_right s fs number f =
    is_lower f.name && lower_names (param_names f.params) && list_all (is_value s) (param_kinds f.params) && is_value s (kind f.result) &&
    gives_body (record { shapes = s; functions = map call_of (take number fs) }) false 0 (param_slots f.params) (kind f.result) f.body

-- no two definitions of one scope have one name
abbrev pub names_right : List Enum → List Struct → List Interface → List Function → List Module → Bool
names_right es ss is fs ms =
    distinct (map (λ e. e.name) es ++ map (λ s. s.name) ss ++ map (λ i. i.name) is) && distinct (labels es) &&
    distinct (map (λ f. f.name) fs) && distinct (map (λ m. m.name) ms) where
      labels : List Enum → List (List ℕ)
      labels [] = []
      labels (e ∷ others) = e.labels ++ labels others

abbrev pub shapes_right : Shapes → Bool
shapes_right s = list_all enum_right s.enums && each_at (struct_right s) 0 s.structs && list_all (interface_right s) s.interfaces && begins_empty s.interfaces

abbrev pub all_countable : List Enum → List Struct → List Interface → List Function → List Module → Bool
all_countable es ss is fs ms = countable es && countable ss && countable is && countable fs && countable ms

-- a program of these definitions is in order
abbrev pub is_right : List Enum → List Struct → List Interface → List Function → List Module → Bool
is_right es ss is fs ms =
    all_countable es ss is fs ms && names_right es ss is fs ms && shapes_right s && each_at (function_right s fs) 0 fs && list_all (module_right w (map header ms)) ms where
      s : Shapes
      s = record { enums = es; structs = ss; interfaces = is }

      w : World
      w = record { shapes = s; functions = map call_of fs }
