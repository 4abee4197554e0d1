-- The typing of a program: its types, functions and modules in load and text order (Bluespec reference guide,
-- "Packages", "Types", "Functions" and "Module definitions").
use Rattle.std.specs.Prelude.{ℕ, zero, suc, ◌+◌, ◌-◌, ◌^◌, ◌==◌, nat_le, nat_lt, Bool, true, false, ◌&&◌, ◌||◌, not, List, [], ◌∷◌, ◌++◌, map, length, Option, Some, None, option_map, Ok, codes, if◌then◌else◌}
use Rattle.std.specs.List.{list_all}
use Rattle.bsv_ast.specs.Names.{is_lower, is_upper}
use Rattle.bsv_ast.specs.declared.text.Span.{Span}
use Rattle.bsv_ast.specs.declared.text.Ident.{Ident}
use Rattle.bsv_ast.specs.declared.types.WrittenType.{WrittenType}
use Rattle.bsv_ast.specs.declared.modules.Body.{Body as WrittenBody}
use Rattle.bsv_ast.specs.declared.modules.Param.{Param as WrittenParam}
use Rattle.bsv_ast.specs.declared.modules.Module.{Module as WrittenModule}
use Rattle.bsv_ast.specs.declared.package.Field.{Field as WrittenField}
use Rattle.bsv_ast.specs.declared.package.Typedef.{Typedef}
use Rattle.bsv_ast.specs.declared.package.Typedef.TheVariants as typedef
use Rattle.bsv_ast.specs.declared.package.MethodHeader.{MethodHeader as WrittenHeader}
use Rattle.bsv_ast.specs.declared.package.Interface.{Interface as WrittenInterface}
use Rattle.bsv_ast.specs.declared.package.Function.{Function as WrittenFunction}
use Rattle.bsv_ast.specs.declared.package.Item.{Item}
use Rattle.bsv_ast.specs.declared.package.Item.TheVariants as item
use Rattle.bsv_scopes.specs.Scopes.{Entries, found, is_defined, with_name, with_new}
use Rattle.bsv_types.specs.declared.definitions.Enum.{Enum}
use Rattle.bsv_types.specs.declared.definitions.Struct.{Struct}
use Rattle.bsv_types.specs.declared.definitions.Field.{Field}
use Rattle.bsv_types.specs.declared.definitions.Interface.{Interface}
use Rattle.bsv_types.specs.declared.definitions.MethodHeader.{MethodHeader}
use Rattle.bsv_types.specs.declared.definitions.Function.{Function}
use Rattle.bsv_types.specs.declared.modules.Module.{Module}
use Rattle.bsv_types.specs.declared.modules.Method.{Method}
use Rattle.bsv_types.specs.Kinds.{Kind, enum, struct, interface, is_interface}
use Rattle.bsv_types.specs.Shapes.{Shapes, widths_by, in_range}
use Rattle.bsv_types.specs.Methods.{value, methods, Signature, param_kinds}
use Rattle.bsv_types.specs.Operators.{◌>>=◌}
use Rattle.bsv_types.specs.Names.{lower_names, distinct}
use Rattle.bsv_types.specs.Widths.{field_kinds}
use Rattle.bsv_types.specs.Expressions.{Slot}
use Rattle.bsv_types.specs.declared.definitions.Param.{Param}
use Rattle.bsv_types.specs.declared.definitions.Body.{Body}
use Rattle.bsv_types.specs.declared.attributes.Attribute.{Attribute}
use Rattle.bsv_types.specs.declared.modules.Rule.{Rule}
use Rattle.bsv_types.specs.declared.modules.ModuleStmt.{ModuleStmt}
use Rattle.bsv_types.specs.declared.asked.Owner.TheVariants as owner
use Rattle.bsv_types.specs.Kinds.{type_of}
use Rattle.bsv_context.specs.Env.{Env, Limits, has_bits, is_typed_value, structure_of, in_reach}
use Rattle.bsv_context.specs.Written.{TypeNames, written, written_effect}
use Rattle.bsv_statements.specs.Bodies.{Or, ◌>=>◌, at, sure, Scopes}
use Rattle.bsv_modules.specs.Modules.{Header, ModuleContext, State, params_at, with_params, are_named, method_result, body_of, asked, all_in, direct, defines_all}

-- ---- the types of a program

-- what was defined so far: what names of types stand for, enums, structs and interfaces, and labels with the
-- numbers of their enums and their own
pub record Types : Type 0 where
  pub strict : Bool
  pub names : Entries Kind
  pub enums : List Enum
  pub structs : List Struct
  pub interfaces : List Interface
  pub labels : Entries (ℕ × ℕ)

abbrev pub shapes_of : Types → Shapes
shapes_of t = record { enums = t.enums; structs = t.structs; interfaces = t.interfaces }

abbrev pub limits_of : Types → Limits
limits_of t = record { strict = t.strict; shapes = shapes_of t }

unfoldable pub type_names : Types → TypeNames
type_names t = record { limits = limits_of t; named = λ name. found name t.names }

-- one name more, where it is new
unfoldable pub added : {V : Type 0} → List ℕ → V → Entries V → Option (Entries V)
added name v es = if is_defined name es then None else Some (with_name name v es)

abbrev pub with_type : List ℕ → Kind → Types → Option Types
with_type name k t = added name k t.names >>= λ names. Some (record t { names = names })

abbrev pub empty_interface : Interface
empty_interface = record { name = codes "Empty"; methods = [] }

abbrev pub empty_name : Entries Kind
empty_name = (codes "Empty", interface 0) ∷ []

-- `Empty` is there from the start
abbrev pub no_types : Bool → Types
no_types strict = record { strict = strict; names = empty_name; enums = []; structs = []; interfaces = empty_interface ∷ []; labels = [] }

abbrev pub names_of : List Ident → List (List ℕ)
names_of xs = map (λ x. x.name) xs

-- the labels of an enum, counted from this number on
abbrev pub with_labels : ℕ → ℕ → List Ident → Entries (ℕ × ℕ) → Entries (ℕ × ℕ)
with_labels of_enum number [] es = es
with_labels of_enum number (x ∷ xs) es = with_labels of_enum (number + 1) xs (with_new x.name (of_enum, number) es)

abbrev pub labelled : ℕ → List Ident → Types → Types
labelled of_enum xs t = record t { labels = with_labels of_enum 0 xs t.labels }

abbrev pub is_undefined : Entries (ℕ × ℕ) → Ident → Bool
is_undefined es x = not (is_defined x.name es)

-- no two of the labels are one, and none is there yet
abbrev pub are_new : List Ident → Entries (ℕ × ℕ) → Bool
are_new xs es = list_all (is_undefined es) xs && distinct (names_of xs)

-- the first width from this one on that holds the number, among so many
abbrev pub width_from : ℕ → ℕ → ℕ → ℕ
width_from zero width number = width
width_from (suc more) width number = if nat_lt number (2 ^ width) then width else width_from more (width + 1) number

-- the least width that holds the last label
unfoldable pub enum_width : ℕ → ℕ
enum_width labels = width_from 64 0 (labels - 1)

abbrev pub enum_named : List ℕ → List Ident → Enum
enum_named name labels = record { name = name; labels = names_of labels; width = enum_width (length labels) }

abbrev pub is_label : Ident → Bool
is_label x = is_upper x.name

-- an enum has two labels or more
abbrev pub is_enum : List ℕ → List Ident → Bool
is_enum name labels = is_upper name && nat_le 2 (length labels) && list_all is_label labels

abbrev pub enum_of : Span → List ℕ → List Ident → Or Enum
enum_of s name labels = sure s (is_enum name labels) (enum_named name labels)

abbrev pub with_enum : Enum → Types → Types
with_enum e t = record t { enums = t.enums ++ e ∷ [] }

abbrev pub enum_case : Span → Ident → List Ident → Types → Or Types
enum_case s name labels t =
    enum_of s name.name labels >=> λ e. sure s (are_new labels t.labels) true >=> λ new. at s (with_type name.name (enum (length t.enums)) t) >=> λ next.
    Ok (with_enum e (labelled (length t.enums) labels next))

abbrev pub field : List ℕ → Kind → Field
field name k = record { name = name; ty = type_of k }

abbrev pub field_at : TypeNames → Span → WrittenField → Or Field
field_at types s f = at s (written types f.written) >=> λ k. sure s (has_bits types.limits k) (field f.name.name k)

abbrev pub fields_at : TypeNames → Span → List WrittenField → Or (List Field)
fields_at types s [] = Ok []
fields_at types s (f ∷ fs) = field_at types s f >=> λ x. fields_at types s fs >=> λ rest. Ok (x ∷ rest)

abbrev pub field_names : List Field → List (List ℕ)
field_names fs = map (λ f. f.name) fs

abbrev pub width_passes : Bool → ℕ → Bool
width_passes strict w = not strict || in_range w

abbrev pub struct_named : List ℕ → List Field → ℕ → Struct
struct_named name fs w = record { name = name; fields = fs; width = w }

-- a struct has one field or more, and a width in range where that is asked for
abbrev pub is_struct : List ℕ → List Field → Bool
is_struct name fs = is_upper name && nat_le 1 (length fs) && lower_names (field_names fs)

abbrev pub struct_of : Span → List ℕ → List Field → Types → Or Struct
struct_of s name fs t =
    sure s (is_struct name fs) true >=> λ right. at s (widths_by t.enums t.structs (field_kinds fs)) >=> λ w. sure s (width_passes t.strict w) (struct_named name fs w)

abbrev pub with_struct : Struct → Types → Types
with_struct x t = record t { structs = t.structs ++ x ∷ [] }

-- the struct of fields that are written
unfoldable pub struct_at : Span → List ℕ → List WrittenField → Types → Or Struct
struct_at s name written_fields t = fields_at (type_names t) s written_fields >=> λ fs. struct_of s name fs t

abbrev pub struct_case : Span → Ident → List WrittenField → Types → Or Types
struct_case s name fs t = struct_at s name.name fs t >=> λ x. at s (with_type name.name (struct (length t.structs)) t) >=> λ next. Ok (with_struct x next)

-- the type that is written, among those that were defined so far
unfoldable pub written_at : Span → WrittenType → Types → Or Kind
written_at s w t = at s (written (type_names t) w)

abbrev pub alias_case : Span → WrittenType → Ident → Types → Or Types
alias_case s w name t = written_at s w t >=> λ k. at s (with_type name.name k t)

abbrev pub typedef_case : Typedef → Types → Or Types
typedef_case (typedef.Alias s w name) t = alias_case s w name t
typedef_case (typedef.Enum s labels name classes) t = enum_case s name labels t
typedef_case (typedef.Struct s fs name classes) t = struct_case s name fs t

-- a method of an interface: what it takes and gives has bits
abbrev pub header_at : TypeNames → Span → WrittenHeader → Or MethodHeader
header_at types s h =
    params_at types (has_bits types.limits) s h.params >=> λ ps. at s (written_effect types h.result) >=> λ e.
    sure s (is_lower h.name.name && are_named ps) (record { name = h.name.name; params = ps; result = method_result e })

abbrev pub headers_at : TypeNames → Span → List WrittenHeader → Or (List MethodHeader)
headers_at types s [] = Ok []
headers_at types s (h ∷ hs) = header_at types s h >=> λ m. headers_at types s hs >=> λ ms. Ok (m ∷ ms)

abbrev pub header_names : List MethodHeader → List (List ℕ)
header_names hs = map (λ h. h.name) hs

abbrev pub interface_named : List ℕ → List MethodHeader → Interface
interface_named name hs = record { name = name; methods = hs }

unfoldable pub interface_of : WrittenInterface → Types → Or Interface
interface_of i t =
    headers_at (type_names t) i.span i.methods >=> λ hs. sure i.span (is_upper i.name.name && distinct (header_names hs)) (interface_named i.name.name hs)

abbrev pub with_interface : Interface → Types → Types
with_interface x t = record t { interfaces = t.interfaces ++ x ∷ [] }

abbrev pub interface_case : WrittenInterface → Types → Or Types
interface_case i t =
    interface_of i t >=> λ x. at i.span (with_type i.name.name (interface (length t.interfaces)) t) >=> λ next. Ok (with_interface x next)

-- an item defines types, each by the ones before it
abbrev pub types_after : Item → Types → Or Types
types_after (item.Typedef s d) t = typedef_case d t
types_after (item.Interface s i) t = interface_case i t
types_after (item.Import s x) t = Ok t
types_after (item.Function s x) t = Ok t
types_after (item.Module s x) t = Ok t

-- ---- functions and modules

-- what functions and modules may name
pub record Program : Type 0 where
  pub types : Types
  pub functions : Entries (ℕ × List Kind × Kind)
  pub modules : Entries Header

abbrev pub no_variable : List ℕ → Option (ℕ × Slot)
no_variable name = None

-- where the functions with a number below this one may be called
unfoldable pub env_of : Program → ℕ → Env
env_of p callable = record {
  limits = limits_of p.types;
  variable = no_variable;
  function = λ name. in_reach callable (found name p.functions);
  label = λ name. found name p.types.labels;
  structure = λ name. structure_of (found name p.types.names);
}

abbrev pub value_kind : Program → Kind → Bool
value_kind p k = is_typed_value (limits_of p.types) k

unfoldable pub value_params : Program → Span → List WrittenParam → Or (List Param)
value_params p s xs = params_at (type_names p.types) (value_kind p) s xs

-- the types of a function's parameters and result have bits, or are Integer
unfoldable pub function_header : Program → WrittenFunction → Or (List Param × Kind)
function_header p f =
    written_at f.span f.result p.types >=> λ k. value_params p f.span f.params >=> λ ps.
    sure f.span (is_lower f.name.name && value_kind p k && are_named ps) (ps, k)

abbrev pub function_made : WrittenFunction → List Param → Kind → Body → Function
function_made f ps k b = record { name = f.name.name; params = ps; result = type_of k; body = b }

-- a function as calls see it: its number, the types of its parameters, and its result
unfoldable pub function_entry : Program → WrittenFunction → Or (ℕ × List Kind × Kind)
function_entry p f = function_header p f >=> λ h. Ok (length p.functions, param_kinds h.0, h.1)

abbrev pub with_function : Program → WrittenFunction → Or Program
with_function p f = function_entry p f >=> λ e. at f.span (added f.name.name e p.functions) >=> λ functions. Ok (record p { functions = functions })

-- what is there has this number
abbrev pub has_number : ℕ → Option ℕ → Bool
has_number number None = false
has_number number (Some n) = n == number

abbrev pub is_function : Program → List ℕ → ℕ → Bool
is_function p name number = has_number number (option_map (λ g. g.0) (found name p.functions))

-- parameters alone in scope
abbrev pub param_scopes : Span → List Param → Or Scopes
param_scopes s ps = at s (with_params ps ([] ∷ []))

-- the body of a function, in the scope of its parameters; it calls only functions with a number below this one
unfoldable pub function_body : Program → ℕ → Span → List Param → Kind → WrittenBody → Or Body
function_body p number s ps k b = param_scopes s ps >=> λ inner. body_of (env_of p number) (type_names p.types) s 0 inner (value k) b >=> λ r. Ok r.1

-- the function of this number calls only functions before it
abbrev pub function_case : Program → ℕ → WrittenFunction → Or Function
function_case p number f =
    function_header p f >=> λ h. sure f.span (is_function p f.name.name number) true >=> λ own.
    function_body p number f.span h.0 h.1 f.body >=> λ b. Ok (function_made f h.0 h.1 b)

abbrev pub param_kind : Program → Kind → Bool
param_kind p k = value_kind p k || is_interface k

unfoldable pub module_params : Program → Span → List WrittenParam → Or (List Param)
module_params p s xs = params_at (type_names p.types) (param_kind p) s xs

-- what makers see of a module
unfoldable pub module_header : Program → WrittenModule → Or (List Param × Kind)
module_header p m =
    module_params p m.span m.params >=> λ ps. written_at m.span m.interface p.types >=> λ k.
    sure m.span (is_lower m.name.name && is_interface k && are_named ps) (ps, k)

abbrev pub header_of : ℕ → List Param × Kind → Header
header_of number h = record { number = number; params = param_kinds h.0; interface = h.1 }

unfoldable pub module_entry : Program → WrittenModule → Or Header
module_entry p m = module_header p m >=> λ h. Ok (header_of (length p.modules) h)

abbrev pub with_module : Program → WrittenModule → Or Program
with_module p m = module_entry p m >=> λ e. at m.span (added m.name.name e p.modules) >=> λ modules. Ok (record p { modules = modules })

-- what a module may name, which calls functions with a number below this one
unfoldable pub site_at : Program → ℕ → Kind → ModuleContext
site_at p callable k = record {
  env = env_of p callable;
  types = type_names p.types;
  modules = λ name. found name p.modules;
  wanted = methods (shapes_of p.types) k;
}

-- a module may call all functions
abbrev pub site_of : Program → Kind → ModuleContext
site_of p k = site_at p (length p.functions) k

abbrev pub is_module : Program → List ℕ → ℕ → Bool
is_module p name number = has_number number (option_map (λ g. g.number) (found name p.modules))

abbrev pub no_methods : List Signature → List (Option Method)
no_methods wanted = map (λ w. None) wanted

-- all of them, where none is missing
abbrev pub all_there : Span → List (Option Method) → Or (List Method)
all_there s [] = Ok []
all_there s (m ∷ ms) = at s m >=> λ x. all_there s ms >=> λ xs. Ok (x ∷ xs)

-- what the statements of a module come to: its rules, its methods, and the statements
abbrev pub Parts : Type 0
Parts = List Rule × List Method × List ModuleStmt

abbrev pub module_made : WrittenModule → List Attribute → List Param × Kind → Parts → Module
module_made m attributes h parts =
    record { name = m.name.name; attributes = attributes; params = h.0; interface = type_of h.1; rules = parts.0; methods = parts.1; body = parts.2 }

-- nothing of the module is typed yet
abbrev pub opening_state : ModuleContext → Scopes → State
opening_state site ss = record { scopes = ss; rules = []; methods = no_methods site.wanted }

-- the statements of a module; it defines each method that is wanted
unfoldable pub module_body : ModuleContext → WrittenModule → Scopes → Or (State × List ModuleStmt)
module_body site m ss = sure m.span (defines_all site.wanted m.body) (opening_state site ss) >=> all_in (map (direct site) m.body)

-- in the scope of its parameters
unfoldable pub module_parts : ModuleContext → WrittenModule → List Param → Or Parts
module_parts site m ps = param_scopes m.span ps >=> λ inner. module_body site m inner >=> λ r. all_there m.span r.0.methods >=> λ ms. Ok (r.0.rules, ms, r.1)

-- the module of this number
abbrev pub module_case : Program → ℕ → WrittenModule → Or Module
module_case p number m =
    asked m.span owner.Module m.attributes >=> λ attributes. module_header p m >=> λ h. sure m.span (is_module p m.name.name number) true >=> λ own.
    module_parts (site_of p h.1) m h.0 >=> λ parts. Ok (module_made m attributes h parts)
