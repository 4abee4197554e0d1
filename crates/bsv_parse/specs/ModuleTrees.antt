-- Nodes of the syntax tree of a package, from the parts that a production has.
use Rattle.std.specs.Prelude.{ℕ, Bool, List, [], ◌∷◌, ◌++◌, length, ◌-◌, slice_get, slice_range, Option, Some, None, is_none}
use Rattle.bsv_ast.specs.declared.text.Span.{Span}
use Rattle.bsv_ast.specs.declared.text.Ident.{Ident}
use Rattle.bsv_ast.specs.declared.types.WrittenType.{WrittenType}
use Rattle.bsv_ast.specs.declared.expressions.Expr.{Expr}
use Rattle.bsv_ast.specs.declared.statements.DeclaredType.{DeclaredType}
use Rattle.bsv_ast.specs.declared.statements.DeclaredType.TheVariants as declared
use Rattle.bsv_ast.specs.declared.modules.Attribute.{Attribute}
use Rattle.bsv_ast.specs.declared.modules.AttributeGroup.{AttributeGroup}
use Rattle.bsv_ast.specs.declared.modules.Param.{Param}
use Rattle.bsv_ast.specs.declared.modules.Make.{Make}
use Rattle.bsv_ast.specs.declared.modules.Body.{Body}
use Rattle.bsv_ast.specs.declared.modules.Body.TheVariants as body
use Rattle.bsv_ast.specs.declared.modules.Rule.{Rule}
use Rattle.bsv_ast.specs.declared.modules.Method.{Method}
use Rattle.bsv_ast.specs.declared.modules.Module.{Module}
use Rattle.bsv_ast.specs.declared.modules.ModuleBranch.{ModuleBranch, out-ModuleBranch, roll-ModuleBranch}
use Rattle.bsv_ast.specs.declared.statements.Stmt.{Stmt}
use Rattle.bsv_ast.specs.declared.statements.Head.{Head}
use Rattle.bsv_ast.specs.declared.package.Import.{Import}
use Rattle.bsv_ast.specs.declared.package.Field.{Field}
use Rattle.bsv_ast.specs.declared.package.Typedef.{Typedef}
use Rattle.bsv_ast.specs.declared.package.Typedef.TheVariants as typedef
use Rattle.bsv_ast.specs.declared.package.MethodHeader.{MethodHeader}
use Rattle.bsv_ast.specs.declared.package.Interface.{Interface}
use Rattle.bsv_ast.specs.declared.package.Function.{Function}
use Rattle.bsv_ast.specs.declared.package.Item.{Item}
use Rattle.bsv_ast.specs.declared.package.Item.TheVariants as item
use Rattle.bsv_ast.specs.declared.package.Package.{Package}
use Rattle.bsv_ast.specs.declared.package.Package.TheVariants as whole
use Rattle.bsv_ast.specs.declared.modules.ModuleStmt.{ModuleStmt}
use Rattle.bsv_ast.specs.declared.modules.ModuleStmt.TheVariants as node
use Rattle.bsv_ast.specs.Spans.{type_span, stmt_span, module_stmt_span, typedef_span, item_span}
use Rattle.bsv_expr.specs.Reading.{on_some}
use Rattle.bsv_expr.specs.Trees.{to, last}
use Rattle.bsv_parse.specs.declared.simple_module.Given.{Given}
use Rattle.bsv_parse.specs.declared.simple_module.Given.TheVariants as given
use Rattle.bsv_parse.specs.declared.simple_module.Changed.{Changed}
use Rattle.bsv_parse.specs.declared.simple_module.Changed.TheVariants as changed
use Rattle.bsv_parse.specs.declared.modules.ModuleBranches.{ModuleBranches}
use Rattle.bsv_parse.specs.declared.modules.ModuleElse.{ModuleElse}
use Rattle.bsv_parse.specs.declared.modules.ModuleElse.TheVariants as otherwise

-- the bytes of a text between its quotes
abbrev pub unquoted : List ℕ → List ℕ
unquoted bytes = slice_range bytes 1 (length bytes - 1)

abbrev pub attribute_of : Ident → Option (Span × List ℕ) → Attribute
attribute_of name None = record { span = name.span; name = name; text = None }
attribute_of name (Some found) = record { span = to name.span found.0; name = name; text = Some found.1 }

abbrev pub group_of : Span → List Attribute → Span → AttributeGroup
group_of o found c = record { span = to o c; attributes = found }

-- where a definition begins that may have attributes in front of its word
abbrev pub start_of : List AttributeGroup → Span → Span
start_of groups start = on_some (slice_get groups 0) start (λ g. g.span)

abbrev pub param_of : WrittenType → Ident → Param
param_of t name = record { span = to (type_span t) name.span; written = t; name = name }

abbrev pub make_of : Ident → Option (List Expr × Span) → Make
make_of name None = record { span = name.span; maker = name; arguments = [] }
make_of name (Some found) = record { span = to name.span found.1; maker = name; arguments = found.0 }

-- a name and its value, after a type or `let`
abbrev pub declaration : Span → DeclaredType → Ident → Expr → Span → ModuleStmt
declaration start t name value c = node.Declare (to start c) (record { span = to start c; declared = t; name = name; value = value })

-- `type Lower`, and what comes after it
abbrev pub typed_of : WrittenType × Ident → Given → ModuleStmt
typed_of (t, name) (given.Instance make c) = node.Instance (to (type_span t) c) t name make
typed_of (t, name) (given.Array size c) = node.Array (to (type_span t) c) t name size
typed_of (t, name) (given.Value value c) = declaration (type_span t) (declared.Written (type_span t) t) name value c

-- `let Lower`, and its value
abbrev pub let_of : Span × Ident → Expr × Span → ModuleStmt
let_of (start, name) (value, c) = declaration start (declared.Let start) name value c

-- a name, and what comes after it
abbrev pub changed_of : Ident → Changed → ModuleStmt
changed_of name (changed.Place at make c) = node.Place (to name.span c) name at make
changed_of name (changed.Value value c) = node.Assign (to name.span c) name value

-- the statements of a body, and the `;` in front of them
abbrev pub statements_span : Span → List Stmt → Span
statements_span start found = on_some (last found) start (λ s. to start (stmt_span s))

abbrev pub statements_of : Span × (List Stmt × Span) → Span → Body × Span
statements_of (start, (found, close)) end = (body.Statements (statements_span start found) found, end)

abbrev pub value_of : Span → Expr → Span → Body × Span
value_of o x c = (body.Value (to o c) x, c)

-- its attributes, `rule`, its name, its condition, its statements and `endrule`
abbrev pub RuleFront : Type 0
RuleFront = List AttributeGroup × (Span × (Ident × (Option Expr × (List Stmt × Span))))

abbrev pub rule_of : RuleFront → Span → Rule
rule_of (attributes, (start, (name, (condition, (body, close))))) end =
    record { span = to (start_of attributes start) end; attributes = attributes; name = name; condition = condition; body = body }

-- a word, a type and a name
abbrev pub Header : Type 0
Header = Span × (WrittenType × Ident)

abbrev pub method_of : Header → List Param × Option Expr → Body × Span → Method
method_of (start, (result, name)) (params, condition) (body, end) =
    record { span = to start end; result = result; name = name; params = params; condition = condition; body = body }

abbrev pub function_of : Header → List Param → Body × Span → Function
function_of (start, (result, name)) params (body, end) =
    record { span = to start end; result = result; name = name; params = params; body = body }

abbrev pub block_of : Span → List ModuleStmt → Span → ModuleStmt
block_of o found c = node.Block (to o c) found

abbrev pub of_rule : Rule → ModuleStmt
of_rule rule = node.Rule rule.span rule

abbrev pub of_method : Method → ModuleStmt
of_method method = node.Method method.span method

abbrev pub branch_of : Span → Expr × ModuleStmt → ModuleBranch
branch_of start (condition, arm) = roll-ModuleBranch (record { span = to start (module_stmt_span arm); condition = condition; arm = arm })

abbrev pub branch_span : ModuleBranch → Span
branch_span b = (out-ModuleBranch b).span

-- the first branch of an `if`
abbrev pub one_branch : ModuleBranch → ModuleBranches
one_branch b = record { span = branch_span b; branches = b ∷ []; otherwise = None }

-- an `if` whose last `else` may still come
abbrev pub is_open : ModuleBranches → Bool
is_open found = is_none found.otherwise

abbrev pub with_else : ModuleBranches → ModuleElse → ModuleBranches
with_else found (otherwise.If b) = record { span = to found.span (branch_span b); branches = found.branches ++ b ∷ []; otherwise = found.otherwise }
with_else found (otherwise.Last x) = record { span = to found.span (module_stmt_span x); branches = found.branches; otherwise = Some x }

abbrev pub if_of : ModuleBranches → ModuleStmt
if_of found = node.If found.span found.branches found.otherwise

abbrev pub for_of : Head → ModuleStmt → ModuleStmt
for_of head x = node.For (to head.span (module_stmt_span x)) head x

-- its attributes, `module`, its name, its parameters and its interface
abbrev pub ModuleHead : Type 0
ModuleHead = List AttributeGroup × (Span × (Ident × (List Param × WrittenType)))

abbrev pub module_of : ModuleHead → List ModuleStmt → Span → Module
module_of (attributes, (start, (name, (params, interface)))) body end =
    record { span = to (start_of attributes start) end; attributes = attributes; name = name; params = params; interface = interface; body = body }

-- Definitions.

-- the definition of a type begins at its `typedef`
abbrev pub opened : Span → Typedef → Typedef
opened start (typedef.Alias s t name) = typedef.Alias (to start s) t name
opened start (typedef.Enum s labels name classes) = typedef.Enum (to start s) labels name classes
opened start (typedef.Struct s fields name classes) = typedef.Struct (to start s) fields name classes

abbrev pub alias_of : WrittenType → Ident × Span → Typedef
alias_of t (name, end) = typedef.Alias (to (type_span t) end) t name

-- what comes after the `}`: a name, the classes of its `deriving`, and where its `;` stands
abbrev pub Named : Type 0
Named = Ident × (List Ident × Span)

abbrev pub enum_of : Span → List Ident × Named → Typedef
enum_of start (labels, (name, (classes, end))) = typedef.Enum (to start end) labels name classes

abbrev pub struct_of : Span → List Field × Named → Typedef
struct_of start (fields, (name, (classes, end))) = typedef.Struct (to start end) fields name classes

abbrev pub field_of : WrittenType → Ident × Span → Field
field_of t (name, end) = record { span = to (type_span t) end; written = t; name = name }

abbrev pub import_of : Span → Ident × Span → Import
import_of start (name, end) = record { span = to start end; «package» = name }

abbrev pub method_header_of : Header → List Param × Span → MethodHeader
method_header_of (start, (result, name)) (params, end) = record { span = to start end; result = result; name = name; params = params }

-- `interface`, its name, its methods and `endinterface`
abbrev pub InterfaceFront : Type 0
InterfaceFront = Span × (Ident × (List MethodHeader × Span))

abbrev pub interface_of : InterfaceFront → Span → Interface
interface_of (start, (name, (methods, close))) end = record { span = to start end; name = name; methods = methods }

abbrev pub of_import : Import → Item
of_import x = item.Import x.span x

abbrev pub of_typedef : Typedef → Item
of_typedef x = item.Typedef (typedef_span x) x

abbrev pub of_interface : Interface → Item
of_interface x = item.Interface x.span x

abbrev pub of_function : Function → Item
of_function x = item.Function x.span x

abbrev pub of_module : Module → Item
of_module x = item.Module x.span x

-- `package`, its name, its items and `endpackage`
abbrev pub PackageFront : Type 0
PackageFront = Span × (Ident × (List Item × Span))

abbrev pub package_of : PackageFront → Span → Package
package_of (start, (name, (items, close))) end = whole.Named (to start end) name items

-- where items stand; at the start where there are none
abbrev pub items_span : List Item → Span
items_span items = on_some (slice_get items 0) (record { start = 0; end = 0 }) (λ x. on_some (last items) (item_span x) (λ y. to (item_span x) (item_span y)))

abbrev pub bare_of : List Item → Package
bare_of items = whole.Bare (items_span items) items
