-- The names of definitions and of packages, in text order.
use Rattle.std.specs.Prelude.{List, [], ◌++◌, map}
use Rattle.bsv_ast.specs.declared.text.Ident.{Ident}
use Rattle.bsv_ast.specs.declared.modules.Module.{Module}
use Rattle.bsv_ast.specs.declared.package.Field.{Field}
use Rattle.bsv_ast.specs.declared.package.Typedef.{Typedef}
use Rattle.bsv_ast.specs.declared.package.Typedef.TheVariants as typedef
use Rattle.bsv_ast.specs.declared.package.MethodHeader.{MethodHeader}
use Rattle.bsv_ast.specs.declared.package.Interface.{Interface}
use Rattle.bsv_ast.specs.declared.package.Function.{Function}
use Rattle.bsv_ast.specs.declared.package.Item.{Item}
use Rattle.bsv_ast.specs.declared.package.Item.TheVariants as item
use Rattle.bsv_ast.specs.declared.package.Package.{Package}
use Rattle.bsv_ast.specs.Packages.{items_of}
use Rattle.bsv_scopes.specs.declared.definitions.Space.TheVariants.{Types, Labels, Functions, Modules}
use Rattle.bsv_names.specs.declared.event.Event.{Event}
use Rattle.bsv_names.specs.Events.{defined, variable, joined, scope}
use Rattle.bsv_names.specs.ExpressionEvents.{type_events}
use Rattle.bsv_names.specs.ModuleEvents.{param_types, param_variables, body_events, module_stmts_events}

-- labels are defined over all packages
abbrev pub label_events : List Ident → List Event
label_events labels = joined (map (λ label. defined Labels label label.span) labels)

abbrev pub field_events : Field → List Event
field_events field = type_events field.written ++ variable field.name field.span

abbrev pub fields_events : List Field → List Event
fields_events fields = joined (map field_events fields)

-- the fields of a struct have a scope of their own
abbrev pub typedef_events : Typedef → List Event
typedef_events (typedef.Alias s t name) = defined Types name s ++ type_events t
typedef_events (typedef.Enum s labels name classes) = defined Types name s ++ label_events labels
typedef_events (typedef.Struct s fields name classes) = defined Types name s ++ scope (fields_events fields)

abbrev pub header_events : MethodHeader → List Event
header_events header =
    variable header.name header.span ++ type_events header.result ++ param_types header.params ++ scope (param_variables header.params)

abbrev pub headers_events : List MethodHeader → List Event
headers_events headers = joined (map header_events headers)

-- the methods of an interface have a scope of their own
abbrev pub interface_events : Interface → List Event
interface_events interface = defined Types interface.name interface.span ++ scope (headers_events interface.methods)

abbrev pub function_events : Function → List Event
function_events function =
    defined Functions function.name function.span ++ type_events function.result ++ param_types function.params
    ++ scope (param_variables function.params ++ body_events function.body)

abbrev pub module_events : Module → List Event
module_events m =
    defined Modules m.name m.span ++ param_types m.params ++ type_events m.interface
    ++ scope (param_variables m.params ++ module_stmts_events m.body)

abbrev pub item_events : Item → List Event
item_events (item.Import s x) = []
item_events (item.Typedef s x) = typedef_events x
item_events (item.Interface s x) = interface_events x
item_events (item.Function s x) = function_events x
item_events (item.Module s x) = module_events x

abbrev pub package_events : Package → List Event
package_events p = joined (map item_events (items_of p))
