-- Names that are defined twice in one scope.
use Rattle.std.specs.Prelude.{if◌then◌else◌, Option, Some, None}
use Rattle.bsv_ast.specs.declared.text.Span.{Span}
use Rattle.bsv_scopes.specs.Scopes.{is_listed, is_new_in}
use Rattle.bsv_names.specs.declared.event.Event.{Event}
use Rattle.bsv_names.specs.declared.event.Event.TheVariants.{Define, DefineVariable, Open, Close, Use, UseVariable, UseValue}
use Rattle.bsv_names.specs.Known.{Known, names_in}

-- a definition whose name is in its own scope already; no variable is outside a scope
abbrev pub defined_again : Known → Event → Option Span
defined_again k (Define space name s) = if is_listed name (names_in space k) then Some s else None
defined_again k (DefineVariable name s) = if is_new_in name k.variables then None else Some s
defined_again k Open = None
defined_again k Close = None
defined_again k (Use space name s) = None
defined_again k (UseVariable name s) = None
defined_again k (UseValue name s) = None
