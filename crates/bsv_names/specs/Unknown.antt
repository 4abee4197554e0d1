-- Names that nothing defines.
use Rattle.std.specs.Prelude.{◌||◌, if◌then◌else◌, List, [], ◌∷◌, Option, Some, None, is_some}
use Rattle.bsv_ast.specs.declared.text.Span.{Span}
use Rattle.bsv_ast.specs.declared.package.Package.{Package}
use Rattle.bsv_scopes.specs.Scopes.{is_listed, find_in}
use Rattle.bsv_names.specs.declared.event.Event.{Event}
use Rattle.bsv_names.specs.declared.event.Event.TheVariants.{Define, DefineVariable, Open, Close, Use, UseVariable, UseValue}
use Rattle.bsv_names.specs.PackageEvents.{package_events}
use Rattle.bsv_names.specs.Known.{Known, names_in, after_all, given}

-- a use of a name that has no definition in scope
abbrev pub used_unknown : Known → Event → Option Span
used_unknown k (Define space name s) = None
used_unknown k (DefineVariable name s) = None
used_unknown k Open = None
used_unknown k Close = None
used_unknown k (Use space name s) = if is_listed name (names_in space k) then None else Some s
used_unknown k (UseVariable name s) = if is_some (find_in name k.variables) then None else Some s
used_unknown k (UseValue name s) = if is_some (find_in name k.variables) || is_listed name k.functions then None else Some s

-- what is known after packages
abbrev pub after_packages : Known → List Package → Known
after_packages k [] = k
after_packages k (p ∷ ps) = after_packages (after_all k (package_events p)) ps

-- the definitions of a program, wherever they stand, beside those that the language gives
abbrev pub known_anywhere : List Package → Known
known_anywhere packages = record (after_packages given packages) { variables = [] }
