-- The typing of whole programs, with widths and fits left aside and with them, and the first refusal.
use Rattle.std.specs.Prelude.{ℕ, ◌+◌, Bool, true, false, List, [], ◌∷◌, ◌++◌, Option, Some, None, Result, Ok, Err, length}
use Rattle.bsv_ast.specs.declared.modules.Module.{Module as WrittenModule}
use Rattle.bsv_ast.specs.declared.package.Function.{Function as WrittenFunction}
use Rattle.bsv_ast.specs.declared.package.Item.{Item}
use Rattle.bsv_ast.specs.declared.package.Item.TheVariants as item
use Rattle.bsv_ast.specs.declared.package.Package.{Package}
use Rattle.bsv_types.specs.declared.definitions.Enum.{Enum}
use Rattle.bsv_types.specs.declared.definitions.Struct.{Struct}
use Rattle.bsv_types.specs.declared.definitions.Interface.{Interface}
use Rattle.bsv_types.specs.declared.definitions.Function.{Function}
use Rattle.bsv_types.specs.declared.modules.Module.{Module}
use Rattle.bsv_ast.specs.Packages.{items_of}
use Rattle.bsv_names.specs.Faults.{first_twice, first_unknown}
use Rattle.bsv_names.specs.Attributes.{first_bad_attribute}
use Rattle.bsv_names.specs.declared.place.Place.{Place}
use Rattle.bsv_statements.specs.Bodies.{Or, ◌>=>◌}
use Rattle.bsv_modules.specs.Programs.{Types, Program, function_case, module_case}
use Rattle.bsv_check.specs.Headers.{AtPlace, placed, ◌>==◌, all_headers}
use Rattle.bsv_check.specs.Blame.{Blame, headers_blame, packages_judged, told}

-- what a program is typed as
pub record ProgramParts : Type 0 where
  pub enums : List Enum
  pub structs : List Struct
  pub interfaces : List Interface
  pub functions : List Function
  pub modules : List Module

-- ---- item by item

-- the functions and modules that were typed so far
pub record Done : Type 0 where
  pub functions : List Function
  pub modules : List Module

abbrev pub nothing : Done
nothing = record { functions = []; modules = [] }

unfoldable pub function_step : Program → WrittenFunction → List Function → Or (List Function)
function_step p f fs = function_case p (length fs) f >=> λ r. Ok (fs ++ r ∷ [])

unfoldable pub module_step : Program → WrittenModule → List Module → Or (List Module)
module_step p m ms = module_case p (length ms) m >=> λ r. Ok (ms ++ r ∷ [])

unfoldable pub item_step : Program → Item → Done → Or Done
item_step p (item.Function s f) d = function_step p f d.functions >=> λ fs. Ok (record d { functions = fs })
item_step p (item.Module s m) d = module_step p m d.modules >=> λ ms. Ok (record d { modules = ms })
item_step p i d = Ok d

abbrev pub all_items : Program → List Item → Done → Or Done
all_items p [] d = Ok d
all_items p (i ∷ is) d = item_step p i d >=> all_items p is

unfoldable pub package_step : Program → ℕ → Package → Done → AtPlace Done
package_step p number x d = placed number (all_items p (items_of x) d)

-- packages in load order, which are numbered from this number on
abbrev pub all_packages : Program → ℕ → List Package → Done → AtPlace Done
all_packages p number [] d = Ok d
all_packages p number (x ∷ xs) d = package_step p number x d >== all_packages p (number + 1) xs

abbrev pub made_of : Types → Done → ProgramParts
made_of t d = record { enums = t.enums; structs = t.structs; interfaces = t.interfaces; functions = d.functions; modules = d.modules }

-- the bodies of a program whose types and headers have a typing
abbrev pub bodies : Program → List Package → AtPlace ProgramParts
bodies p ps = all_packages p 0 ps nothing >== λ d. Ok (made_of p.types d)

-- the fault of a type or a header, if one is blamed; after it or in front of it may be one of a body
abbrev pub unless_blamed : Program → Blame → List Package → AtPlace ProgramParts
unless_blamed p b ps = by b.fault where
  by : Option Place → AtPlace ProgramParts
  by None = bodies p ps
  by (Some first) = Err (told first (packages_judged p b 0 ps))

-- the typing of a program, or the place of the first fault that is blamed
unfoldable pub typing : Bool → List Package → AtPlace ProgramParts
typing strict ps = unless_blamed (all_headers strict ps) (headers_blame strict ps) ps

-- widths and fits left aside
abbrev pub loosely : List Package → AtPlace ProgramParts
loosely ps = typing false ps

abbrev pub strictly : List Package → AtPlace ProgramParts
strictly ps = typing true ps

-- ---- the first refusal

-- a refusal of a program that is loaded
pub data Refused : Type 0 where
  twice_defined : Place → Refused
  bad_attribute : Place → Refused
  unknown_name : Place → Refused
  type_fault : Place → Refused
  width_fault : Place → Refused

-- a fault of names or attributes: the first kind that occurs anywhere
abbrev pub name_refusal : Option Place → Option Place → Option Place → Option Refused
name_refusal (Some p) a u = Some (twice_defined p)
name_refusal None (Some p) u = Some (bad_attribute p)
name_refusal None None (Some p) = Some (unknown_name p)
name_refusal None None None = None

unfoldable pub refused_names : List Package → Option Refused
refused_names ps = name_refusal (first_twice ps) (first_bad_attribute ps) (first_unknown ps)

abbrev pub or_type_fault : AtPlace ProgramParts → Result ProgramParts Refused
or_type_fault (Ok m) = Ok m
or_type_fault (Err p) = Err (type_fault p)

abbrev pub or_width_fault : AtPlace ProgramParts → Result ProgramParts Refused
or_width_fault (Ok m) = Ok m
or_width_fault (Err p) = Err (width_fault p)

abbrev pub both : Result ProgramParts Refused → Result ProgramParts Refused → Result ProgramParts Refused
both (Ok m) s = s
both (Err r) s = Err r

-- the program as it is typed strictly, where it has both typings
unfoldable pub typed : List Package → Result ProgramParts Refused
typed ps = both (or_type_fault (loosely ps)) (or_width_fault (strictly ps))

abbrev pub unless_refused : Option Refused → Result ProgramParts Refused → Result ProgramParts Refused
unless_refused None t = t
unless_refused (Some r) t = Err r

-- faults of names and attributes come before those of types, wherever they stand
unfoldable pub checked : List Package → Result ProgramParts Refused
checked ps = unless_refused (refused_names ps) (typed ps)
