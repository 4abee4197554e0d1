-- Which fault of types is told: the first in load and text order that is a definition's or a statement's own. One that
-- names a definition or a variable without a typing is passed over, whatever it says, so that the fault itself is told
-- and not who uses what is at fault.
use Rattle.std.specs.Prelude.{ℕ, ◌+◌, ◌==◌, nat_lt, Bool, true, ◌&&◌, ◌||◌, List, [], ◌∷◌, length, map, Option, Some, None, Ok, Err, if◌then◌else◌}
use Rattle.bsv_ast.specs.declared.modules.Module.{Module as WrittenModule}
use Rattle.bsv_ast.specs.declared.package.Function.{Function as WrittenFunction}
use Rattle.bsv_ast.specs.declared.package.Item.{Item}
use Rattle.bsv_ast.specs.declared.package.Item.TheVariants as item
use Rattle.bsv_ast.specs.declared.package.Package.{Package}
use Rattle.bsv_scopes.specs.Scopes.{Entries, is_listed, found, with_new}
use Rattle.bsv_names.specs.declared.place.Place.{Place}
use Rattle.bsv_names.specs.Faults.{in_package}
use Rattle.bsv_ast.specs.Packages.{items_of}
use Rattle.bsv_names.specs.PackageEvents.{item_events}
use Rattle.bsv_names.specs.Untyped.{Untyped, all_typed, with_untyped, with_functions, item_leans, header_leans, with_params}
use Rattle.bsv_types.specs.Kinds.{Kind}
use Rattle.bsv_types.specs.Methods.{value}
use Rattle.bsv_types.specs.declared.asked.Owner.TheVariants as owner
use Rattle.bsv_types.specs.declared.definitions.Param.{Param}
use Rattle.bsv_statements.specs.Bodies.{Or, ◌>=>◌, sure}
use Rattle.bsv_modules.specs.Modules.{ModuleContext, asked, defines_all}
use Rattle.bsv_modules.specs.Programs.{Types, no_types, types_after, type_names, Program, env_of, function_header, param_scopes, module_header, site_of, opening_state}
use Rattle.bsv_check.specs.Headers.{AtPlace, placed, ◌>==◌, over_items, headers_after, type_step, header_step, all_types, no_headers}
use Rattle.bsv_check.specs.Judged.{Judged, fine, all_judged}
use Rattle.bsv_check.specs.JudgedModules.{body_judged, direct_judged}

pub record Blame : Type 0 where
  -- what has no typing so far
  pub untyped : Untyped
  -- of each function, how many of those before it have no typing
  pub reaches : Entries ℕ
  -- the place of the first fault that is blamed
  pub fault : Option Place

abbrev pub blameless : Blame
blameless = record { untyped = all_typed; reaches = []; fault = None }

-- in load and text order
abbrev pub precedes : Place → Place → Bool
precedes p q = nat_lt p.«package» q.«package» || (p.«package» == q.«package» && nat_lt p.span.start q.span.start)

abbrev pub earlier : Option Place → Place → Place
earlier None q = q
earlier (Some p) q = if precedes q p then q else p

-- ---- definitions: types and headers

-- the fault that is told where an item has no typing, at this place. One that leans on another is passed over, where
-- one is blamed already; so some fault is told as soon as an item has no typing
abbrev pub blamed_at : Bool → Place → Option Place → Place
blamed_at true place (Some first) = first
blamed_at _ place fault = earlier fault place

abbrev pub without_typing : Item → Bool → Place → Blame → Blame
without_typing i leaning place b = record b { untyped = with_untyped (item_events i) b.untyped; fault = Some (blamed_at leaning place b.fault) }

abbrev pub judged : {A : Type 0} → ℕ → Item → Bool → Or A → Blame → Blame
judged number i leaning (Ok x) b = b
judged number i leaning (Err s) b = without_typing i leaning (in_package number s) b

-- an item that defines types, which may name those before it
unfoldable pub type_blame : ℕ → Item → Types → Blame → Blame
type_blame number i t b = judged number i (item_leans b.untyped i) (types_after i t) b

-- a function may call those before it alone: of these it is known here which have no typing
abbrev pub with_reach : Item → Blame → Blame
with_reach (item.Function s f) b = record b { reaches = with_new f.name.name (length b.untyped.functions) b.reaches }
with_reach _ b = b

-- the header of a function or a module, which may name all types
unfoldable pub header_blame : ℕ → Item → Program → Blame → Blame
header_blame number i p b = with_reach i (judged number i (header_leans b.untyped i) (headers_after i p) b)

module _ {A : Type 0} (step : Item → A → A) (blame : ℕ → Item → A → Blame → Blame) where
  abbrev pub items_blame : ℕ → List Item → A → Blame → Blame
  items_blame number [] x b = b
  items_blame number (i ∷ is) x b = items_blame number is (step i x) (blame number i x b)

  -- each item of each package, which are numbered from this number on
  abbrev pub all_blame : ℕ → List Package → A → Blame → Blame
  all_blame number [] x b = b
  all_blame number (p ∷ ps) x b = all_blame (number + 1) ps (over_items step (items_of p) x) (items_blame number (items_of p) x b)

-- what is blamed on types
unfoldable pub types_blame : Bool → List Package → Blame
types_blame strict ps = all_blame type_step type_blame 0 ps (no_types strict) blameless

-- and on headers: where none is blamed, all types and headers have a typing
unfoldable pub headers_blame : Bool → List Package → Blame
headers_blame strict ps = all_blame header_step header_blame 0 ps (no_headers (all_types strict ps)) (types_blame strict ps)

-- ---- bodies: no fault of their own, or the first

-- the functions without a typing that the function may call
abbrev pub within_reach : Blame → List ℕ → Untyped
within_reach b name = with_functions (or_none (found name b.reaches)) b.untyped where
  or_none : Option ℕ → ℕ
  or_none None = 0
  or_none (Some n) = n

-- the number of a function that has a header
abbrev pub own_number : Option (ℕ × List Kind × Kind) → ℕ
own_number None = 0
own_number (Some f) = f.0

-- the body of a function, in the scope of its parameters
unfoldable pub function_body_judged : Program → ℕ → Untyped → WrittenFunction → List Param → Kind → Judged
function_body_judged p number u f ps k =
    param_scopes f.span ps >=> λ inner.
    fine (body_judged u (env_of p number) (type_names p.types) f.span 0 (value k) f.body (with_params true f.params ([] ∷ [])) inner)

-- a function; one without a header is judged already
unfoldable pub function_judged : Program → Blame → WrittenFunction → Judged
function_judged p b f =
    if is_listed f.name.name b.untyped.functions then Ok tt
    else (function_header p f >=> λ h. function_body_judged p (own_number (found f.name.name p.functions)) (within_reach b f.name.name) f h.0 h.1)

-- the statements of a module, in the scope of its parameters
abbrev pub module_body_judged : ModuleContext → Untyped → WrittenModule → List Param → Judged
module_body_judged site u m ps =
    param_scopes m.span ps >=> λ inner. sure m.span (defines_all site.wanted m.body) true >=> λ all.
    fine (all_judged (map (direct_judged (record { untyped = u; site = site })) m.body) (with_params true m.params ([] ∷ [])) (opening_state site inner))

-- a module; one without a header is judged already
unfoldable pub module_judged : Program → Untyped → WrittenModule → Judged
module_judged p u m =
    if is_listed m.name.name u.modules then Ok tt
    else (asked m.span owner.Module m.attributes >=> λ attributes. module_header p m >=> λ h. module_body_judged (site_of p h.1) u m h.0)

abbrev pub item_judged : Program → Blame → Item → Judged
item_judged p b (item.Function s f) = function_judged p b f
item_judged p b (item.Module s m) = module_judged p b.untyped m
item_judged p b _ = Ok tt

abbrev pub items_judged : Program → Blame → List Item → Judged
items_judged p b [] = Ok tt
items_judged p b (i ∷ is) = item_judged p b i >=> λ judged. items_judged p b is

abbrev pub package_judged : Program → Blame → ℕ → Package → AtPlace (Unit {0})
package_judged p b number x = placed number (items_judged p b (items_of x))

-- packages in load order, which are numbered from this number on
abbrev pub packages_judged : Program → Blame → ℕ → List Package → AtPlace (Unit {0})
packages_judged p b number [] = Ok tt
packages_judged p b number (x ∷ xs) = package_judged p b number x >== λ judged. packages_judged p b (number + 1) xs

-- the fault that is told, where one of a type or a header is blamed: that one, or an earlier one of a body
abbrev pub told : Place → AtPlace (Unit {0}) → Place
told first (Ok judged) = first
told first (Err place) = earlier (Some first) place
