-- The types of a program and the headers of its functions and modules, in load and text order.
use Rattle.std.specs.Prelude.{ℕ, Bool, List, [], ◌∷◌, Result, Ok, Err}
use Rattle.bsv_ast.specs.declared.package.Item.{Item}
use Rattle.bsv_ast.specs.declared.package.Item.TheVariants as item
use Rattle.bsv_ast.specs.declared.package.Package.{Package}
use Rattle.bsv_ast.specs.Packages.{items_of}
use Rattle.bsv_names.specs.Faults.{in_package}
use Rattle.bsv_names.specs.declared.place.Place.{Place}
use Rattle.bsv_statements.specs.Bodies.{Or}
use Rattle.bsv_modules.specs.Programs.{Types, no_types, types_after, Program, with_function, with_module}

-- with the number of the package in which a fault stands
abbrev pub AtPlace : Type 0 → Type 0
AtPlace A = Result A Place

abbrev pub placed : {A : Type 0} → ℕ → Or A → AtPlace A
placed number (Ok x) = Ok x
placed number (Err s) = Err (in_package number s)

infixl 10 ◌>==◌
abbrev pub ◌>==◌ : {A B : Type 0} → AtPlace A → (A → AtPlace B) → AtPlace B
(Ok x) >== f = f x
(Err p) >== f = Err p

module _ {A : Type 0} (step : Item → A → A) where
  abbrev pub over_items : List Item → A → A
  over_items [] x = x
  over_items (i ∷ is) x = over_items is (step i x)

  -- each item of each package, in load and text order
  abbrev pub over_all : List Package → A → A
  over_all [] x = x
  over_all (p ∷ ps) x = over_all ps (over_items (items_of p) x)

-- an item with a fault defines nothing
abbrev pub or_kept : {A : Type 0} → Or A → A → A
or_kept (Ok y) x = y
or_kept (Err s) x = x

unfoldable pub type_step : Item → Types → Types
type_step i t = or_kept (types_after i t) t

unfoldable pub all_types : Bool → List Package → Types
all_types strict ps = over_all type_step ps (no_types strict)

abbrev pub headers_after : Item → Program → Or Program
headers_after (item.Function s f) p = with_function p f
headers_after (item.Module s m) p = with_module p m
headers_after _ p = Ok p

unfoldable pub header_step : Item → Program → Program
header_step i p = or_kept (headers_after i p) p

abbrev pub no_headers : Types → Program
no_headers t = record { types = t; functions = []; modules = [] }

-- all types, and the headers of all functions and modules
unfoldable pub all_headers : Bool → List Package → Program
all_headers strict ps = over_all header_step ps (no_headers (all_types strict ps))
