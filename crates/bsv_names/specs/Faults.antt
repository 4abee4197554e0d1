-- The first fault of names in load and text order.
use Rattle.std.specs.Prelude.{ℕ, ◌+◌, List, [], ◌∷◌, Option, None, option_map}
use Rattle.std.specs.Option.{option_or}
use Rattle.bsv_ast.specs.declared.text.Span.{Span}
use Rattle.bsv_ast.specs.declared.package.Package.{Package}
use Rattle.bsv_names.specs.declared.event.Event.{Event}
use Rattle.bsv_names.specs.declared.names.Pass.{Pass}
use Rattle.bsv_names.specs.declared.names.Pass.TheVariants.{Twice, Unknown}
use Rattle.bsv_names.specs.declared.place.Place.{Place}
use Rattle.bsv_names.specs.PackageEvents.{package_events}
use Rattle.bsv_names.specs.Known.{Known, after, after_all, given}
use Rattle.bsv_names.specs.Twice.{defined_again}
use Rattle.bsv_names.specs.Unknown.{used_unknown, known_anywhere}

-- the span of an event that is at fault
abbrev pub fault : Pass → Known → Event → Option Span
fault Twice k e = defined_again k e
fault Unknown k e = used_unknown k e

-- the first event at fault
abbrev pub first_fault : Pass → Known → List Event → Option Span
first_fault pass k [] = None
first_fault pass k (e ∷ es) = option_or (fault pass k e) (first_fault pass (after k e) es)

abbrev pub in_package : ℕ → Span → Place
in_package number s = record { «package» = number; span = s }

-- the first one in packages, which are numbered from this number on
abbrev pub first_place : Pass → ℕ → Known → List Package → Option Place
first_place pass number k [] = None
first_place pass number k (p ∷ ps) =
    option_or (option_map (in_package number) (first_fault pass k (package_events p))) (first_place pass (number + 1) (after_all k (package_events p)) ps)

-- the place of the first definition whose name is in its own scope already
unfoldable pub first_twice : List Package → Option Place
first_twice packages = first_place Twice 0 given packages

-- the place of the first use of a name that has no definition in scope
unfoldable pub first_unknown : List Package → Option Place
first_unknown packages = first_place Unknown 0 (known_anywhere packages) packages
