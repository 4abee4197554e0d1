-- The names that the language gives, and what the definitions see of the names over all packages.
use Rattle.std.specs.Prelude.{ℕ, if◌then◌else◌, List, [], ◌∷◌, ◌++◌, fold, map, codes}
use Rattle.std.specs.Map.{keys_of}
use Rattle.bsv_types.specs.Makers.{makers, maker_name}
use Rattle.bsv_types.specs.GivenFunctions.{functions, function_name}
use Rattle.bsv_scopes.specs.Scopes.{Entries, is_listed, with_new}
use Rattle.bsv_scopes.specs.Seen.{entries}
use Rattle.bsv_scopes.specs.declared.definitions.Space.{Space}
use Rattle.bsv_scopes.specs.declared.definitions.Space.TheVariants as space
use Rattle.bsv_scopes.specs.declared.definitions.Definitions.{Definitions}

-- of types and of interfaces
unfoldable pub given_types : List (List ℕ)
given_types =
    codes "Bit" ∷ codes "UInt" ∷ codes "Int" ∷ codes "Bool" ∷ codes "Maybe" ∷ codes "Integer" ∷ codes "Empty" ∷
    codes "Reg" ∷ codes "Wire" ∷ codes "RWire" ∷ codes "PulseWire" ∷ codes "FIFO" ∷ codes "FIFOF" ∷
    codes "Action" ∷ codes "ActionValue" ∷ []

unfoldable pub given_labels : List (List ℕ)
given_labels = codes "True" ∷ codes "False" ∷ []

unfoldable pub given_functions : List (List ℕ)
given_functions = map function_name functions

-- of what makes a primitive
unfoldable pub given_modules : List (List ℕ)
given_modules = map maker_name makers

-- the names of each space
abbrev pub given_names : Space → List (List ℕ)
given_names space.Types = given_types
given_names space.Labels = given_labels
given_names space.Functions = given_functions
given_names space.Modules = given_modules

-- the names that are defined in a space, in the order of their definitions
abbrev pub names_of : Space → Definitions → List (List ℕ)
names_of space.Types definitions = keys_of (entries definitions.types)
names_of space.Labels definitions = keys_of (entries definitions.labels)
names_of space.Functions definitions = keys_of (entries definitions.functions)
names_of space.Modules definitions = keys_of (entries definitions.modules)

-- with the name at the end, where it is new
abbrev pub with_new_name : List ℕ → List (List ℕ) → List (List ℕ)
with_new_name name names = if is_listed name names then names else names ++ name ∷ []

-- a scope in which these names are defined in turn
abbrev pub defined_all : List (List ℕ) → Entries (Unit {0})
defined_all names = fold (λ es name. with_new name tt es) [] names
