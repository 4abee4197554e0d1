-- The tables of the code are those of the definitions, and no name is twice in one.
use Rattle.std.proofs.Common.{◌≡◌, map, refl}
use Rattle.std.specs.Map.{keys_of}
use Rattle.bsv_scopes.specs.declared.definitions.TheConstants.{TYPES, LABELS}
use Rattle.bsv_types.specs.Makers.{makers, maker_name}
use Rattle.bsv_types.specs.GivenFunctions.{functions, function_name}
use Rattle.bsv_scopes.specs.Given.{given_types, given_labels, given_functions, given_modules, defined_all}

pub types_table : map (λ name. name.now) TYPES ≡ given_types
unfolding given_types
types_table = refl

pub labels_table : map (λ name. name.now) LABELS ≡ given_labels
unfolding given_labels
labels_table = refl

pub ruleset tables = (types_table, labels_table)

pub types_defined : keys_of (defined_all given_types) ≡ given_types
unfolding given_types
types_defined = refl

pub labels_defined : keys_of (defined_all given_labels) ≡ given_labels
unfolding given_labels
labels_defined = refl

pub functions_defined : keys_of (defined_all (map function_name functions)) ≡ given_functions
unfolding given_functions functions
functions_defined = refl

pub modules_defined : keys_of (defined_all (map maker_name makers)) ≡ given_modules
unfolding given_modules makers
modules_defined = refl

pub ruleset all_given = (types_defined, labels_defined, functions_defined, modules_defined)
