-- What is known of names at a place of a program.
use Rattle.std.specs.Prelude.{ℕ, List, [], ◌∷◌}
use Rattle.bsv_scopes.specs.declared.definitions.Space.{Space}
use Rattle.bsv_scopes.specs.declared.definitions.Space.TheVariants.{Types, Labels, Functions, Modules}
use Rattle.bsv_scopes.specs.Scopes.{Entries, defined_in, opened, closed}
use Rattle.bsv_scopes.specs.Given.{given_names, with_new_name}
use Rattle.bsv_names.specs.declared.event.Event.{Event}
use Rattle.bsv_names.specs.declared.event.Event.TheVariants.{Define, DefineVariable, Open, Close, Use, UseVariable, UseValue}

-- the names of the scopes over all packages, and the scopes of variables, the innermost first
pub record Known : Type 0 where
  pub types : List (List ℕ)
  pub labels : List (List ℕ)
  pub functions : List (List ℕ)
  pub modules : List (List ℕ)
  pub variables : List (Entries (Unit {0}))

abbrev pub names_in : Space → Known → List (List ℕ)
names_in Types k = k.types
names_in Labels k = k.labels
names_in Functions k = k.functions
names_in Modules k = k.modules

abbrev pub with_definition : Space → List ℕ → Known → Known
with_definition Types name k = record k { types = with_new_name name k.types }
with_definition Labels name k = record k { labels = with_new_name name k.labels }
with_definition Functions name k = record k { functions = with_new_name name k.functions }
with_definition Modules name k = record k { modules = with_new_name name k.modules }

-- what is known after an event
abbrev pub after : Known → Event → Known
after k (Define space name s) = with_definition space name k
after k (DefineVariable name s) = record k { variables = defined_in name tt k.variables }
after k Open = record k { variables = opened k.variables }
after k Close = record k { variables = closed k.variables }
after k (Use space name s) = k
after k (UseVariable name s) = k
after k (UseValue name s) = k

-- what is known after events
abbrev pub after_all : Known → List Event → Known
after_all k [] = k
after_all k (e ∷ es) = after_all (after k e) es

-- what is known before a program: the names that the language gives
abbrev pub given : Known
given = record { types = given_names Types; labels = given_names Labels; functions = given_names Functions; modules = given_names Modules; variables = [] }
