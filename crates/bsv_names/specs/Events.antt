-- Events of names: the lists of one event, and how lists are put together.
use Rattle.std.specs.Prelude.{List, [], ◌∷◌, ◌++◌}
use Rattle.bsv_ast.specs.declared.text.Span.{Span}
use Rattle.bsv_ast.specs.declared.text.Ident.{Ident}
use Rattle.bsv_scopes.specs.declared.definitions.Space.{Space}
use Rattle.bsv_names.specs.declared.event.Event.{Event}
use Rattle.bsv_names.specs.declared.event.Event.TheVariants.{Define, DefineVariable, Open, Close, Use, UseVariable, UseValue}

abbrev pub defined : Space → Ident → Span → List Event
defined space x s = Define space x.name s ∷ []

abbrev pub variable : Ident → Span → List Event
variable x s = DefineVariable x.name s ∷ []

abbrev pub used : Space → Ident → List Event
used space x = Use space x.name x.span ∷ []

abbrev pub variable_used : Ident → List Event
variable_used x = UseVariable x.name x.span ∷ []

-- a name in an expression without `(` after it
abbrev pub value_used : Ident → List Event
value_used x = UseValue x.name x.span ∷ []

-- one list after the other
abbrev pub joined : List (List Event) → List Event
joined [] = []
joined (xs ∷ xss) = xs ++ joined xss

-- in a scope of their own
abbrev pub scope : List Event → List Event
scope xs = Open ∷ xs ++ Close ∷ []
