-- The names of types and expressions, in text order.
use Rattle.std.specs.Prelude.{List, [], ◌∷◌, ◌++◌, map}
use Rattle.bsv_ast.specs.declared.types.WrittenType.{WrittenType, fold-WrittenType}
use Rattle.bsv_ast.specs.declared.types.TypeArgument.TheOpen.{WrittenType-F, TypeArgument-F}
use Rattle.bsv_ast.specs.declared.expressions.Expr.{Expr, fold-Expr}
use Rattle.bsv_ast.specs.declared.expressions.Expr.TheOpen.{Expr-F, Suffix-F}
use Rattle.bsv_ast.specs.declared.expressions.FieldValue.{FieldValue, fold-FieldValue}
use Rattle.bsv_ast.specs.declared.expressions.Suffix.{Suffix, fold-Suffix}
use Rattle.bsv_scopes.specs.declared.definitions.Space.TheVariants.{Types, Labels, Functions}
use Rattle.bsv_names.specs.declared.event.Event.{Event}
use Rattle.bsv_names.specs.Events.{used, value_used, joined}

abbrev pub type_step : WrittenType-F (List Event) (List Event) → List Event
type_step (WrittenType-F.Named s name) = used Types name
type_step (WrittenType-F.Applied s name argument) = used Types name ++ argument
type_step (WrittenType-F.Int s) = []

abbrev pub argument_step : TypeArgument-F (List Event) (List Event) → List Event
argument_step (TypeArgument-F.Written s t) = t
argument_step (TypeArgument-F.Number s number) = []

abbrev pub type_events : WrittenType → List Event
type_events = fold-WrittenType (List Event) (List Event) argument_step type_step

-- conditions and values in the order of the text
abbrev pub woven : List (List Event) → List (List Event) → List (List Event)
woven [] values = values
woven (c ∷ cs) [] = c ∷ cs
woven (c ∷ cs) (v ∷ vs) = c ∷ v ∷ woven cs vs

abbrev pub expr_step : Expr-F (List Event) (List Event) (List Event) → List Event
expr_step (Expr-F.Number s number) = []
expr_step (Expr-F.Label s name) = used Labels name
expr_step (Expr-F.Name s name) = value_used name
expr_step (Expr-F.Call s name arguments) = used Functions name ++ joined arguments
expr_step (Expr-F.Group s inner) = inner
expr_step (Expr-F.Concat s parts) = joined parts
expr_step (Expr-F.Struct s name fields) = used Types name ++ joined fields
expr_step (Expr-F.Postfix s primary suffixes) = primary ++ joined suffixes
expr_step (Expr-F.Unary s operator operand) = operand
expr_step (Expr-F.Valid s payload) = payload
expr_step (Expr-F.Invalid s) = []
expr_step (Expr-F.Chain s level operators operands) = joined operands
expr_step (Expr-F.Choice s conditions values) = joined (woven conditions values)

abbrev pub suffix_step : Suffix-F (List Event) (List Event) (List Event) → List Event
suffix_step (Suffix-F.Member s name) = []
suffix_step (Suffix-F.Method s name arguments) = joined arguments
suffix_step (Suffix-F.Index s place) = place
suffix_step (Suffix-F.Slice s high low) = high ++ low

abbrev pub expr_events : Expr → List Event
expr_events = fold-Expr (List Event) (List Event) (List Event) expr_step suffix_step (λ f. f.value)

abbrev pub suffix_events : Suffix → List Event
suffix_events = fold-Suffix (List Event) (List Event) (List Event) expr_step suffix_step (λ f. f.value)

abbrev pub field_events : FieldValue → List Event
field_events = fold-FieldValue (List Event) (List Event) (List Event) expr_step suffix_step (λ f. f.value)

abbrev pub exprs_events : List Expr → List Event
exprs_events xs = joined (map expr_events xs)

abbrev pub fields_events : List FieldValue → List Event
fields_events xs = joined (map field_events xs)

abbrev pub suffixes_events : List Suffix → List Event
suffixes_events xs = joined (map suffix_events xs)

abbrev pub choice_events : List Expr → List Expr → List Event
choice_events conditions values = joined (woven (map expr_events conditions) (map expr_events values))
