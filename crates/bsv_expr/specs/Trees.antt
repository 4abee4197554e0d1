-- Nodes of the syntax tree, from the parts that a production has.
use Rattle.std.specs.Prelude.{List, [], ◌∷◌, ◌++◌, length, ◌-◌, slice_get, Option, Some, None}
use Rattle.bsv_ast.specs.declared.text.Span.{Span}
use Rattle.bsv_ast.specs.declared.text.Ident.{Ident}
use Rattle.bsv_ast.specs.declared.expressions.Expr.{Expr}
use Rattle.bsv_ast.specs.declared.expressions.Expr.TheVariants as node
use Rattle.bsv_ast.specs.declared.expressions.Suffix.{Suffix}
use Rattle.bsv_ast.specs.declared.expressions.Suffix.TheVariants as suffix
use Rattle.bsv_ast.specs.declared.expressions.FieldValue.{FieldValue, roll-FieldValue}
use Rattle.bsv_ast.specs.declared.expressions.UnaryOperator.{UnaryOperator}
use Rattle.bsv_ast.specs.declared.expressions.Operator.{Operator}
use Rattle.bsv_ast.specs.declared.expressions.Level.{Level}
use Rattle.bsv_ast.specs.Spans.{expr_span, suffix_span}
use Rattle.bsv_expr.specs.declared.reader.Operands.{Operands}
use Rattle.bsv_expr.specs.Reading.{on_some}

-- from the start of one place to the end of another
abbrev pub to : Span → Span → Span
to a b = record { start = a.start; end = b.end }

-- the last of a list
abbrev pub last : {A : Type 0} → List A → Option A
last xs = slice_get xs (length xs - 1)

abbrev pub name_or_call : Ident → Option (List Expr × Span) → Expr
name_or_call name None = node.Name name.span name
name_or_call name (Some found) = node.Call (to name.span found.1) name found.0

abbrev pub label_or_struct : Ident → Option (List FieldValue × Span) → Expr
label_or_struct name None = node.Label name.span name
label_or_struct name (Some found) = node.Struct (to name.span found.1) name found.0

abbrev pub field_value : Ident → Expr → FieldValue
field_value name value = roll-FieldValue (record { span = to name.span (expr_span value); field = name; value = value })

abbrev pub member_or_method : Span → Ident × Option (List Expr × Span) → Suffix
member_or_method dot (name, None) = suffix.Member (to dot name.span) name
member_or_method dot (name, Some found) = suffix.Method (to dot found.1) name found.0

abbrev pub index_or_slice : Span → Expr × Option Expr → Span → Suffix
index_or_slice o (x, None) c = suffix.Index (to o c) x
index_or_slice o (x, Some y) c = suffix.Slice (to o c) x y

-- a primary alone, or with what comes after it
abbrev pub postfix_of : Expr → List Suffix → Expr
postfix_of x found = on_some (last found) x (λ s. node.Postfix (to (expr_span x) (suffix_span s)) x found)

abbrev pub unary_of : Span × UnaryOperator → Expr → Expr
unary_of operator x = node.Unary (to operator.0 (expr_span x)) operator.1 x

-- the first operand alone
abbrev pub operand_alone : Expr → Operands
operand_alone x = record { first = x; operators = []; others = [] }

abbrev pub with_operand : Operands → Operator × Expr → Operands
with_operand found next = record { first = found.first; operators = found.operators ++ next.0 ∷ []; others = found.others ++ next.1 ∷ [] }

-- one operand alone, or a chain
abbrev pub chain_of : Level → Operands → Expr
chain_of level found = on_some (last found.others) found.first (λ x. node.Chain (to (expr_span found.first) (expr_span x)) level found.operators (found.first ∷ found.others))

-- the conditions and the values so far, and what comes after the last `:`
abbrev pub Arms : Type 0
Arms = List Expr × List Expr × Expr

abbrev pub with_arm : Arms → Expr × Expr → Arms
with_arm found next = (found.0 ++ found.2 ∷ [], found.1 ++ next.0 ∷ [], next.1)

-- one operand alone, or a choice
abbrev pub choice_of : Arms → Expr
choice_of found = on_some (slice_get found.0 0) found.2 (λ x. node.Choice (to (expr_span x) (expr_span found.2)) found.0 (found.1 ++ found.2 ∷ []))
