-- What the definitions see of expressions, and of what comes before suffixes.
use Rattle.std.specs.Prelude.{ℕ, List, map}
use Rattle.std.specs.Borrow.{Bor}
use Rattle.bsv_ast.specs.declared.expressions.Expr.{Expr}
use Rattle.bsv_ast.specs.declared.expressions.FieldValue.{FieldValue, fold-FieldValue}
use Rattle.bsv_ast.specs.declared.expressions.Suffix.{Suffix, fold-Suffix}
use Rattle.bsv_types.specs.declared.types.Ty.{Ty}
use Rattle.bsv_types.specs.declared.expressions.Expr as typed_expression
use Rattle.bsv_types.specs.Kinds.{Kind, kind}
use Rattle.bsv_scopes.specs.declared.scopes.Scopes.{Scopes}
use Rattle.bsv_context.specs.declared.context.Context.{Context}
use Rattle.bsv_context.specs.declared.context.Variable.{Variable}
use Rattle.bsv_typing.specs.declared.front.Instance as code_instance
use Rattle.bsv_typing.specs.declared.front.Front as code_front
use Rattle.bsv_typing.specs.declared.front.Front.TheVariants as front
use Rattle.bsv_typing.specs.Operands.{Operand}
use Rattle.bsv_typing.specs.Places.{Front, whole, instance, array, Instance}
use Rattle.bsv_typing.specs.Typing.{Term, Suffixed, step, suffix_step, field_step, term, operands}
use Rattle.bsv_context.specs.Seen.{made, env}

-- expressions, and expressions with their type, as they are
abbrev pub exprs : List typed_expression.Expr → List typed_expression.Expr
exprs xs = xs

abbrev pub agreed : Ty × List typed_expression.Expr → Kind × List typed_expression.Expr
agreed r = (kind r.0, r.1)

abbrev pub instance_of : code_instance.Instance → Instance
instance_of i = record { level = i.level; index = i.index; kind = kind i.ty }

abbrev pub front_of : code_front.Front → Front
front_of (front.Whole m) = whole (made m)
front_of (front.Instance i) = instance (instance_of i)
front_of (front.Array level t) = array level (kind t)

-- a field by its number, with its type
abbrev pub field_of : ℕ × Bor Ty → ℕ × Kind
field_of f = (f.0, kind f.1.now)

-- what the forms see of expressions
abbrev pub seen : Context → Scopes Variable → Expr → Operand
seen c v e = (term (env c v) e).operand

abbrev pub terms_seen : Context → Scopes Variable → List Expr → List Term
terms_seen c v es = map (term (env c v)) es

abbrev pub all_seen : Context → Scopes Variable → List Expr → List Operand
all_seen c v es = operands (terms_seen c v es)

-- of the values of fields
abbrev pub field_seen : Context → Scopes Variable → FieldValue → List ℕ × Operand
field_seen c v = fold-FieldValue Term Suffixed (List ℕ × Operand) (step (env c v)) (suffix_step (env c v)) field_step

abbrev pub fields_seen : Context → Scopes Variable → List FieldValue → List (List ℕ × Operand)
fields_seen c v fs = map (field_seen c v) fs

-- and of suffixes
abbrev pub suffix_seen : Context → Scopes Variable → Suffix → Suffixed
suffix_seen c v = fold-Suffix Term Suffixed (List ℕ × Operand) (step (env c v)) (suffix_step (env c v)) field_step

abbrev pub suffixes_seen : Context → Scopes Variable → List Suffix → List Suffixed
suffixes_seen c v xs = map (suffix_seen c v) xs
