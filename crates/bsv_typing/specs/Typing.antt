-- The typing of an expression: one line for each form.
use Rattle.std.specs.Prelude.{ℕ, ◌+◌, ◌^◌, ◌==◌, nat_lt, Bool, true, false, ◌&&◌, List, [], ◌∷◌, map, length, Option, Some, None, is_some, codes, if◌then◌else◌}
use Rattle.std.specs.List.{list_all}
use Rattle.std.specs.Str.{bytes_eq}
use Rattle.bsv_ast.specs.declared.text.Literal.{Literal}
use Rattle.bsv_ast.specs.declared.expressions.Expr.{Expr, fold-Expr}
use Rattle.bsv_ast.specs.declared.expressions.Expr.TheOpen.{Expr-F, Suffix-F, FieldValue-F}
use Rattle.bsv_ast.specs.declared.expressions.Level.{Level}
use Rattle.bsv_ast.specs.declared.expressions.Level.TheVariants as level
use Rattle.bsv_ast.specs.declared.expressions.Operator.{Operator}
use Rattle.bsv_ast.specs.declared.expressions.Operator.TheVariants as sign
use Rattle.bsv_ast.specs.declared.expressions.UnaryOperator.{UnaryOperator}
use Rattle.bsv_ast.specs.declared.expressions.UnaryOperator.TheVariants as unary
use Rattle.bsv_types.specs.declared.operators.Op.{Op}
use Rattle.bsv_types.specs.declared.operators.Op.TheVariants as op
use Rattle.bsv_types.specs.Kinds.{Kind, bool, enum, no_wider}
use Rattle.bsv_types.specs.Operators.{◌>>=◌}
use Rattle.bsv_types.specs.GivenFunctions.{given_function, has_open_type}
use Rattle.bsv_types.specs.declared.given.GivenFunction.{GivenFunction}
use Rattle.bsv_types.specs.declared.given.GivenFunction.TheVariants as given
use Rattle.bsv_context.specs.Env.{wanted, Env, Limits, literal, in_order}
use Rattle.bsv_typing.specs.Operands.{Check, Operand, closed, opened, check_if, only_if, are_open, are_literals}
use Rattle.bsv_typing.specs.Forms as forms
use Rattle.bsv_typing.specs.Places.{Front, whole, name_front, value_at, member_after, method_after, index_after, slice_after, Instance, the_instance}

-- an expression with what comes before a suffix: a name keeps its instance, unless it is in brackets
pub record Term : Type 0 where
  pub operand : Operand
  pub front : Option Front

-- a type that a form gives is in order
abbrev pub ordered : Limits → Check → Check
ordered g check want = check want >>= λ m. in_order g m

abbrev pub alone : Operand → Term
alone x = record { operand = x; front = x.check None >>= λ m. Some (whole m) }

abbrev pub form : Limits → Check → Operand
form g check = closed (ordered g check)

abbrev pub open_form : Limits → Check → Operand
open_form g check = opened (ordered g check)

-- open where its operands are, and made of literals where they are
abbrev pub form_of : Limits → List Operand → Check → Operand
form_of g xs check = record { is_open = are_open xs; literals = are_literals xs; literal = None; check = ordered g check }

abbrev pub operator : Operator → Op
operator sign.Mul = op.Mul
operator sign.Add = op.Add
operator sign.Sub = op.Sub
operator sign.Shl = op.Shl
operator sign.Shr = op.Shr
operator sign.Less = op.Less
operator sign.LessOrSame = op.LessOrSame
operator sign.Greater = op.Greater
operator sign.GreaterOrSame = op.GreaterOrSame
operator sign.Same = op.Same
operator sign.Different = op.Different
operator sign.And = op.And
operator sign.Xor = op.Xor
operator sign.Or = op.Or
operator sign.Both = op.Both
operator sign.Either = op.Either

abbrev pub is_of_level : Level → Operator → Bool
is_of_level level.Product sign.Mul = true
is_of_level level.Sum sign.Add = true
is_of_level level.Sum sign.Sub = true
is_of_level level.Shift sign.Shl = true
is_of_level level.Shift sign.Shr = true
is_of_level level.Order sign.Less = true
is_of_level level.Order sign.LessOrSame = true
is_of_level level.Order sign.Greater = true
is_of_level level.Order sign.GreaterOrSame = true
is_of_level level.Equality sign.Same = true
is_of_level level.Equality sign.Different = true
is_of_level level.And sign.And = true
is_of_level level.Xor sign.Xor = true
is_of_level level.Or sign.Or = true
is_of_level level.Both sign.Both = true
is_of_level level.Either sign.Either = true
is_of_level _ _ = false

-- two operands or more, and operators of the level between them: no text has other chains
unfoldable pub is_chain : Level → List Operator → ℕ → Bool
is_chain l signs count = list_all (is_of_level l) signs && nat_lt 1 count && count == length signs + 1

-- one value more than conditions: no text has other choices
unfoldable pub is_choice : ℕ → ℕ → Bool
is_choice conditions values = values == conditions + 1

unfoldable pub chain_operand : Limits → Level → List Op → List Operand → Operand
chain_operand g level.Product os xs = form_of g xs (forms.number_op_case os xs)
chain_operand g level.Sum os xs = form_of g xs (forms.number_op_case os xs)
chain_operand g level.Shift os xs = form g (forms.shift_case os xs)
chain_operand g level.Order os xs = form g (forms.order_case os xs)
chain_operand g level.Equality os xs = form g (forms.equality_case os xs)
chain_operand g level.And os xs = form_of g xs (forms.bits_op_case os xs)
chain_operand g level.Xor os xs = form_of g xs (forms.bits_op_case os xs)
chain_operand g level.Or os xs = form_of g xs (forms.bits_op_case os xs)
chain_operand g level.Both os xs = form g (forms.truth_case os xs)
chain_operand g level.Either os xs = form g (forms.truth_case os xs)

unfoldable pub choice_operand : Limits → List Operand → List Operand → Operand
choice_operand g cs xs = form_of g xs (forms.choice_case cs xs)

abbrev pub negation : Limits → Operand → Option ℕ → Check
negation g x (Some number) = forms.negated_case g number
negation g x None = forms.number_op_case (op.Negate ∷ []) (x ∷ [])

unfoldable pub unary_operand : Limits → UnaryOperator → Operand → Operand
unary_operand g unary.Not x = form g (forms.truth_case (op.Not ∷ []) (x ∷ []))
unary_operand g unary.Complement x = form_of g (x ∷ []) (forms.bits_op_case (op.Complement ∷ []) (x ∷ []))
unary_operand g unary.Negate x = form_of g (x ∷ []) (negation g x x.literal)

-- the number of an unsized literal
abbrev pub unsized : Literal → Option ℕ
unsized number = by number.size where
  by : Option ℕ → Option ℕ
  by None = Some number.value
  by (Some size) = None

unfoldable pub literal_case : Limits → Literal → Check
literal_case g number = by number.size where
  by : Option ℕ → Check
  by None = forms.number_case g number.value
  by (Some size) = check_if (nat_lt number.value (2 ^ size)) (forms.sized_case size number.value)

-- a literal with a size is no open one
abbrev pub number_operand : Limits → Literal → Operand
number_operand g number = record {
  is_open = is_some (unsized number);
  literals = is_some (unsized number);
  literal = unsized number;
  check = ordered g (literal_case g number);
}

unfoldable pub label_case : Option (ℕ × ℕ) → List ℕ → Check
label_case label name want =
    if bytes_eq name (codes "True") then wanted want (literal bool 1)
    else if bytes_eq name (codes "False") then wanted want (literal bool 0)
    else (label >>= λ l. wanted want (literal (enum l.0) l.1))

abbrev pub no_case : Check
no_case want = None

-- the functions that the language gives take one argument, or two
unfoldable pub one_case : Limits → GivenFunction → Operand → Check
one_case g given.Truncate x = forms.resized_case op.Truncate forms.no_narrower x
one_case g given.ZeroExtend x = forms.resized_case op.ZeroExtend no_wider x
one_case g given.SignExtend x = forms.resized_case op.SignExtend no_wider x
one_case g given.Unpack x = forms.unpack_case g x
one_case g given.FromInteger x = forms.from_integer_case x
one_case g given.Pack x = forms.pack_case g x
one_case g given.IsValid x = forms.is_valid_case x
one_case g given.ValidValue x = forms.valid_value_case x
one_case g given.FromMaybe x = no_case

unfoldable pub two_case : GivenFunction → Operand → Operand → Check
two_case given.FromMaybe d x = forms.from_maybe_case d x
two_case _ d x = no_case

unfoldable pub given_case : Limits → GivenFunction → List Operand → Check
given_case g f (x ∷ []) = one_case g f x
given_case g f (x ∷ y ∷ []) = two_case f x y
given_case g f _ = no_case

-- whether a call of the function has no type of its own
abbrev pub is_open_call : List ℕ → Bool
is_open_call name = by (given_function name) where
  by : Option GivenFunction → Bool
  by None = false
  by (Some f) = has_open_type f

unfoldable pub call_case : Limits → Option (ℕ × List Kind × Kind) → List ℕ → List Operand → Check
call_case g function name xs = by (given_function name) where
  by : Option GivenFunction → Check
  by None = forms.function_case function xs
  by (Some f) = given_case g f xs

abbrev pub call_operand : Limits → Option (ℕ × List Kind × Kind) → List ℕ → List Operand → Operand
call_operand g function name xs = record { is_open = is_open_call name; literals = false; literal = None; check = ordered g (call_case g function name xs) }

-- a suffix, after what comes before it
abbrev pub Suffixed : Type 0
Suffixed = Front → Option Front

abbrev pub ordered_front : Limits → Option Front → Option Front
ordered_front g None = None
ordered_front g (Some (whole m)) = in_order g m >>= λ x. Some (whole x)
ordered_front g (Some f) = Some f

abbrev pub suffix_step : Env → Suffix-F Term Suffixed (List ℕ × Operand) → Suffixed
suffix_step env (Suffix-F.Member s name) f = ordered_front env.limits (member_after env.limits name.name f)
suffix_step env (Suffix-F.Method s name xs) f = ordered_front env.limits (method_after env.limits name.name (map (λ x. x.operand) xs) f)
suffix_step env (Suffix-F.Index s x) f = ordered_front env.limits (index_after env.limits x.operand f)
suffix_step env (Suffix-F.Slice s x y) f = ordered_front env.limits (slice_after env.limits x.operand.literal y.operand.literal f)

abbrev pub all_after : List Suffixed → Front → Option Front
all_after [] f = Some f
all_after (x ∷ xs) f = x f >>= all_after xs

abbrev pub postfix_front : Term → List Suffixed → Option Front
postfix_front t xs = t.front >>= all_after xs

abbrev pub front_case : Limits → Option Front → Check
front_case g f want = f >>= λ x. value_at g x >>= wanted want

-- what comes after names and suffixes
abbrev pub front_term : Limits → Option Front → Term
front_term g f = record { operand = closed (ordered g (front_case g f)); front = f }

-- the instance that an expression names; in brackets none stands
abbrev pub instance_named : Term → Option Instance
instance_named t = t.front >>= the_instance

abbrev pub operands : List Term → List Operand
operands ts = map (λ t. t.operand) ts

abbrev pub step : Env → Expr-F Term Suffixed (List ℕ × Operand) → Term
step env (Expr-F.Number s number) = alone (number_operand env.limits number)
step env (Expr-F.Label s name) = alone (form env.limits (label_case (env.label name.name) name.name))
step env (Expr-F.Name s name) = front_term env.limits (name_front (env.variable name.name) (env.function name.name))
step env (Expr-F.Call s name xs) = alone (call_operand env.limits (env.function name.name) name.name (operands xs))
step env (Expr-F.Group s x) = alone x.operand
step env (Expr-F.Concat s xs) = alone (form env.limits (forms.concat_case (operands xs)))
step env (Expr-F.Struct s name given) = alone (form env.limits (forms.construct_case env.limits (env.structure name.name) given))
step env (Expr-F.Postfix s x suffixes) = front_term env.limits (postfix_front x suffixes)
step env (Expr-F.Unary s o x) = alone (unary_operand env.limits o x.operand)
step env (Expr-F.Valid s x) = alone (form env.limits (forms.valid_case env.limits x.operand))
step env (Expr-F.Invalid s) = alone (open_form env.limits forms.invalid_case)
step env (Expr-F.Chain s l signs xs) = alone (only_if (is_chain l signs (length xs)) (chain_operand env.limits l (map operator signs) (operands xs)))
step env (Expr-F.Choice s cs xs) = alone (only_if (is_choice (length cs) (length xs)) (choice_operand env.limits (operands cs) (operands xs)))

abbrev pub field_step : FieldValue-F Term Suffixed (List ℕ × Operand) → List ℕ × Operand
field_step f = (f.field.name, f.value.operand)

abbrev pub term : Env → Expr → Term
term env = fold-Expr Term Suffixed (List ℕ × Operand) (step env) (suffix_step env) field_step

-- an expression with an expected type, or without one
abbrev pub typed : Env → Expr → Check
typed env e = (term env e).operand.check
