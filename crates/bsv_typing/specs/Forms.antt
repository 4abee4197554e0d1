-- The table of forms: one case for each line, with an expected type or without one (Bluespec reference guide,
-- "Expressions", and "Bit, UInt and Int").
use Rattle.std.specs.Prelude.{ℕ, ◌+◌, ◌==◌, Bool, true, false, List, [], ◌∷◌, ◌++◌, map, length, slice_get, Option, Some, None, if◌then◌else◌}
use Rattle.std.specs.List.{list_any}
use Rattle.std.specs.Str.{bytes_eq}
use Rattle.bsv_types.specs.declared.operators.Op.{Op}
use Rattle.bsv_types.specs.declared.operators.Op.TheVariants as op
use Rattle.bsv_types.specs.declared.expressions.Expr.{Expr}
use Rattle.bsv_types.specs.declared.definitions.Field.{Field}
use Rattle.bsv_types.specs.declared.definitions.Struct.{Struct}
use Rattle.bsv_types.specs.Kinds.{Kind, bit, uint, int, bool, struct, maybe, integer, kind, has_family, is_number, is_amount, no_wider}
use Rattle.bsv_types.specs.Operators.{◌>>=◌}
use Rattle.bsv_context.specs.Env.{TypedExpr, wanted, Limits, beside, packed, literal, applied, called, chosen, fits, fits_negated}
use Rattle.bsv_typing.specs.Operands.{Check, Operand, Agreed, agree, agree_with_result, all_as}

abbrev pub if_true : {A : Type 0} → Bool → A → Option A
if_true true x = Some x
if_true false x = None

-- an unsized literal
unfoldable pub number_case : Limits → ℕ → Check
number_case g number None = if_true (fits g number integer) (literal integer number)
number_case g number (Some k) = if_true (fits g number k) (literal k number)

-- a sized literal: a Bit of its size, or the expected UInt or Int with these bits
unfoldable pub sized_case : ℕ → ℕ → Check
sized_case size number (Some (uint n)) = if_true (size == n) (literal (uint n) number)
sized_case size number (Some (int n)) = if_true (size == n) (literal (int n) number)
sized_case size number want = wanted want (literal (bit size) number)

-- `!`, `&&`, `||`: all are Bool
unfoldable pub truth_case : List Op → List Operand → Check
truth_case os xs want = all_as bool xs >>= λ ms. wanted want (applied bool os ms)

abbrev pub if_kind : (Kind → Bool) → Agreed → (Kind → List Expr → Option TypedExpr) → Option TypedExpr
if_kind test None f = None
if_kind test (Some r) f = if test r.0 then f r.0 r.1 else None

-- `+`, `-`, `*` and a `-` in front: numbers of one type
unfoldable pub number_op_case : List Op → List Operand → Check
number_op_case os xs want = if_kind is_number (agree_with_result xs want) (λ k ms. Some (applied k os ms))

-- `&`, `^`, `|`, `~`: the same without Integer
unfoldable pub bits_op_case : List Op → List Operand → Check
bits_op_case os xs want = if_kind has_family (agree_with_result xs want) (λ k ms. Some (applied k os ms))

-- `-` in front of an unsized literal
unfoldable pub negated_case : Limits → ℕ → Check
negated_case g number want = by want where
  negated : Kind → Option TypedExpr
  negated k = if_true (fits_negated g number k) (applied k (op.Negate ∷ []) ((literal k number).expr ∷ []))

  by : Check
  by None = negated integer
  by (Some k) = negated k

-- how far: of Bit, UInt or Integer, where it is open Integer
unfoldable pub amount : Operand → Option Expr
amount x = (if x.is_open then x.check (Some integer) else x.check None) >>= λ m. if_true (is_amount m.kind) m.expr

unfoldable pub amounts : List Operand → Option (List Expr)
amounts [] = Some []
amounts (x ∷ xs) = amount x >>= λ m. amounts xs >>= λ ms. Some (m ∷ ms)

-- `<<` and `>>`: the left one has the type of the result
unfoldable pub shift_case : List Op → List Operand → Check
shift_case os [] want = None
shift_case os (x ∷ xs) want = x.check want >>= λ m. amounts xs >>= λ ms. if_true (has_family m.kind) (applied m.kind os (m.expr ∷ ms))

-- `<`, `<=`, `>`, `>=`: two numbers of one type; a Bool is no number, so there is no third
unfoldable pub order_case : List Op → List Operand → Check
order_case os (x ∷ y ∷ []) want = if_kind is_number (agree (x ∷ y ∷ [])) (λ k ms. wanted want (applied bool os ms))
order_case os _ want = None

-- `==`, `!=`: two of one type, and each further one is a Bool
unfoldable pub equality_case : List Op → List Operand → Check
equality_case os (x ∷ y ∷ zs) want = agree (x ∷ y ∷ []) >>= λ r. all_as bool zs >>= λ ms. wanted want (applied bool os (r.1 ++ ms))
equality_case os _ want = None

-- `? :`: the conditions are Bool, the values of one type
unfoldable pub choice_case : List Operand → List Operand → Check
choice_case cs xs want = all_as bool cs >>= λ ms. agree_with_result xs want >>= λ r. Some (chosen r.0 ms r.1)

-- parts of Bit types, side by side, after one of this type
unfoldable pub joined : Kind → List Operand → Option (Kind × List Expr)
joined k [] = Some (k, [])
joined k (x ∷ xs) = x.check None >>= λ m. beside k m.kind >>= λ j. joined j xs >>= λ r. Some (r.0, m.expr ∷ r.1)

unfoldable pub concat_case : List Operand → Check
concat_case xs want = joined (bit 0) xs >>= λ r. wanted want (applied r.0 (op.Concat ∷ []) r.1)

-- `truncate`, `zeroExtend`, `signExtend`: from one width to the expected one of the same family
abbrev pub no_narrower : Kind → Kind → Bool
no_narrower j k = no_wider k j

unfoldable pub resized_case : Op → (Kind → Kind → Bool) → Operand → Check
resized_case o p x None = None
resized_case o p x (Some k) = x.check None >>= λ m. if_true (p m.kind k) (applied k (o ∷ []) (m.expr ∷ []))

unfoldable pub pack_case : Limits → Operand → Check
pack_case g x want = x.check None >>= λ m. packed g m.kind >>= λ k. wanted want (applied k (op.Pack ∷ []) (m.expr ∷ []))

unfoldable pub unpack_case : Limits → Operand → Check
unpack_case g x None = None
unpack_case g x (Some k) = packed g k >>= λ j. x.check (Some j) >>= λ m. Some (applied k (op.Unpack ∷ []) (m.expr ∷ []))

unfoldable pub from_integer_case : Operand → Check
from_integer_case x None = None
from_integer_case x (Some k) = if has_family k then (x.check (Some integer) >>= λ m. Some (applied k (op.FromInteger ∷ []) (m.expr ∷ []))) else None

-- `tagged Valid e`
unfoldable pub valid_case : Limits → Operand → Check
valid_case g x (Some (maybe k)) = x.check (Some k) >>= λ m. Some (applied (maybe k) (op.Valid ∷ []) (m.expr ∷ []))
valid_case g x (Some k) = None
valid_case g x None = x.check None >>= λ m. packed g m.kind >>= λ k. Some (applied (maybe m.kind) (op.Valid ∷ []) (m.expr ∷ []))

-- `tagged Invalid`
unfoldable pub invalid_case : Check
invalid_case (Some (maybe k)) = Some (applied (maybe k) (op.Invalid ∷ []) [])
invalid_case _ = None

abbrev pub payload : Kind → Option Kind
payload (maybe k) = Some k
payload _ = None

unfoldable pub is_valid_case : Operand → Check
is_valid_case x want = x.check None >>= λ m. payload m.kind >>= λ k. wanted want (applied bool (op.IsValid ∷ []) (m.expr ∷ []))

unfoldable pub valid_value_case : Operand → Check
valid_value_case x want = x.check None >>= λ m. payload m.kind >>= λ k. wanted want (applied k (op.ValidValue ∷ []) (m.expr ∷ []))

-- the Maybe decides the type of the default
unfoldable pub from_maybe_case : Operand → Operand → Check
from_maybe_case d x want = x.check None >>= λ m. payload m.kind >>= λ k. d.check (Some k) >>= λ e. wanted want (applied k (op.FromMaybe ∷ []) (e.expr ∷ m.expr ∷ []))

-- arguments of these types, and no others
unfoldable pub arguments : List Kind → List Operand → Option (List Expr)
arguments [] [] = Some []
arguments (k ∷ ks) (x ∷ xs) = x.check (Some k) >>= λ m. arguments ks xs >>= λ ms. Some (m.expr ∷ ms)
arguments _ _ = None

-- a call of a function of the program
unfoldable pub function_case : Option (ℕ × List Kind × Kind) → List Operand → Check
function_case function xs want = function >>= λ f. arguments f.1 xs >>= λ ms. wanted want (called f.2 f.0 ms)

-- the field of this name, by its number
abbrev pub field_from : ℕ → List ℕ → List Field → Option (ℕ × Kind)
field_from number name [] = None
field_from number name (f ∷ fs) = if bytes_eq name f.name then Some (number, kind f.ty) else field_from (number + 1) name fs

unfoldable pub field_named : Limits → Kind → List ℕ → Option (ℕ × Kind)
field_named g (struct k) name = slice_get g.shapes.structs k >>= λ s. field_from 0 name s.fields
field_named g _ name = None

abbrev pub is_among : ℕ → List ℕ → Bool
is_among n ns = list_any (λ m. n == m) ns

-- values of fields that are not given before, each with the number of its field
unfoldable pub field_values : Limits → Kind → List ℕ → List (List ℕ × Operand) → Option (List ℕ × List Expr)
field_values g k given [] = Some (given, [])
field_values g k given (x ∷ xs) =
    field_named g k x.0 >>= λ f. if is_among f.0 given then None else (x.1.check (Some f.1) >>= λ m. field_values g k (given ++ f.0 ∷ []) xs >>= λ r. Some (r.0, m.expr ∷ r.1))

unfoldable pub field_count : Limits → ℕ → ℕ
field_count g k = count (slice_get g.shapes.structs k) where
  count : Option Struct → ℕ
  count None = 0
  count (Some s) = length s.fields

-- `S { f: e, .. }`: every field once, in any order
unfoldable pub construct_case : Limits → Option ℕ → List (List ℕ × Operand) → Check
construct_case g structure given want =
    structure >>= λ k. field_values g (struct k) [] given >>= λ r. if length given == field_count g k then wanted want (applied (struct k) (map op.Set r.0) r.1) else None
