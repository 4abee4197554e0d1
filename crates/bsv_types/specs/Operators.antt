-- The table of operators: of which types the operands are, and of which type the result is (Bluespec
-- reference guide, "Expressions", and "Bit, UInt and Int").
use Rattle.std.specs.Prelude.{ℕ, ◌+◌, ◌-◌, ◌==◌, nat_le, nat_lt, Bool, true, false, ◌&&◌, not, List, [], ◌∷◌, length, slice_get, Option, Some, None}
use Rattle.std.specs.List.{list_any}
use Rattle.bsv_types.specs.declared.operators.Op.{Op}
use Rattle.bsv_types.specs.declared.operators.Op.TheVariants as op
use Rattle.bsv_types.specs.Kinds.{Kind, bit, bool, struct, maybe, integer, kind, same_kind, is_bit, has_family, is_number, is_amount, no_wider}
use Rattle.bsv_types.specs.Shapes.{Shapes, width_by, widths_by, is_width, has_bits, is_value}

infixl 10 ◌>>=◌
abbrev pub ◌>>=◌ : {A B : Type 0} → Option A → (A → Option B) → Option B
None >>= f = None
(Some x) >>= f = f x

-- the type, where the test is passed
abbrev pub when : Bool → Kind → Option Kind
when true k = Some k
when false k = None

abbrev pub is_kind : Option Kind → Kind → Bool
is_kind None k = false
is_kind (Some j) k = same_kind j k

abbrev pub same_kinds : List Kind → List Kind → Bool
same_kinds [] [] = true
same_kinds (j ∷ js) (k ∷ ks) = same_kind j k && same_kinds js ks
same_kinds _ _ = false

abbrev pub is_maybe : Kind → Bool
is_maybe (maybe k) = true
is_maybe _ = false

abbrev pub all_bit : List Kind → Bool
all_bit [] = true
all_bit (k ∷ ks) = is_bit k && all_bit ks

-- what an operator between two operands gives
abbrev pub between : Shapes → Op → Kind → Kind → Option Kind
between s op.Mul j k = when (same_kind j k && is_number j) j
between s op.Add j k = when (same_kind j k && is_number j) j
between s op.Sub j k = when (same_kind j k && is_number j) j
between s op.Shl j k = when (has_family j && is_amount k) j
between s op.Shr j k = when (has_family j && is_amount k) j
between s op.Less j k = when (same_kind j k && is_number j) bool
between s op.LessOrSame j k = when (same_kind j k && is_number j) bool
between s op.Greater j k = when (same_kind j k && is_number j) bool
between s op.GreaterOrSame j k = when (same_kind j k && is_number j) bool
between s op.Same j k = when (same_kind j k && is_value s j) bool
between s op.Different j k = when (same_kind j k && is_value s j) bool
between s op.And j k = when (same_kind j k && has_family j) j
between s op.Xor j k = when (same_kind j k && has_family j) j
between s op.Or j k = when (same_kind j k && has_family j) j
between s op.Both j k = when (same_kind j bool && same_kind k bool) bool
between s op.Either j k = when (same_kind j bool && same_kind k bool) bool
between s op.FromMaybe j k = when (same_kind k (maybe j)) j
between s _ j k = None

-- what operators of one level give, from the left
abbrev pub chained : Shapes → Kind → List Op → List Kind → Option Kind
chained s k [] [] = Some k
chained s k (o ∷ os) (j ∷ js) = between s o k j >>= λ r. chained s r os js
chained s k _ _ = None

-- the Bit of a type's width
abbrev pub is_packed : Shapes → Kind → Kind → Bool
is_packed s k (bit n) = is_width (width_by s.enums s.structs k) n
is_packed s k _ = false

abbrev pub field_kind : Shapes → Kind → ℕ → Option Kind
field_kind s (struct k) f = slice_get s.structs k >>= λ t. slice_get t.fields f >>= λ d. Some (kind d.ty)
field_kind s _ f = None

-- a bit of a Bit
abbrev pub bit_kind : Kind → Kind → Option Kind
bit_kind k j = when (is_bit k && same_kind j integer) (bit 1)

-- the bits from l to h of a Bit
abbrev pub slice_kind : ℕ → ℕ → Kind → Option Kind
slice_kind h l (bit n) = when (nat_le l h && nat_lt h n) (bit (h - l + 1))
slice_kind h l _ = None

-- an operator that comes after its operand: `[i]`, `[h:l]` or `.f`
abbrev pub is_suffix : Op → Bool
is_suffix op.Index = true
is_suffix (op.Slice h l) = true
is_suffix (op.Field f) = true
is_suffix _ = false

-- what suffixes give, from the left; each index takes one operand more
abbrev pub suffixed : Shapes → Kind → List Op → List Kind → Option Kind
suffixed s k [] [] = Some k
suffixed s k (op.Index ∷ os) (j ∷ js) = bit_kind k j >>= λ r. suffixed s r os js
suffixed s k (op.Slice h l ∷ os) js = slice_kind h l k >>= λ r. suffixed s r os js
suffixed s k (op.Field f ∷ os) js = field_kind s k f >>= λ r. suffixed s r os js
suffixed s k _ _ = None

-- the operator gives `t` from one operand
abbrev pub from_one : Shapes → Op → Kind → Kind → Bool
from_one s op.Negate k t = same_kind k t && is_number t
from_one s op.Complement k t = same_kind k t && has_family t
from_one s op.Not k t = same_kind k bool && same_kind t bool
from_one s op.Truncate k t = no_wider t k
from_one s op.ZeroExtend k t = no_wider k t
from_one s op.SignExtend k t = no_wider k t
from_one s op.Pack k t = has_bits s k && is_packed s k t
from_one s op.Unpack k t = has_bits s t && is_packed s t k
from_one s op.FromInteger k t = same_kind k integer && has_family t
from_one s op.Valid k t = same_kind (maybe k) t
from_one s op.IsValid k t = is_maybe k && same_kind t bool
from_one s op.ValidValue k t = same_kind k (maybe t)
from_one s _ k t = false

-- the operands are values of these fields of the struct
abbrev pub are_fields : Shapes → Kind → List Op → List Kind → Bool
are_fields s t [] [] = true
are_fields s t (op.Set f ∷ os) (k ∷ ks) = is_kind (field_kind s t f) k && are_fields s t os ks
are_fields s t _ _ = false

abbrev pub is_set : ℕ → Op → Bool
is_set f (op.Set g) = f == g
is_set f _ = false

-- no field is set twice
abbrev pub sets_once : List Op → Bool
sets_once [] = true
sets_once (op.Set f ∷ os) = not (list_any (is_set f) os) && sets_once os
sets_once (_ ∷ os) = false

abbrev pub field_count : Shapes → Kind → Option ℕ
field_count s (struct k) = slice_get s.structs k >>= λ t. Some (length t.fields)
field_count s _ = None

-- every field once, in any order
abbrev pub constructs : Shapes → Kind → List Op → List Kind → Bool
constructs s t os ks = are_fields s t os ks && sets_once os && is_width (field_count s t) (length os)

-- the bits of the parts together
abbrev pub concats : Shapes → List Kind → Kind → Bool
concats s ks (bit n) = all_bit ks && is_width (widths_by s.enums s.structs ks) n
concats s ks _ = false

-- the operators give `t` from operands of these types
abbrev pub gives : Shapes → List Op → List Kind → Kind → Bool
gives s [] ks t = false
gives s (op.Concat ∷ []) (k ∷ ks) t = concats s (k ∷ ks) t
gives s (op.Invalid ∷ []) [] t = is_maybe t
gives s (op.Set f ∷ os) ks t = constructs s t (op.Set f ∷ os) ks
gives s (op.Index ∷ os) (k ∷ ks) t = is_kind (suffixed s k (op.Index ∷ os) ks) t
gives s (op.Slice h l ∷ os) (k ∷ ks) t = is_kind (suffixed s k (op.Slice h l ∷ os) ks) t
gives s (op.Field f ∷ os) (k ∷ ks) t = is_kind (suffixed s k (op.Field f ∷ os) ks) t
gives s (o ∷ []) (k ∷ []) t = from_one s o k t
gives s os (k ∷ ks) t = is_kind (chained s k os ks) t
gives s _ _ t = false
