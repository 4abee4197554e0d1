-- What each operator gives: one line for each (Bluespec reference guide, "Expressions", and "Bit, UInt and Int").
use Rattle.std.specs.Prelude.{ℕ, ◌+◌, ◌-◌, ◌==◌, Bool, true, false, pos, List, [], ◌∷◌, drop, slice_get, Option, Some, None, if◌then◌else◌}
use Rattle.bsv_bits.specs.Words.{word_not}
use Rattle.bsv_bits.specs.declared.operator.Operator.{Operator}
use Rattle.bsv_bits.specs.declared.operator.Operator.TheVariants as operator
use Rattle.bsv_types.specs.declared.operators.Op.{Op}
use Rattle.bsv_types.specs.declared.operators.Op.TheVariants as op
use Rattle.bsv_types.specs.declared.definitions.Field.{Field}
use Rattle.bsv_types.specs.declared.definitions.Struct.{Struct}
use Rattle.bsv_types.specs.Kinds.{Kind, int, struct, kind}
use Rattle.bsv_types.specs.Shapes.{Shapes, counted, widths_by}
use Rattle.bsv_types.specs.Widths.{field_kinds}
use Rattle.bsv_tree.specs.declared.values.Constant.{Constant}
use Rattle.bsv_tree.specs.declared.values.Constant.TheVariants as constant
use Rattle.bsv_design.specs.design.Computing as computing
use Rattle.bsv_tree.specs.meaning.Integers.{number_between, fitted}
use Rattle.bsv_tree.specs.tree.Widths.{or_width, width}
use Rattle.bsv_tree.specs.meaning.Values.{Value, static, nothing, one, two, three}

-- comparisons and shifts to the right go by the sign of an Int
abbrev pub less : Kind → Operator
less (int n) = operator.LessSigned
less _ = operator.Less

abbrev pub right : Kind → Operator
right (int n) = operator.Sar
right _ = operator.Shr

abbrev pub bits : ℕ → ℕ → Value
bits width number = static (constant.Bits (computing.word width number))

abbrev pub if_fits : Option Constant → Value
if_fits None = nothing
if_fits (Some c) = static c

abbrev pub between : Operator → Value → Value → Value
between o = two (computing.between o)

abbrev pub inverted : Value → Value
inverted = one word_not

abbrev pub sliced : Value → ℕ → ℕ → Value
sliced x high low = one (λ w. computing.sliced w high low) x

-- the amount of a shift is a word, or an Integer of at least 0
abbrev pub shifted : Operator → Value → Value → Value
shifted o x (static (constant.Number (pos n))) = between o x (bits 64 n)
shifted o x y = between o x y

abbrev pub fields_of : Option Struct → List Field
fields_of None = []
fields_of (Some t) = t.fields

-- parts side by side, the first one most significant
abbrev pub together : Value → List Value → Value
together x [] = x
together x (y ∷ ys) = together (two computing.joined x y) ys

-- the operator sets the field of this number; operators build a struct; an operator is a suffix
abbrev pub sets : ℕ → Op → Bool
sets number (op.Set n) = n == number
sets number _ = false

abbrev pub builds : List Op → Bool
builds (op.Set n ∷ os) = true
builds _ = false

abbrev pub is_suffix : Op → Bool
is_suffix op.Index = true
is_suffix (op.Slice high low) = true
is_suffix (op.Field number) = true
is_suffix _ = false

module _ (s : Shapes) where
  -- ---- two operands, of which the first has this type

  abbrev pub of_words : Op → Kind → Value → Value → Value
  of_words op.Mul k x y = between operator.Mul x y
  of_words op.Add k x y = between operator.Add x y
  of_words op.Sub k x y = between operator.Sub x y
  of_words op.Shl k x y = shifted operator.Shl x y
  of_words op.Shr k x y = shifted (right k) x y
  of_words op.Less k x y = between (less k) x y
  of_words op.Greater k x y = between (less k) y x
  of_words op.LessOrSame k x y = inverted (between (less k) y x)
  of_words op.GreaterOrSame k x y = inverted (between (less k) x y)
  of_words op.Same k x y = between operator.Same x y
  of_words op.Different k x y = inverted (between operator.Same x y)
  of_words op.And k x y = between operator.And x y
  of_words op.Both k x y = between operator.And x y
  of_words op.Xor k x y = between operator.Xor x y
  of_words op.Or k x y = between operator.Or x y
  of_words op.Either k x y = between operator.Or x y
  -- `fromMaybe(x, y)`: the payload where the tag is 1
  of_words _ k x y = three computing.picked (sliced y (width s k) (width s k)) (sliced y (width s k - 1) 0) x

  abbrev pub of_two : Op → Kind → Value → Value → Value
  of_two o k (static (constant.Number m)) (static (constant.Number n)) = if_fits (number_between o m n)
  of_two o k x y = of_words o k x y

  -- operators of one level, from the left
  unfoldable pub chained : List Op → Kind → Value → List Value → Value
  chained (o ∷ os) k x (y ∷ ys) = chained os k (of_two o k x y) ys
  chained _ k x ys = x

  -- ---- one operand of the second type, and the type of the result

  abbrev pub of_one : Op → Kind → Kind → Value → Value
  of_one op.Negate t k (static (constant.Number n)) = if_fits (number_between op.Sub (pos 0) n)
  of_one op.Negate t k x = between operator.Sub (bits (width s t) 0) x
  of_one op.Complement t k x = inverted x
  of_one op.Not t k x = inverted x
  of_one op.Truncate t k x = sliced x (width s t - 1) 0
  of_one op.ZeroExtend t k x = one (λ w. computing.extended w (width s t)) x
  of_one op.SignExtend t k x = one (λ w. computing.sign_extended w (width s t)) x
  of_one op.FromInteger t k (static (constant.Number n)) = if_fits (fitted t (width s t) n)
  of_one op.FromInteger t k x = nothing
  of_one op.Valid t k x = two computing.joined (bits 1 1) x
  of_one op.IsValid t k x = sliced x (width s k - 1) (width s k - 1)
  of_one op.ValidValue t k x = sliced x (width s t - 1) 0
  of_one _ t k x = x

  -- ---- structs

  abbrev pub fields : Kind → List Field
  fields (struct n) = fields_of (slice_get s.structs n)
  fields _ = []

  -- the value that the field of a number is set to
  unfoldable pub set_to : ℕ → List Op → List Value → Value
  set_to number (o ∷ os) (x ∷ xs) = if sets number o then x else set_to number os xs
  set_to number _ _ = nothing

  unfoldable pub set_from : ℕ → List Field → List Op → List Value → List Value
  set_from number [] os xs = []
  set_from number (d ∷ ds) os xs = set_to number os xs ∷ set_from (number + 1) ds os xs

  abbrev pub built : List Value → Value
  built [] = nothing
  built (x ∷ xs) = together x xs

  -- the bits of all fields after this one
  abbrev pub below : List Field → ℕ → ℕ
  below fs number = or_width 0 (widths_by s.enums s.structs (field_kinds (drop (number + 1) fs)))

  abbrev pub field : Value → List Field → ℕ → Option Field → Value
  field x fs number None = sliced x 0 0
  field x fs number (Some d) = sliced x (counted (below fs number + width s (kind d.ty)) - 1) (below fs number)

  abbrev pub fields_in : Option Field → List Field
  fields_in None = []
  fields_in (Some d) = fields (kind d.ty)

  -- suffixes, from the left: of a value with these fields, and the values of the indexes
  unfoldable pub suffixed : List Field → List Op → Value → List Value → Value
  suffixed fs (op.Index ∷ os) x (static (constant.Number (pos n)) ∷ is) = suffixed [] os (sliced x n n) is
  suffixed fs (op.Slice high low ∷ os) x is = suffixed [] os (sliced x high low) is
  suffixed fs (op.Field number ∷ os) x is = suffixed (fields_in (slice_get fs number)) os (field x fs number (slice_get fs number)) is
  suffixed fs _ x is = x

  -- ---- all operators: the type of the result, and that of the first operand

  abbrev pub single : Kind → Kind → Op → Value → List Value → Value
  single t k op.Concat x xs = together x xs
  single t k o x [] = of_one o t k x
  single t k o x (y ∷ ys) = of_two o k x y

  abbrev pub no_suffixes : Kind → Kind → Op → List Op → Value → List Value → Value
  no_suffixes t k o [] x xs = single t k o x xs
  no_suffixes t k o (next ∷ os) x xs = chained (o ∷ next ∷ os) k x xs

  abbrev pub applied_to : Kind → Kind → List Op → Value → List Value → Value
  applied_to t k [] x xs = x
  applied_to t k (o ∷ os) x xs = if is_suffix o then suffixed (fields k) (o ∷ os) x xs else no_suffixes t k o os x xs

  unfoldable pub applied : Kind → Kind → List Op → List Value → Value
  applied t k os [] = bits (width s t) 0
  applied t k os (x ∷ xs) = if builds os then built (set_from 0 (fields t) os (x ∷ xs)) else applied_to t k os x xs
