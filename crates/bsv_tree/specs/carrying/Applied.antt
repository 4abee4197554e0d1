-- What operators give: one line for each (Bluespec reference guide, "Expressions", and "Bit, UInt and Int").
use Rattle.std.specs.Prelude.{ℕ, ◌-◌, nat_lt, pos, negsuc, List, [], ◌∷◌, slice_get, Option, Some, None, Result, Ok, Err, if◌then◌else◌}
use Rattle.bsv_fail.specs.Given.{◌>>=◌}
use Rattle.bsv_bits.specs.declared.operator.Operator.{Operator}
use Rattle.bsv_bits.specs.declared.operator.Operator.TheVariants as operator
use Rattle.bsv_types.specs.declared.operators.Op.{Op}
use Rattle.bsv_types.specs.declared.operators.Op.TheVariants as op
use Rattle.bsv_types.specs.declared.definitions.Field.{Field}
use Rattle.bsv_types.specs.declared.definitions.Struct.{Struct}
use Rattle.bsv_types.specs.Kinds.{Kind, struct}
use Rattle.bsv_types.specs.Shapes.{Shapes}
use Rattle.bsv_tree.specs.declared.values.Constant.{Constant}
use Rattle.bsv_tree.specs.declared.values.Constant.TheVariants as constant
use Rattle.bsv_tree.specs.declared.values.Value.{Value}
use Rattle.bsv_tree.specs.declared.values.Value.TheVariants as value
use Rattle.bsv_tree.specs.declared.values.Work.{Work}
use Rattle.bsv_tree.specs.declared.values.Fault.{Fault}
use Rattle.bsv_design.specs.design.Computing.{word}
use Rattle.bsv_tree.specs.meaning.Integers.{number_between, fitted}
use Rattle.bsv_tree.specs.carrying.Working.{Valued, inverted, between, picked, sliced, joined, extended, sign_extended}
use Rattle.bsv_tree.specs.tree.Widths.{width}
use Rattle.bsv_tree.specs.meaning.Operators.{less, right}

abbrev pub constant_of : ℕ → ℕ → Value
constant_of bits number = value.Static (constant.Bits (word bits number))

-- the value, where there is one
abbrev pub or_fault : Fault → Option Constant → Work → Valued
or_fault f None w = Err f
or_fault f (Some c) w = Ok (value.Static c, w)

abbrev pub inverted_value : Value × Work → Valued
inverted_value r = inverted r.1 r.0

-- parts side by side, the first one most significant
unfoldable pub together : Value → List Value → Work → Valued
together x [] w = Ok (x, w)
together x (y ∷ ys) w = joined w x y >>= λ r. together r.0 ys r.1

module _ (s : Shapes) (f : Fault) where
  -- ---- two operands, of which the first has this type

  -- the amount of a shift is a word, or an Integer of at least 0
  abbrev pub shifted : Operator → Value → Value → Work → Valued
  shifted o x (value.Static (constant.Number (negsuc n))) w = Err f
  shifted o x (value.Static (constant.Number (pos n))) w = between w o x (constant_of 64 n)
  shifted o x y w = between w o x y

  abbrev pub not_of : Valued → Valued
  not_of x = x >>= inverted_value

  abbrev pub from_maybe : Kind → Value → Value → Work → Valued
  from_maybe k d e w =
      sliced w e (width s k) (width s k) >>= λ tag.
      sliced tag.1 e (width s k - 1) 0 >>= λ payload.
      picked payload.1 tag.0 payload.0 d

  abbrev pub bits_between : Op → Kind → Value → Value → Work → Valued
  bits_between op.Mul k x y w = between w operator.Mul x y
  bits_between op.Add k x y w = between w operator.Add x y
  bits_between op.Sub k x y w = between w operator.Sub x y
  bits_between op.Shl k x y w = shifted operator.Shl x y w
  bits_between op.Shr k x y w = shifted (right k) x y w
  bits_between op.Less k x y w = between w (less k) x y
  bits_between op.Greater k x y w = between w (less k) y x
  bits_between op.LessOrSame k x y w = not_of (between w (less k) y x)
  bits_between op.GreaterOrSame k x y w = not_of (between w (less k) x y)
  bits_between op.Same k x y w = between w operator.Same x y
  bits_between op.Different k x y w = not_of (between w operator.Same x y)
  bits_between op.And k x y w = between w operator.And x y
  bits_between op.Both k x y w = between w operator.And x y
  bits_between op.Xor k x y w = between w operator.Xor x y
  bits_between op.Or k x y w = between w operator.Or x y
  bits_between op.Either k x y w = between w operator.Or x y
  bits_between _ k x y w = from_maybe k x y w

  abbrev pub two_operands : Op → Kind → Value → Value → Work → Valued
  two_operands o k (value.Static (constant.Number m)) (value.Static (constant.Number n)) w = or_fault f (number_between o m n) w
  two_operands o k x y w = bits_between o k x y w

  -- ---- one operand of this type, and the type of the result

  abbrev pub negated : Kind → Value → Work → Valued
  negated t (value.Static (constant.Number n)) w = or_fault f (number_between op.Sub (pos 0) n) w
  negated t x w = between w operator.Sub (constant_of (width s t) 0) x

  abbrev pub from_integer : Kind → Value → Work → Valued
  from_integer t (value.Static (constant.Number n)) w = or_fault f (fitted t (width s t) n) w
  from_integer t x w = Err f

  abbrev pub one_operand : Op → Kind → Kind → Value → Work → Valued
  one_operand op.Negate t k x w = negated t x w
  one_operand op.Complement t k x w = inverted w x
  one_operand op.Not t k x w = inverted w x
  one_operand op.Truncate t k x w = sliced w x (width s t - 1) 0
  one_operand op.ZeroExtend t k x w = extended w x (width s t)
  one_operand op.SignExtend t k x w = sign_extended w x (width s t)
  one_operand op.FromInteger t k x w = from_integer t x w
  one_operand op.Valid t k x w = joined w (constant_of 1 1) x
  one_operand op.IsValid t k x w = sliced w x (width s k - 1) (width s k - 1)
  one_operand op.ValidValue t k x w = sliced w x (width s t - 1) 0
  one_operand _ t k x w = Ok (x, w)

  -- ---- fields

  abbrev pub fields_of_struct : Option Struct → List Field
  fields_of_struct None = []
  fields_of_struct (Some t) = t.fields

  abbrev pub fields : Kind → List Field
  fields (struct n) = fields_of_struct (slice_get s.structs n)
  fields _ = []

  abbrev pub number_below : ℕ → Value → Result ℕ Fault
  number_below limit (value.Static (constant.Number (pos n))) = if nat_lt n limit then Ok n else Err f
  number_below limit _ = Err f
