-- Names, and what comes after them: instances, their methods, fields, bits (Bluespec reference guide,
-- "Member selection", "Bit selection" and "Method calls").
use Rattle.std.specs.Prelude.{ℕ, ◌+◌, ◌-◌, nat_le, nat_lt, Bool, true, false, not, ◌&&◌, ◌||◌, List, [], ◌∷◌, Option, Some, None, codes, if◌then◌else◌}
use Rattle.bsv_types.specs.declared.operators.Op.TheVariants as op
use Rattle.bsv_types.specs.declared.types.PartTy.TheVariants as part_type
use Rattle.bsv_types.specs.declared.expressions.Expr.{Expr, Variable, Method}
use Rattle.bsv_types.specs.declared.expressions.Place.{Place, roll-Place}
use Rattle.bsv_types.specs.Kinds.{Kind, bit, down, integer, part, bare, is_bit, is_interface, type_of}
use Rattle.bsv_types.specs.Shapes.{counted}
use Rattle.bsv_types.specs.Operators.{◌>>=◌}
use Rattle.bsv_types.specs.Methods.{Signature}
use Rattle.bsv_types.specs.Expressions.{Slot, one, many}
use Rattle.bsv_context.specs.Env.{TypedExpr, Limits, below}
use Rattle.bsv_typing.specs.Operands.{Operand}
use Rattle.bsv_typing.specs.Forms.{arguments, field_named, function_case}
use Rattle.bsv_context.specs.Methods.{method_named, value_of}
use Rattle.bsv_context.specs.Suffixes.{with_suffix}

-- an instance: its place, and its interface
pub record Instance : Type 0 where
  pub level : ℕ
  pub index : Option Expr
  pub kind : Kind

-- what comes before a suffix
pub data Front : Type 0 where
  whole : TypedExpr → Front
  instance : Instance → Front
  array : ℕ → Kind → Front

-- the instance that is there
abbrev pub the_instance : Front → Option Instance
the_instance (instance i) = Some i
the_instance _ = None

abbrev pub place_of : Instance → Place
place_of i = roll-Place (record { level = i.level; index = i.index })

-- a call of a value method
abbrev pub method_call : Instance → ℕ → Kind → List Expr → TypedExpr
method_call i number k ms = record { kind = k; expr = Method (type_of k) (place_of i) number ms }

unfoldable pub call_of : Instance → ℕ × Signature → List Operand → Option TypedExpr
call_of i m xs = value_of m.1.effect >>= λ k. arguments m.1.params xs >>= λ ms. Some (method_call i m.0 k ms)

-- a register, a wire or a pulse wire is read where its name stands
abbrev pub is_read : Kind → Bool
is_read (part part_type.Reg k) = true
is_read (part part_type.Wire k) = true
is_read (bare part_type.PulseWire) = true
is_read _ = false

unfoldable pub read : Limits → Instance → Option TypedExpr
read g i = if is_read i.kind then (method_named g i.kind (codes "_read") >>= λ m. call_of i m []) else None

unfoldable pub value_at : Limits → Front → Option TypedExpr
value_at g (whole m) = Some m
value_at g (instance i) = read g i
value_at g (array level k) = None

abbrev pub variable_front : ℕ → Slot → Front
variable_front level (many k) = array level k
variable_front level (one k) =
    if is_interface k then instance (record { level = level; index = None; kind = k })
    else whole (record { kind = k; expr = Variable (type_of k) level })

-- a Lower name without a `(` after it: the variable of that name, else a function without arguments
unfoldable pub name_front : Option (ℕ × Slot) → Option (ℕ × List Kind × Kind) → Option Front
name_front (Some v) function = Some (variable_front v.0 v.1)
name_front None function = function_case function [] None >>= λ m. Some (whole m)

unfoldable pub field_of : Limits → List ℕ → TypedExpr → Option Front
field_of g name m = field_named g m.kind name >>= λ f. Some (whole (with_suffix f.1 (op.Field f.0) [] m.expr))

abbrev pub called : Option TypedExpr → Option Front
called m = m >>= λ x. Some (whole x)

-- `.m`: a value method without arguments; else a field, of a register or a wire that of its read
unfoldable pub member_after : Limits → List ℕ → Front → Option Front
member_after g name (instance i) = by (method_named g i.kind name) where
  by : Option (ℕ × Signature) → Option Front
  by (Some m) = called (call_of i m [])
  by None = read g i >>= field_of g name
member_after g name (whole m) = field_of g name m
member_after g name (array level k) = None

-- `.m(args)`
unfoldable pub method_after : Limits → List ℕ → List Operand → Front → Option Front
method_after g name xs (instance i) = method_named g i.kind name >>= λ m. called (call_of i m xs)
method_after g name xs _ = None

-- the bit of this place
unfoldable pub bit_of : Operand → TypedExpr → Option Front
bit_of x m = if is_bit m.kind then (x.check (Some integer) >>= λ i. Some (whole (with_suffix (bit 1) op.Index (i.expr ∷ []) m.expr))) else None

-- `[i]`: a place of an array, or a bit
unfoldable pub index_after : Limits → Operand → Front → Option Front
index_after g x (array level k) = x.check (Some integer) >>= λ i. Some (instance (record { level = level; index = Some i.expr; kind = k }))
index_after g x f = value_at g f >>= bit_of x

-- the type of the bits from l to h: its width is h - l + 1, which is below 1 where the range counts down
abbrev pub slice_type : ℕ → ℕ → Kind
slice_type h l = if nat_le l h then bit (counted (h - l + 1)) else below (counted (l - h - 1))

abbrev pub slice_fits : Limits → ℕ → ℕ → Kind → Bool
slice_fits g h l (bit n) = not g.strict || (nat_le l h && nat_lt h n)
slice_fits g h l (down n) = not g.strict
slice_fits g h l _ = false

-- the bits from l to h. The numbers of a slice that fits are what they are; greater ones count as the greatest
-- of 32 bits
unfoldable pub bits_of : Limits → ℕ → ℕ → TypedExpr → Option Front
bits_of g h l m = if slice_fits g h l m.kind then Some (whole (with_suffix (slice_type h l) (op.Slice (counted h) (counted l)) [] m.expr)) else None

-- `[h:l]`, of unsized literals
unfoldable pub slice_after : Limits → Option ℕ → Option ℕ → Front → Option Front
slice_after g high low f = high >>= λ h. low >>= λ l. value_at g f >>= bits_of g h l
