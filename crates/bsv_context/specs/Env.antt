-- What an expression may name, and how typed expressions are made.
use Rattle.std.specs.Prelude.{ℕ, zero, suc, ◌+◌, ◌-◌, ◌*◌, ◌^◌, ◌==◌, nat_le, nat_lt, Bool, true, false, not, ◌&&◌, ◌||◌, List, Option, Some, None, is_some, if◌then◌else◌}
use Rattle.bsv_scopes.specs.Scopes.{Entries, find_in}
use Rattle.bsv_types.specs.declared.operators.Op.{Op}
use Rattle.bsv_types.specs.declared.expressions.Expr.{Expr, Literal, Apply, Call, Choice}
use Rattle.bsv_types.specs.Kinds.{Kind, bit, down, uint, int, struct, maybe, integer, type_of, same_kind}
use Rattle.bsv_types.specs.Shapes as ranged
use Rattle.bsv_types.specs.Shapes.{Shapes, counted, width_by}
use Rattle.bsv_types.specs.Operators.{◌>>=◌}
use Rattle.bsv_types.specs.Expressions.{Slot}

-- a typed expression, with its type
pub record TypedExpr : Type 0 where
  pub kind : Kind
  pub expr : Expr

-- a typed expression of the expected type, if there is one
abbrev pub wanted : Option Kind → TypedExpr → Option TypedExpr
wanted None m = Some m
wanted (Some k) m = if same_kind m.kind k then Some m else None

-- what types and literals may be
pub record Limits : Type 0 where
  -- are the range of widths and the fit of literals and ranges asked for
  pub strict : Bool
  pub shapes : Shapes

pub record Env : Type 0 where
  pub limits : Limits
  -- the level of a variable in scope, and what it is
  pub variable : List ℕ → Option (ℕ × Slot)
  -- the number of a function that may be called, the types of its parameters, and its result
  pub function : List ℕ → Option (ℕ × List Kind × Kind)
  -- the number of a label's enum, and its own
  pub label : List ℕ → Option (ℕ × ℕ)
  -- the number of the struct that a name of a type stands for
  pub structure : List ℕ → Option ℕ

-- the variable of this name in the innermost scope that has it
unfoldable pub variable_in : List (Entries (ℕ × Slot)) → List ℕ → Option (ℕ × Slot)
variable_in ss name = find_in name ss

-- the struct that a type is
abbrev pub structure_of : Option Kind → Option ℕ
structure_of (Some (struct k)) = Some k
structure_of _ = None

-- a function whose number is below this one
abbrev pub in_reach : ℕ → Option (ℕ × List Kind × Kind) → Option (ℕ × List Kind × Kind)
in_reach limit None = None
in_reach limit (Some f) = if nat_lt f.0 limit then Some f else None

-- a Bit whose width is so many bits below 0, and one that has so many more than others
abbrev pub below : ℕ → Kind
below n = if n == 0 then bit 0 else down n

abbrev pub across : ℕ → ℕ → Kind
across m n = if nat_le n m then bit (m - n) else below (n - m)

-- two Bit types side by side: their widths together
abbrev pub beside : Kind → Kind → Option Kind
beside (bit m) (bit n) = Some (bit (counted (m + n)))
beside (bit m) (down n) = Some (across m n)
beside (down m) (bit n) = Some (across n m)
beside (down m) (down n) = Some (below (counted (m + n)))
beside _ _ = None

-- the Bit type that has the width of a type
abbrev pub packed : Limits → Kind → Option Kind
packed g (down n) = Some (down n)
packed g (maybe k) = packed g k >>= beside (bit 1)
packed g k = width_by g.shapes.enums g.shapes.structs k >>= λ n. Some (bit n)

-- no more than so many Maybes are in each other
unfoldable pub nests_within : ℕ → Kind → Bool
nests_within zero (maybe k) = false
nests_within (suc n) (maybe k) = nests_within n k
nests_within n k = true

-- where widths are left aside, a type may be as wide as it likes, but Maybes are in each other at most so deep
unfoldable pub most_maybes : ℕ
most_maybes = 1024

-- a type with bits, where widths are left aside or in range
unfoldable pub has_bits : Limits → Kind → Bool
has_bits g k = if g.strict then ranged.has_bits g.shapes k else nests_within most_maybes k && is_some (packed g k)

-- a type of values: one with bits, or Integer
abbrev pub is_typed_value : Limits → Kind → Bool
is_typed_value g integer = true
is_typed_value g k = has_bits g k

unfoldable pub in_order : Limits → TypedExpr → Option TypedExpr
in_order g m = if is_typed_value g m.kind then Some m else None

abbrev pub literal : Kind → ℕ → TypedExpr
literal k number = record { kind = k; expr = Literal (type_of k) number }

abbrev pub applied : Kind → List Op → List Expr → TypedExpr
applied k os xs = record { kind = k; expr = Apply (type_of k) os xs }

abbrev pub called : Kind → ℕ → List Expr → TypedExpr
called k number xs = record { kind = k; expr = Call (type_of k) number xs }

abbrev pub chosen : Kind → List Expr → List Expr → TypedExpr
chosen k conditions values = record { kind = k; expr = Choice (type_of k) conditions values }

-- an unsized literal of this type, if it fits
unfoldable pub fits : Limits → ℕ → Kind → Bool
fits g number (bit n) = not g.strict || nat_lt number (2 ^ n)
fits g number (down n) = not g.strict
fits g number (uint n) = not g.strict || nat_lt number (2 ^ n)
fits g number (int n) = not g.strict || nat_lt (2 * number) (2 ^ n)
fits g number integer = not g.strict || nat_lt number (2 ^ 63)
fits g number _ = false

-- the same after `-`
unfoldable pub fits_negated : Limits → ℕ → Kind → Bool
fits_negated g number (int n) = not g.strict || nat_le (2 * number) (2 ^ n)
fits_negated g number k = fits g number k
