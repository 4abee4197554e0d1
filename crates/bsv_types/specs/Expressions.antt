-- When an expression of the typed tree has the type that it carries, and so has each one in it (Bluespec
-- reference guide, "Expressions").
use Rattle.std.specs.Prelude.{ℕ, ◌+◌, ◌^◌, ◌==◌, nat_lt, Bool, true, false, ◌&&◌, List, [], ◌∷◌, map, length, slice_get, Option, Some, None}
use Rattle.bsv_types.specs.declared.definitions.Enum.{Enum}
use Rattle.bsv_types.specs.declared.expressions.Expr.{Expr, fold-Expr, out-Expr}
use Rattle.bsv_types.specs.declared.expressions.Expr.TheOpen.{Expr-F, Place-F}
use Rattle.bsv_types.specs.declared.expressions.Place.{Place, fold-Place}
use Rattle.bsv_types.specs.declared.types.Ty.{Ty}
use Rattle.bsv_types.specs.Kinds.{Kind, bit, uint, int, bool, enum, integer, kind, same_kind}
use Rattle.bsv_types.specs.Shapes.{Shapes, is_value}
use Rattle.bsv_types.specs.Operators.{◌>>=◌, when, is_kind, same_kinds, gives}
use Rattle.bsv_types.specs.Methods.{Signature, Effect, value, methods}

-- what a variable in scope is: one value or instance, or an array of instances
pub data Slot : Type 0 where
  one : Kind → Slot
  many : Kind → Slot

-- the variables in scope, by level
abbrev pub Frame : Type 0
Frame = List Slot

-- what expressions may name beside variables
pub record World : Type 0 where
  pub shapes : Shapes
  -- the parameters of each function that may be called, and its result
  pub functions : List (List Kind × Kind)

abbrev pub one_at : Frame → ℕ → Option Kind
one_at frame level = slice_get frame level >>= λ s. only s where
  only : Slot → Option Kind
  only (one k) = Some k
  only (many k) = None

abbrev pub many_at : Frame → ℕ → Option Kind
many_at frame level = slice_get frame level >>= λ s. each s where
  each : Slot → Option Kind
  each (many k) = Some k
  each (one k) = None

abbrev pub label_count : Option Enum → ℕ
label_count None = 0
label_count (Some e) = length e.labels

-- a literal of the type may have this number
abbrev pub holds : Shapes → Kind → ℕ → Bool
holds s (bit n) number = nat_lt number (2 ^ n)
holds s (uint n) number = nat_lt number (2 ^ n)
holds s (int n) number = nat_lt number (2 ^ n)
holds s bool number = nat_lt number 2
holds s (enum k) number = nat_lt number (label_count (slice_get s.enums k))
holds s integer number = nat_lt number (2 ^ 63)
holds s _ number = false

-- the type of an expression in a scope, where it is in order
abbrev pub Typing : Type 0
Typing = Frame → Option Kind

abbrev pub all_typed : List Typing → Frame → Option (List Kind)
all_typed [] frame = Some []
all_typed (x ∷ xs) frame = x frame >>= λ k. all_typed xs frame >>= λ ks. Some (k ∷ ks)

-- each has this type
abbrev pub all_of : Kind → List Typing → Frame → Bool
all_of k [] frame = true
all_of k (x ∷ xs) frame = is_kind (x frame) k && all_of k xs frame

-- a function that takes arguments of these types and gives this one
abbrev pub is_call : Option (List Kind × Kind) → List Kind → Kind → Bool
is_call None ks k = false
is_call (Some f) ks k = same_kinds f.0 ks && same_kind f.1 k

abbrev pub gives_value : Effect → Kind → Bool
gives_value (value j) k = same_kind j k
gives_value _ k = false

-- a value method that takes arguments of these types and gives this one
abbrev pub is_value_call : Option Signature → List Kind → Kind → Bool
is_value_call None ks k = false
is_value_call (Some m) ks k = same_kinds m.params ks && gives_value m.effect k

abbrev pub method_at : Shapes → Option Kind → ℕ → Option Signature
method_at s None m = None
method_at s (Some k) m = slice_get (methods s k) m

abbrev pub is_typed : Option (List Kind) → (List Kind → Bool) → Bool
is_typed None p = false
is_typed (Some ks) p = p ks

abbrev pub expr_right : World → Expr-F Typing Typing → Frame → Kind → Bool
expr_right w (Expr-F.Literal t number) frame k = holds w.shapes k number
expr_right w (Expr-F.Variable t level) frame k = is_kind (one_at frame level) k
expr_right w (Expr-F.Apply t os xs) frame k = is_typed (all_typed xs frame) (λ ks. gives w.shapes os ks k)
expr_right w (Expr-F.Call t f xs) frame k = is_typed (all_typed xs frame) (λ ks. is_call (slice_get w.functions f) ks k)
expr_right w (Expr-F.Method t place m xs) frame k = is_typed (all_typed xs frame) (λ ks. is_value_call (method_at w.shapes (place frame) m) ks k)
expr_right w (Expr-F.Choice t cs xs) frame k = length xs == length cs + 1 && all_of bool cs frame && all_of k xs frame

-- the type that an expression carries
abbrev pub carried_type : {A B : Type 0} → Expr-F A B → Ty
carried_type (Expr-F.Literal t number) = t
carried_type (Expr-F.Variable t level) = t
carried_type (Expr-F.Apply t os xs) = t
carried_type (Expr-F.Call t f xs) = t
carried_type (Expr-F.Method t place m xs) = t
carried_type (Expr-F.Choice t cs xs) = t

unfoldable pub expr_type : Expr → Ty
expr_type e = carried_type (out-Expr e)

abbrev pub carried : {A B : Type 0} → Expr-F A B → Kind
carried x = kind (carried_type x)

abbrev pub expr_step : World → Expr-F Typing Typing → Typing
expr_step w x frame = when (is_value w.shapes (carried x) && expr_right w x frame (carried x)) (carried x)

-- the interface of an instance; the place in an array is an Integer
abbrev pub place_at : ℕ → Option Typing → Typing
place_at level None frame = one_at frame level
place_at level (Some index) frame = if_integer (index frame) (many_at frame level) where
  if_integer : Option Kind → Option Kind → Option Kind
  if_integer (Some integer) found = found
  if_integer _ found = None

abbrev pub place_step : World → Place-F Typing Typing → Typing
place_step w p = place_at p.level p.index

abbrev pub typing : World → Expr → Typing
typing w = fold-Expr Typing Typing (expr_step w) (place_step w)

abbrev pub place_typing : World → Place → Typing
place_typing w = fold-Place Typing Typing (expr_step w) (place_step w)

-- an expression has this type
abbrev pub has_type : World → Frame → Expr → Kind → Bool
has_type w frame e k = is_kind (typing w e frame) k

abbrev pub kinds_of : World → Frame → List Expr → Option (List Kind)
kinds_of w frame xs = all_typed (map (typing w) xs) frame

-- expressions have these types
abbrev pub have_types : World → Frame → List Expr → List Kind → Bool
have_types w frame xs ks = is_typed (kinds_of w frame xs) (λ js. same_kinds js ks)
