-- What the typing of expressions gives is in order, where what it stands on is so.
use Rattle.std.specs.Prelude.{◌≡◌, ℕ, nat_lt, Bool, true, ◌||◌, List, Option, Some, slice_get, IsTrue}
use Rattle.bsv_types.specs.Kinds.{Kind}
use Rattle.bsv_types.specs.Shapes.{Shapes, is_value, is_instance}
use Rattle.bsv_types.specs.Expressions.{Slot, one, many, Frame, World, label_count, typing}
use Rattle.bsv_types.specs.Programs.{shapes_right}
use Rattle.bsv_context.specs.Env.{TypedExpr, Env}
use Rattle.bsv_typing.specs.Operands.{Check}

-- a variable is a value, an instance or an array of instances
abbrev pub slot_right : Shapes → Slot → Bool
slot_right s (one k) = is_value s k || is_instance s k
slot_right s (many k) = is_instance s k

abbrev pub SlotsRight : Shapes → Frame → Type 0
SlotsRight s frame = (level : ℕ) (slot : Slot) → slice_get frame level ≡ Some slot → IsTrue (slot_right s slot)

-- what expressions may name beside variables is what is in the world, where types are asked to be in range
pub record FitsWorld (env : Env) (w : World) : Type 0 where
  pub strict : env.limits.strict ≡ true
  pub shapes : env.limits.shapes ≡ w.shapes
  pub right : IsTrue (shapes_right w.shapes)
  pub functions : (name : List ℕ) (f : ℕ × List Kind × Kind) → env.function name ≡ Some f → slice_get w.functions f.0 ≡ Some (f.1, f.2)
  pub results : (name : List ℕ) (f : ℕ × List Kind × Kind) → env.function name ≡ Some f → IsTrue (is_value w.shapes f.2)
  pub labels : (name : List ℕ) (l : ℕ × ℕ) → env.label name ≡ Some l → IsTrue (nat_lt l.1 (label_count (slice_get w.shapes.enums l.0)))

-- and variables are those of the frame
pub record Fits (env : Env) (w : World) (frame : Frame) : Type 0 where
  pub world : FitsWorld env w
  pub slots : SlotsRight w.shapes frame
  pub variables : (name : List ℕ) (v : ℕ × Slot) → env.variable name ≡ Some v → slice_get frame v.0 ≡ Some v.1

-- the typed expression has the type that it carries
abbrev pub Typed : World → Frame → TypedExpr → Type 0
Typed w frame m = typing w m.expr frame ≡ Some m.kind

-- what a check gives is in order, and has the type that was expected
abbrev pub Right : World → Frame → Check → Type 0
Right w frame check = (want : Option Kind) (m : TypedExpr) → check want ≡ Some m → Typed w frame m × ((k : Kind) → want ≡ Some k → m.kind ≡ k)
