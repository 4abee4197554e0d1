-- Nodes that are constants, or have the word of an earlier one.
use Rattle.std.specs.Prelude.{ℕ, ◌-◌, ◌==◌, nat_lt, Bool, false, ◌&&◌, ◌||◌, List, slice_get, Option, Some, None, option_map, if◌then◌else◌}
use Rattle.bsv_bits.specs.Words.{Bits, word_not}
use Rattle.bsv_bits.specs.declared.operator.Operator.TheVariants.{And, Or}
use Rattle.bsv_design.specs.design.Computing as computing
use Rattle.bsv_net.specs.declared.node.NetNode.{NetNode}
pub use Rattle.bsv_net.specs.declared.node.NetNode.TheVariants as net

abbrev pub constant_in : Option NetNode → Option Bits
constant_in (Some (net.Constant w)) = Some w
constant_in _ = None

abbrev pub two_constants : (Bits → Bits → Bits) → Option Bits → Option Bits → Option Bits
two_constants f (Some u) (Some v) = Some (f u v)
two_constants f _ _ = None

abbrev pub three_constants : Option Bits → Option Bits → Option Bits → Option Bits
three_constants (Some t) (Some u) (Some v) = Some (computing.picked t u v)
three_constants _ _ _ = None

module _ (xs : List NetNode) where
  abbrev pub constant_at : ℕ → Option Bits
  constant_at a = constant_in (slice_get xs a)

  -- the word of a node that reads constants alone
  abbrev pub constant_word : NetNode → Option Bits
  constant_word (net.Input k) = None
  constant_word (net.Register k) = None
  constant_word (net.Constant w) = Some w
  constant_word (net.Not a) = option_map word_not (constant_at a)
  constant_word (net.Two o a b) = two_constants (computing.between o) (constant_at a) (constant_at b)
  constant_word (net.Pick t a b) = three_constants (constant_at t) (constant_at a) (constant_at b)
  constant_word (net.Slice a high low) = option_map (λ w. computing.sliced w high low) (constant_at a)
  constant_word (net.Join a b) = two_constants computing.joined (constant_at a) (constant_at b)
  constant_word (net.Extend a width) = option_map (λ w. computing.extended w width) (constant_at a)
  constant_word (net.SignExtend a width) = option_map (λ w. computing.sign_extended w width) (constant_at a)

abbrev pub passes : (Bits → Bool) → Option Bits → Bool
passes p (Some w) = p w
passes p None = false

abbrev pub is_zeros : Option NetNode → Bool
is_zeros x = passes (λ w. w.value == 0) (constant_in x)

abbrev pub is_ones : Option NetNode → Bool
is_ones x = passes (λ w. (word_not w).value == 0) (constant_in x)

abbrev pub is_true : Option NetNode → Bool
is_true x = passes (λ w. (w.width == 1) && (w.value == 1)) (constant_in x)

abbrev pub turned_place : Option NetNode → Option ℕ
turned_place (Some (net.Not a)) = Some a
turned_place _ = None

abbrev pub whole_place : ℕ → ℕ → ℕ → ℕ → Option ℕ
whole_place a high low width = if (low == 0) && nat_lt high width && (width - high == 1) then Some a else None

module _ (xs : List NetNode) where
  abbrev pub and_place : ℕ → ℕ → Option ℕ
  and_place a b =
      if is_zeros (slice_get xs a) || is_ones (slice_get xs b) then Some a
      else (if is_ones (slice_get xs a) || is_zeros (slice_get xs b) then Some b else None)

  abbrev pub or_place : ℕ → ℕ → Option ℕ
  or_place a b =
      if is_ones (slice_get xs a) || is_zeros (slice_get xs b) then Some a
      else (if is_zeros (slice_get xs a) || is_ones (slice_get xs b) then Some b else None)

  abbrev pub picked_place : ℕ → ℕ → ℕ → Option ℕ
  picked_place t a b =
      if a == b then Some a
      else (if is_true (slice_get xs a) && is_zeros (slice_get xs b) then Some t
      else option_map (λ w. if w.value == 1 then a else b) (constant_in (slice_get xs t)))

  -- the earlier node that has the word of a node, whose first operand has this width
  abbrev pub same_word : ℕ → NetNode → Option ℕ
  same_word width (net.Not a) = turned_place (slice_get xs a)
  same_word width (net.Two And a b) = and_place a b
  same_word width (net.Two Or a b) = or_place a b
  same_word width (net.Pick t a b) = picked_place t a b
  same_word width (net.Slice a high low) = whole_place a high low width
  same_word width (net.Extend a wide) = if wide == width then Some a else None
  same_word width (net.SignExtend a wide) = if wide == width then Some a else None
  same_word width _ = None
