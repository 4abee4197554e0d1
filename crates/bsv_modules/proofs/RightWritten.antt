-- A type that is written stands for one that is in order.
use Rattle.std.proofs.Common.{◌≡◌, ◌∙◌, ℕ, Bool, true, false, cond, ◌&&◌, ◌||◌, List, codes, Option, Some, None, refl, sym, subst}
use Rattle.std.specs.Prelude.{nat_lt, length, is_some}
use Rattle.std.specs.Str.{bytes_eq}
use Rattle.std.proofs.lemmas.Bool.{or_left, or_right}
use Rattle.bsv_ast.specs.declared.types.WrittenType.{WrittenType, out-WrittenType, map-WrittenType, fold_out-WrittenType}
use Rattle.bsv_ast.specs.declared.types.TypeArgument.{TypeArgument}
use Rattle.bsv_ast.specs.declared.types.TypeArgument.TheOpen.{WrittenType-F}
use Rattle.bsv_types.specs.declared.types.PartTy.TheVariants as part_type
use Rattle.bsv_types.specs.declared.types.PartTy.{PartTy}
use Rattle.bsv_types.specs.Kinds.{Kind, bit, uint, int, maybe, interface, part}
use Rattle.bsv_types.specs.Shapes as ranged
use Rattle.bsv_types.specs.Shapes.{Shapes, is_value, is_instance}
use Rattle.bsv_types.specs.Expressions.{one}
use Rattle.bsv_types.specs.Operators.{◌>>=◌}
use Rattle.bsv_context.specs.Env.{Limits, packed, has_bits, nests_within, most_maybes}
use Rattle.bsv_context.specs.Written.{TypeNames, with_bits, Argument, of_type, number, plain_type, sized_type, widest, part_over, type_over, applied_type, written_step, argument_step, written, argument}
use Rattle.bsv_typing.specs.Laws.{slot_right}
use Rattle.bsv_typing.proofs.RightGiven.{bits_value}

-- a type of values or of instances
abbrev pub InOrder : Shapes → Option Kind → Type 0
InOrder s None = Unit {0}
InOrder s (Some k) = (is_value s k || is_instance s k) ≡ true

-- the types that names stand for are in order, and `Empty` is there
pub record Names (names : TypeNames) : Type 0 where
  pub strict : names.limits.strict ≡ true
  pub empty : nat_lt 0 (length names.limits.shapes.interfaces) ≡ true
  pub named : (name : List ℕ) (k : Kind) → names.named name ≡ Some k → slot_right names.limits.shapes (one k) ≡ true

pub has_bits_is : (g : Limits) (k : Kind) → g.strict ≡ true → has_bits g k ≡ true → ranged.has_bits g.shapes k ≡ true
unfolding has_bits
has_bits_is g k strict e = by g.strict (nests_within most_maybes k && is_some (packed g k)) strict e where
  by : (b loosely : Bool) → b ≡ true → cond b (ranged.has_bits g.shapes k) loosely ≡ true → ranged.has_bits g.shapes k ≡ true
  by true loosely is e = e
  by false loosely is e = absurd cc

by_test : (s : Shapes) (b : Bool) (x y : Option Kind) → InOrder s x → InOrder s y → InOrder s (cond b x y)
by_test s true x y h k = h
by_test s false x y h k = k

module _ (names : TypeNames) (right : Names names) where
  abbrev pub s : Shapes
  s = names.limits.shapes

  bits_right : (k : Kind) → InOrder s (with_bits names.limits k)
  bits_right k = by (has_bits names.limits k) refl where
    by : (b : Bool) → has_bits names.limits k ≡ b → InOrder s (cond b (Some k) None)
    by true is = or_left (is_value s k) (is_instance s k) (bits_value s k (has_bits_is names.limits k right.strict is))
    by false is = tt

  named_right : (name : List ℕ) → InOrder s (names.named name)
  named_right name = by (names.named name) (right.named name) where
    by : (o : Option Kind) → ((k : Kind) → o ≡ Some k → slot_right s (one k) ≡ true) → InOrder s o
    by None h = tt
    by (Some k) h = h k refl

  plain_right : (name : List ℕ) → InOrder s (plain_type names name)
  plain_right name =
      by_test s (bytes_eq name (codes "Bool")) _ _ refl
      (by_test s (bytes_eq name (codes "Integer")) _ _ refl
      (by_test s (bytes_eq name (codes "Empty")) _ _ (or_right (is_value s (interface 0)) (is_instance s (interface 0)) right.empty)
      (by_test s (bytes_eq name (codes "PulseWire")) _ _ refl (named_right name))))

  sized_right : (name : List ℕ) (n : ℕ) → InOrder s (sized_type names.limits name n)
  sized_right name n =
      by_test s (bytes_eq name (codes "Bit")) _ _ (bits_right (bit n))
      (by_test s (bytes_eq name (codes "UInt")) _ _ (bits_right (uint n))
      (by_test s (bytes_eq name (codes "Int")) _ _ (bits_right (int n)) tt))

  part_right : (p : PartTy) (k : Kind) → (ranged.has_bits s (widest p k) ≡ true → is_instance s (part p k) ≡ true) → InOrder s (part_over names.limits p k)
  part_right p k is_one = by (has_bits names.limits (widest p k)) refl where
    by : (b : Bool) → has_bits names.limits (widest p k) ≡ b → InOrder s (cond b (Some (part p k)) None)
    by true is = or_right (is_value s (part p k)) (is_instance s (part p k)) (is_one (has_bits_is names.limits (widest p k) right.strict is))
    by false is = tt

  over_right : (name : List ℕ) (k : Kind) → InOrder s (type_over names.limits name k)
  over_right name k =
      by_test s (bytes_eq name (codes "Maybe")) _ _ (bits_right (maybe k))
      (by_test s (bytes_eq name (codes "Reg")) _ _ (part_right part_type.Reg k (λ e. e))
      (by_test s (bytes_eq name (codes "Wire")) _ _ (part_right part_type.Wire k (λ e. e))
      (by_test s (bytes_eq name (codes "RWire")) _ _ (part_right part_type.RWire k (λ e. e))
      (by_test s (bytes_eq name (codes "FIFO")) _ _ (part_right part_type.Fifo k (λ e. e))
      (by_test s (bytes_eq name (codes "FIFOF")) _ _ (part_right part_type.Fifof k (λ e. e)) tt)))))

  behind : (name : List ℕ) (t : Option Kind) → InOrder s (t >>= type_over names.limits name)
  behind name None = tt
  behind name (Some k) = over_right name k

  applied_right : (name : List ℕ) (x : Argument) → InOrder s (applied_type names.limits name x)
  applied_right name (number n) = sized_right name n
  applied_right name (of_type t) = behind name t

  step_right : (x : WrittenType-F Argument (Option Kind)) → InOrder s (written_step names x)
  step_right (WrittenType-F.Named p name) = plain_right name.name
  step_right (WrittenType-F.Applied p name x) = applied_right name.name x
  step_right (WrittenType-F.Int p) = refl

  pub written_right : (t : WrittenType) (k : Kind) → written names t ≡ Some k → slot_right s (one k) ≡ true
  written_right t k e =
      let y = map-WrittenType TypeArgument WrittenType Argument (Option Kind) (argument names) (written names) (out-WrittenType t) in
      subst (InOrder s) (sym (fold_out-WrittenType Argument (Option Kind) argument_step (written_step names) t) ∙ e) (step_right y)
