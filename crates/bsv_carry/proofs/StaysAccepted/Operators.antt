-- Operators give the same from less weight.
use Rattle.std.proofs.Common.{ℕ, List, [], ◌∷◌, Option, Some, None, refl}
use Rattle.std.specs.Prelude.{nat_lt, pos, negsuc}
use Rattle.bsv_bits.specs.declared.operator.Operator.{Operator}
use Rattle.bsv_types.specs.declared.operators.Op.{Op}
use Rattle.bsv_types.specs.declared.operators.Op.TheVariants as op
use Rattle.bsv_types.specs.Kinds.{Kind, integer}
use Rattle.bsv_types.specs.Shapes.{Shapes}
use Rattle.bsv_tree.specs.declared.values.Constant.{Constant}
use Rattle.bsv_tree.specs.declared.values.Constant.TheVariants as constant
use Rattle.bsv_tree.specs.declared.values.Value.{Value}
use Rattle.bsv_tree.specs.declared.values.Value.TheVariants as value
use Rattle.bsv_tree.specs.declared.values.Work.{Work}
use Rattle.bsv_tree.specs.declared.values.Fault.{Fault}
use Rattle.bsv_tree.specs.meaning.Integers.{number_between, fitted}
use Rattle.bsv_tree.specs.carrying.Applied as applied
use Rattle.bsv_tree.specs.tree.Widths as type_widths
use Rattle.bsv_tree.specs.carrying.Operated as operated
use Rattle.bsv_tree.specs.meaning.Operators as the_operators
use Rattle.bsv_tree.specs.carrying.Carrying as carrying
use Rattle.bsv_carry.proofs.StaysAccepted.SideBySide.{Into, into_then, into_if, heavier, at_heavier, inverted_over, between_over, picked_over, sliced_over, joined_over, extended_over, sign_extended_over}

module _ (d : ℕ) where
  or_fault_over : (f : Fault) (o : Option Constant) (w : Work) → Into (at_heavier d) (applied.or_fault f o (heavier d w)) (applied.or_fault f o w)
  or_fault_over f None w = record { seen = tt }
  or_fault_over f (Some c) w = record { seen = refl }

  together_over : (x : Value) (ys : List Value) (w : Work) → Into (at_heavier d) (applied.together x ys (heavier d w)) (applied.together x ys w)
  unfolding applied.together
  together_over x [] w = record { seen = refl }
  together_over x (y ∷ ys) w = into_then _ _ (joined_over d w x y) (λ r. together_over r.0 ys r.1)

  all_together_over : (xs : List Value) (w : Work) → Into (at_heavier d) (operated.all_together xs (heavier d w)) (operated.all_together xs w)
  all_together_over [] w = record { seen = refl }
  all_together_over (x ∷ xs) w = together_over x xs w

  module _ (s : Shapes) (f : Fault) where
    shifted_over : (o : Operator) (x y : Value) (w : Work)
        → Into (at_heavier d) (applied.shifted s f o x y (heavier d w)) (applied.shifted s f o x y w)
    shifted_over o x (value.Static (constant.Number (negsuc n))) w = record { seen = tt }
    shifted_over o x (value.Static (constant.Number (pos n))) w = between_over d w o x _
    shifted_over o x y w = between_over d w o x y

    from_maybe_over : (k : Kind) (x y : Value) (w : Work)
        → Into (at_heavier d) (applied.from_maybe s f k x y (heavier d w)) (applied.from_maybe s f k x y w)
    from_maybe_over k x y w =
        into_then _ _ (sliced_over d w y _ _) (λ tag. into_then _ _ (sliced_over d tag.1 y _ _)
        (λ payload. picked_over d payload.1 tag.0 payload.0 x))

    bits_over : (o : Op) (k : Kind) (x y : Value) (w : Work)
        → Into (at_heavier d) (applied.bits_between s f o k x y (heavier d w)) (applied.bits_between s f o k x y w)
    bits_over op.Mul k x y w = between_over d w _ x y
    bits_over op.Add k x y w = between_over d w _ x y
    bits_over op.Sub k x y w = between_over d w _ x y
    bits_over op.Shl k x y w = shifted_over _ x y w
    bits_over op.Shr k x y w = shifted_over _ x y w
    bits_over op.Less k x y w = between_over d w _ x y
    bits_over op.Greater k x y w = between_over d w _ y x
    bits_over op.LessOrSame k x y w = into_then _ _ (between_over d w _ y x) (λ r. inverted_over d r.1 r.0)
    bits_over op.GreaterOrSame k x y w = into_then _ _ (between_over d w _ x y) (λ r. inverted_over d r.1 r.0)
    bits_over op.Same k x y w = between_over d w _ x y
    bits_over op.Different k x y w = into_then _ _ (between_over d w _ x y) (λ r. inverted_over d r.1 r.0)
    bits_over op.And k x y w = between_over d w _ x y
    bits_over op.Both k x y w = between_over d w _ x y
    bits_over op.Xor k x y w = between_over d w _ x y
    bits_over op.Or k x y w = between_over d w _ x y
    bits_over op.Either k x y w = between_over d w _ x y
    bits_over _ k x y w = from_maybe_over k x y w

    pub two_over : (o : Op) (k : Kind) (x y : Value) (w : Work)
        → Into (at_heavier d) (applied.two_operands s f o k x y (heavier d w)) (applied.two_operands s f o k x y w)
    two_over o k (value.Static (constant.Number m)) (value.Static (constant.Number n)) w = or_fault_over f (number_between o m n) w
    two_over o k x y w = bits_over o k x y w

    negated_over : (t : Kind) (x : Value) (w : Work) → Into (at_heavier d) (applied.negated s f t x (heavier d w)) (applied.negated s f t x w)
    negated_over t (value.Static (constant.Number n)) w = or_fault_over f (number_between op.Sub (pos 0) n) w
    negated_over t x w = between_over d w _ _ x

    from_integer_over : (t : Kind) (x : Value) (w : Work)
        → Into (at_heavier d) (applied.from_integer s f t x (heavier d w)) (applied.from_integer s f t x w)
    from_integer_over t (value.Static (constant.Number n)) w = or_fault_over f (fitted t (type_widths.width s t) n) w
    from_integer_over t x w = record { seen = tt }

    one_over : (o : Op) (t k : Kind) (x : Value) (w : Work)
        → Into (at_heavier d) (applied.one_operand s f o t k x (heavier d w)) (applied.one_operand s f o t k x w)
    one_over op.Negate t k x w = negated_over t x w
    one_over op.Complement t k x w = inverted_over d w x
    one_over op.Not t k x w = inverted_over d w x
    one_over op.Truncate t k x w = sliced_over d w x _ _
    one_over op.ZeroExtend t k x w = extended_over d w x _
    one_over op.SignExtend t k x w = sign_extended_over d w x _
    one_over op.FromInteger t k x w = from_integer_over t x w
    one_over op.Valid t k x w = joined_over d w _ x
    one_over op.IsValid t k x w = sliced_over d w x _ _
    one_over op.ValidValue t k x w = sliced_over d w x _ _
    one_over _ t k x w = record { seen = refl }

    single_over : (t k : Kind) (o : Op) (x : Value) (xs : List Value) (w : Work)
        → Into (at_heavier d) (operated.single s f t k o x xs (heavier d w)) (operated.single s f t k o x xs w)
    single_over t k op.Concat x xs w = together_over x xs w
    single_over t k o x [] w = one_over o t k x w
    single_over t k o x (y ∷ ys) w = two_over o k x y w

    not_built_over : (t k : Kind) (os : List Op) (x : Value) (xs : List Value) (w : Work)
        → Into (at_heavier d) (operated.not_built s f t k os x xs (heavier d w)) (operated.not_built s f t k os x xs w)
    not_built_over t k [] x xs w = record { seen = refl }
    not_built_over t k (o ∷ os) x xs w = single_over t k o x xs w

    pub applied_over : (t k : Kind) (os : List Op) (xs : List Value) (w : Work)
        → Into (at_heavier d) (operated.applied s f t k os xs (heavier d w)) (operated.applied s f t k os xs w)
    unfolding operated.applied
    applied_over t k os [] w = record { seen = refl }
    applied_over t k os (x ∷ xs) w = into_if (the_operators.builds os) (all_together_over _ w) (not_built_over t k os x xs w)

    pub literal_over : (k : Kind) (number : ℕ) (w : Work)
        → Into (at_heavier d) (carrying.literal s f k number (heavier d w)) (carrying.literal s f k number w)
    unfolding carrying.literal
    literal_over integer number w = into_if (nat_lt number 9223372036854775808) (record { seen = refl }) (record { seen = tt })
    literal_over k number w = record { seen = refl }
