-- What operators give is in order: those in front of an operand, and chains of one level.
use Rattle.std.proofs.Common.{◌≡◌, ◌∙◌, ℕ, ◌+◌, ◌<◌, suc, true, ◌&&◌, List, [], ◌∷◌, ◌++◌, map, length, Option, Some, None, refl, ap, arith}
use Rattle.std.specs.Prelude.{◌==◌, nat_lt}
use Rattle.std.specs.List.{list_all}
use Rattle.std.proofs.lemmas.Bool.{eqb-true, ltb-true, and_parts, and_from}
use Rattle.bsv_ast.specs.declared.expressions.Level.{Level}
use Rattle.bsv_ast.specs.declared.expressions.Level.TheVariants as level
use Rattle.bsv_ast.specs.declared.expressions.Operator.{Operator}
use Rattle.bsv_ast.specs.declared.expressions.Operator.TheVariants as sign
use Rattle.bsv_ast.specs.declared.expressions.UnaryOperator.{UnaryOperator}
use Rattle.bsv_ast.specs.declared.expressions.UnaryOperator.TheVariants as unary
use Rattle.bsv_types.specs.declared.operators.Op.{Op}
use Rattle.bsv_types.specs.declared.operators.Op.TheVariants as op
use Rattle.bsv_types.specs.declared.expressions.Expr.{Expr}
use Rattle.bsv_types.specs.Kinds.{Kind, bool, same_kind, has_family, is_number, is_amount}
use Rattle.bsv_types.specs.Shapes.{Shapes, is_value}
use Rattle.bsv_types.specs.Operators.{◌>>=◌, when, is_kind, between, chained, gives}
use Rattle.bsv_types.specs.Expressions.{World, Frame}
use Rattle.bsv_types.proofs.Same.{same_self}
use Rattle.bsv_typing.specs.Operands.{Operand, only_if}
use Rattle.bsv_typing.specs.Forms as forms
use Rattle.bsv_typing.specs.Typing.{operator, is_of_level, is_chain, chain_operand, negation, unary_operand}
use Rattle.bsv_typing.proofs.Bound.{checked}
use Rattle.bsv_typing.proofs.Typings.{when_true}
use Rattle.bsv_typing.proofs.RightOperands.{strictly, alike, FormedAs, Good, EachGood, ordered_good}
use Rattle.bsv_typing.proofs.RightForms.{AllAmounts, negated_right, number_op_right, bits_op_right, truth_right, shift_right, order_right, equality_right}

-- ---- what the operators of a level give

module _ (s : Shapes) where
  gives_chained : (x : Operator) (os : List Op) (k j : Kind) (ks : List Kind) (t : Kind) → gives s (operator x ∷ os) (k ∷ j ∷ ks) t ≡ is_kind (chained s k (operator x ∷ os) (j ∷ ks)) t
  gives_chained sign.Mul [] k j ks t = refl
  gives_chained sign.Mul (o ∷ os) k j ks t = refl
  gives_chained _ [] k j ks t = refl
  gives_chained _ (o ∷ os) k j ks t = refl

  first_gives : (x : Operator) (signs : List Operator) (k j r t : Kind) (ks : List Kind) → between s (operator x) k j ≡ Some r → chained s r (map operator signs) ks ≡ Some t → gives s (map operator (x ∷ signs)) (k ∷ j ∷ ks) t ≡ true
  first_gives x signs k j r t ks first rest =
      gives_chained x (map operator signs) k j ks t ∙ ap (λ o. is_kind (o >>= λ q. chained s q (map operator signs) ks) t) first ∙ ap (λ o. is_kind o t) rest ∙ same_self t

  -- an operator of the level gives the type of its operands
  abbrev Keeps : Level → Kind → Type 0
  Keeps l k = (x : Operator) → is_of_level l x ≡ true → between s (operator x) k k ≡ Some k

  kept : {A : Type 0} (l : Level) (k : Kind) → Keeps l k → (signs : List Operator) (ms : List A) → list_all (is_of_level l) signs ≡ true → length ms ≡ length signs → chained s k (map operator signs) (alike k ms) ≡ Some k
  kept l k keeps [] [] all many = refl
  kept l k keeps (x ∷ signs) (m ∷ ms) all many =
      let h = and_parts (is_of_level l x) (list_all (is_of_level l) signs) all in
      ap (λ o. o >>= λ r. chained s r (map operator signs) (alike k ms)) (keeps x h.0) ∙ kept l k keeps signs ms h.1 (omega arith)
  kept l k keeps [] (m ∷ ms) all many = absurd (omega arith)
  kept l k keeps (x ∷ signs) [] all many = absurd (omega arith)

  -- operators of a level, and so many operands
  record Chain (l : Level) (signs : List Operator) (count : ℕ) : Type 0 where
    all : list_all (is_of_level l) signs ≡ true
    some : 1 < count
    many : count ≡ length signs + 1

  chain_is : (l : Level) (signs : List Operator) (count : ℕ) → is_chain l signs count ≡ true → Chain l signs count
  unfolding is_chain
  chain_is l signs count e =
      let h = and_parts (list_all (is_of_level l) signs && nat_lt 1 count) (count == length signs + 1) e in
      let g = and_parts (list_all (is_of_level l) signs) (nat_lt 1 count) h.0 in
      record { all = g.0; some = ltb-true 1 count g.1; many = eqb-true count (length signs + 1) h.1 }

  chain_gives : (l : Level) (k : Kind) → Keeps l k → (signs : List Operator) (count : ℕ) → Chain l signs count → (ms : List Expr) → length ms ≡ count → gives s (map operator signs) (alike k ms) k ≡ true
  chain_gives l k keeps (x ∷ signs) count c (a ∷ b ∷ ms) is =
      let h = and_parts (is_of_level l x) (list_all (is_of_level l) signs) c.all in
      let many = c.many in
      first_gives x signs k k k k (alike k ms) (keeps x h.0) (kept l k keeps signs ms h.1 (omega arith))
  chain_gives l k keeps [] count c ms is = let some = c.some in let many = c.many in absurd (omega arith)
  chain_gives l k keeps (x ∷ signs) count c [] is = let some = c.some in absurd (omega arith)
  chain_gives l k keeps (x ∷ signs) count c (a ∷ []) is = let some = c.some in absurd (omega arith)

  same_number : (k r : Kind) → is_number k ≡ true → when (same_kind k k && is_number k) r ≡ Some r
  same_number k r number = when_true (same_kind k k && is_number k) r (and_from _ _ (same_self k) number)

  same_family : (k r : Kind) → has_family k ≡ true → when (same_kind k k && has_family k) r ≡ Some r
  same_family k r family = when_true (same_kind k k && has_family k) r (and_from _ _ (same_self k) family)

  product_keeps : (k : Kind) → is_number k ≡ true → Keeps level.Product k
  product_keeps k number sign.Mul e = same_number k k number
  product_keeps k number _ e = absurd cc

  sum_keeps : (k : Kind) → is_number k ≡ true → Keeps level.Sum k
  sum_keeps k number sign.Add e = same_number k k number
  sum_keeps k number sign.Sub e = same_number k k number
  sum_keeps k number _ e = absurd cc

  and_keeps : (k : Kind) → has_family k ≡ true → Keeps level.And k
  and_keeps k family sign.And e = same_family k k family
  and_keeps k family _ e = absurd cc

  xor_keeps : (k : Kind) → has_family k ≡ true → Keeps level.Xor k
  xor_keeps k family sign.Xor e = same_family k k family
  xor_keeps k family _ e = absurd cc

  or_keeps : (k : Kind) → has_family k ≡ true → Keeps level.Or k
  or_keeps k family sign.Or e = same_family k k family
  or_keeps k family _ e = absurd cc

  both_keeps : Keeps level.Both bool
  both_keeps sign.Both e = refl
  both_keeps _ e = absurd cc

  either_keeps : Keeps level.Either bool
  either_keeps sign.Either e = refl
  either_keeps _ e = absurd cc

  -- the others give another type, or take one
  shifted : (x : Operator) (k j : Kind) → is_of_level level.Shift x ≡ true → has_family k ≡ true → is_amount j ≡ true → between s (operator x) k j ≡ Some k
  shifted sign.Shl k j e family amount = when_true (has_family k && is_amount j) k (and_from _ _ family amount)
  shifted sign.Shr k j e family amount = when_true (has_family k && is_amount j) k (and_from _ _ family amount)
  shifted _ k j e family amount = absurd cc

  all_shifted : (k : Kind) (signs : List Operator) (ks : List Kind) → list_all (is_of_level level.Shift) signs ≡ true → has_family k ≡ true → AllAmounts ks → length ks ≡ length signs → chained s k (map operator signs) ks ≡ Some k
  all_shifted k [] [] all family amounts many = refl
  all_shifted k (x ∷ signs) (j ∷ ks) all family amounts many =
      let h = and_parts (is_of_level level.Shift x) (list_all (is_of_level level.Shift) signs) all in
      ap (λ o. o >>= λ r. chained s r (map operator signs) ks) (shifted x k j h.0 family amounts.0) ∙ all_shifted k signs ks h.1 family amounts.1 (omega arith)
  all_shifted k [] (j ∷ ks) all family amounts many = absurd (omega arith)
  all_shifted k (x ∷ signs) [] all family amounts many = absurd (omega arith)

  shift_gives : (k : Kind) (signs : List Operator) (count : ℕ) (ks : List Kind) → Chain level.Shift signs (suc count) → has_family k ≡ true → AllAmounts ks → length ks ≡ count → gives s (map operator signs) (k ∷ ks) k ≡ true
  shift_gives k (x ∷ signs) count (j ∷ ks) c family amounts is =
      let h = and_parts (is_of_level level.Shift x) (list_all (is_of_level level.Shift) signs) c.all in
      let many = c.many in
      first_gives x signs k j k k ks (shifted x k j h.0 family amounts.0) (all_shifted k signs ks h.1 family amounts.1 (omega arith))
  shift_gives k [] count ks c family amounts is = let some = c.some in let many = c.many in absurd (omega arith)
  shift_gives k (x ∷ signs) count [] c family amounts is = let some = c.some in absurd (omega arith)

  ordered : (x : Operator) (k : Kind) → is_of_level level.Order x ≡ true → is_number k ≡ true → between s (operator x) k k ≡ Some bool
  ordered sign.Less k e number = same_number k bool number
  ordered sign.LessOrSame k e number = same_number k bool number
  ordered sign.Greater k e number = same_number k bool number
  ordered sign.GreaterOrSame k e number = same_number k bool number
  ordered _ k e number = absurd cc

  order_gives : (k : Kind) (signs : List Operator) (ms : List Expr) → Chain level.Order signs 2 → is_number k ≡ true → length ms ≡ 2 → gives s (map operator signs) (alike k ms) bool ≡ true
  order_gives k (x ∷ []) (a ∷ b ∷ []) c number is = first_gives x [] k k bool bool [] (ordered x k (and_parts (is_of_level level.Order x) true c.all).0 number) refl
  order_gives k [] ms c number is = let many = c.many in absurd (omega arith)
  order_gives k (x ∷ y ∷ signs) ms c number is = let many = c.many in absurd (omega arith)
  order_gives k (x ∷ []) [] c number is = absurd (omega arith)
  order_gives k (x ∷ []) (a ∷ []) c number is = absurd (omega arith)
  order_gives k (x ∷ []) (a ∷ b ∷ d ∷ ms) c number is = absurd (omega arith)

  compared : (x : Operator) (k : Kind) → is_of_level level.Equality x ≡ true → is_value s k ≡ true → between s (operator x) k k ≡ Some bool
  compared sign.Same k e value = when_true (same_kind k k && is_value s k) bool (and_from _ _ (same_self k) value)
  compared sign.Different k e value = when_true (same_kind k k && is_value s k) bool (and_from _ _ (same_self k) value)
  compared _ k e value = absurd cc

  equality_gives : (k : Kind) (signs : List Operator) (count : ℕ) (ms bs : List Expr) → Chain level.Equality signs (suc (suc count)) → is_value s k ≡ true → length ms ≡ 2 → length bs ≡ count →
      gives s (map operator signs) (alike k ms ++ alike bool bs) bool ≡ true
  equality_gives k (x ∷ signs) count (a ∷ b ∷ []) bs c value two is =
      let h = and_parts (is_of_level level.Equality x) (list_all (is_of_level level.Equality) signs) c.all in
      let many = c.many in
      first_gives x signs k k bool bool (alike bool bs) (compared x k h.0 value) (kept level.Equality bool (λ y e. compared y bool e refl) signs bs h.1 (omega arith))
  equality_gives k [] count ms bs c value two is = let many = c.many in absurd (omega arith)
  equality_gives k (x ∷ signs) count [] bs c value two is = absurd (omega arith)
  equality_gives k (x ∷ signs) count (a ∷ []) bs c value two is = absurd (omega arith)
  equality_gives k (x ∷ signs) count (a ∷ b ∷ d ∷ ms) bs c value two is = absurd (omega arith)

-- ---- the forms

module _ (w : World) (frame : Frame) where
  number_chain : (l : Level) → ((k : Kind) → is_number k ≡ true → Keeps w.shapes l k) → (signs : List Operator) (xs : List Operand) → EachGood w frame xs → Chain w.shapes l signs (length xs) → FormedAs w frame (forms.number_op_case (map operator signs) xs)
  number_chain l keeps signs xs good c = number_op_right w frame (map operator signs) xs good (λ k ms number many. chain_gives w.shapes l k (keeps k number) signs (length xs) c ms many)

  bits_chain : (l : Level) → ((k : Kind) → has_family k ≡ true → Keeps w.shapes l k) → (signs : List Operator) (xs : List Operand) → EachGood w frame xs → Chain w.shapes l signs (length xs) → FormedAs w frame (forms.bits_op_case (map operator signs) xs)
  bits_chain l keeps signs xs good c = bits_op_right w frame (map operator signs) xs good (λ k ms family many. chain_gives w.shapes l k (keeps k family) signs (length xs) c ms many)

  truth_chain : (l : Level) → Keeps w.shapes l bool → (signs : List Operator) (xs : List Operand) → EachGood w frame xs → Chain w.shapes l signs (length xs) → FormedAs w frame (forms.truth_case (map operator signs) xs)
  truth_chain l keeps signs xs good c = truth_right w frame (map operator signs) xs good (λ ms many. chain_gives w.shapes l bool keeps signs (length xs) c ms many)

  shift_chain : (signs : List Operator) (xs : List Operand) → EachGood w frame xs → Chain w.shapes level.Shift signs (length xs) → FormedAs w frame (forms.shift_case (map operator signs) xs)
  shift_chain signs [] good c = let some = c.some in absurd (omega arith)
  shift_chain signs (x ∷ xs) good c = shift_right w frame (map operator signs) x xs good.0 good.1 (λ k ks family amounts many. shift_gives w.shapes k signs (length xs) ks c family amounts many)

  order_chain : (signs : List Operator) (xs : List Operand) → EachGood w frame xs → Chain w.shapes level.Order signs (length xs) → FormedAs w frame (forms.order_case (map operator signs) xs)
  unfolding forms.order_case
  order_chain signs (x ∷ y ∷ []) good c = order_right w frame (map operator signs) x y good (λ k ms number many. order_gives w.shapes k signs ms c number many)
  order_chain signs [] good c = λ want m e. absurd cc
  order_chain signs (x ∷ []) good c = λ want m e. absurd cc
  order_chain signs (x ∷ y ∷ z ∷ zs) good c = λ want m e. absurd cc

  equality_chain : (signs : List Operator) (xs : List Operand) → EachGood w frame xs → Chain w.shapes level.Equality signs (length xs) → FormedAs w frame (forms.equality_case (map operator signs) xs)
  equality_chain signs [] good c = let some = c.some in absurd (omega arith)
  equality_chain signs (x ∷ []) good c = let some = c.some in absurd (omega arith)
  equality_chain signs (x ∷ y ∷ zs) good c = equality_right w frame (map operator signs) x y zs good (λ k ms bs value two many. equality_gives w.shapes k signs (length zs) ms bs c value two many)

  chained_right : (l : Level) (signs : List Operator) (xs : List Operand) → EachGood w frame xs → Chain w.shapes l signs (length xs) → Good w frame (chain_operand (strictly w) l (map operator signs) xs)
  unfolding chain_operand
  chained_right level.Product signs xs good c = ordered_good w frame (forms.number_op_case (map operator signs) xs) (number_chain level.Product (product_keeps w.shapes) signs xs good c)
  chained_right level.Sum signs xs good c = ordered_good w frame (forms.number_op_case (map operator signs) xs) (number_chain level.Sum (sum_keeps w.shapes) signs xs good c)
  chained_right level.Shift signs xs good c = ordered_good w frame (forms.shift_case (map operator signs) xs) (shift_chain signs xs good c)
  chained_right level.Order signs xs good c = ordered_good w frame (forms.order_case (map operator signs) xs) (order_chain signs xs good c)
  chained_right level.Equality signs xs good c = ordered_good w frame (forms.equality_case (map operator signs) xs) (equality_chain signs xs good c)
  chained_right level.And signs xs good c = ordered_good w frame (forms.bits_op_case (map operator signs) xs) (bits_chain level.And (and_keeps w.shapes) signs xs good c)
  chained_right level.Xor signs xs good c = ordered_good w frame (forms.bits_op_case (map operator signs) xs) (bits_chain level.Xor (xor_keeps w.shapes) signs xs good c)
  chained_right level.Or signs xs good c = ordered_good w frame (forms.bits_op_case (map operator signs) xs) (bits_chain level.Or (or_keeps w.shapes) signs xs good c)
  chained_right level.Both signs xs good c = ordered_good w frame (forms.truth_case (map operator signs) xs) (truth_chain level.Both (both_keeps w.shapes) signs xs good c)
  chained_right level.Either signs xs good c = ordered_good w frame (forms.truth_case (map operator signs) xs) (truth_chain level.Either (either_keeps w.shapes) signs xs good c)

  pub chain_right : (l : Level) (signs : List Operator) (xs : List Operand) → EachGood w frame xs → Good w frame (only_if (is_chain l signs (length xs)) (chain_operand (strictly w) l (map operator signs) xs))
  chain_right l signs xs good want m e =
      let h = checked (is_chain l signs (length xs)) (chain_operand (strictly w) l (map operator signs) xs).check want m e in
      chained_right l signs xs good (chain_is w.shapes l signs (length xs) h.0) want m h.1

  not_gives : (ms : List Expr) → length ms ≡ 1 → gives w.shapes (op.Not ∷ []) (alike bool ms) bool ≡ true
  not_gives (a ∷ []) is = refl
  not_gives [] is = absurd (omega arith)
  not_gives (a ∷ b ∷ ms) is = absurd (omega arith)

  complement_gives : (k : Kind) (ms : List Expr) → has_family k ≡ true → length ms ≡ 1 → gives w.shapes (op.Complement ∷ []) (alike k ms) k ≡ true
  complement_gives k (a ∷ []) family is = and_from _ _ (same_self k) family
  complement_gives k [] family is = absurd (omega arith)
  complement_gives k (a ∷ b ∷ ms) family is = absurd (omega arith)

  negate_gives : (k : Kind) (ms : List Expr) → is_number k ≡ true → length ms ≡ 1 → gives w.shapes (op.Negate ∷ []) (alike k ms) k ≡ true
  negate_gives k (a ∷ []) number is = and_from _ _ (same_self k) number
  negate_gives k [] number is = absurd (omega arith)
  negate_gives k (a ∷ b ∷ ms) number is = absurd (omega arith)

  negation_right : (x : Operand) (number : Option ℕ) → Good w frame x → FormedAs w frame (negation (strictly w) x number)
  negation_right x (Some number) good = negated_right w frame number
  negation_right x None good = number_op_right w frame (op.Negate ∷ []) (x ∷ []) (good, tt) negate_gives

  pub unary_right : (o : UnaryOperator) (x : Operand) → Good w frame x → Good w frame (unary_operand (strictly w) o x)
  unfolding unary_operand
  unary_right unary.Not x good = ordered_good w frame (forms.truth_case (op.Not ∷ []) (x ∷ [])) (truth_right w frame (op.Not ∷ []) (x ∷ []) (good, tt) not_gives)
  unary_right unary.Complement x good = ordered_good w frame (forms.bits_op_case (op.Complement ∷ []) (x ∷ [])) (bits_op_right w frame (op.Complement ∷ []) (x ∷ []) (good, tt) complement_gives)
  unary_right unary.Negate x good = ordered_good w frame (negation (strictly w) x x.literal) (negation_right x x.literal good)
