-- What forms give is in order: literals, operators, choices and parts side by side.
use Rattle.std.proofs.Common.{◌≡◌, ◌∙◌, ℕ, ◌+◌, ◌*◌, ◌^◌, ◌<◌, ◌≤◌, suc, Bool, true, false, cond, List, [], ◌∷◌, ◌++◌, map, length, Option, Some, None, refl, sym, ap, ap₂, subst, arith}
use Rattle.std.specs.Prelude.{◌==◌, nat_lt, nat_le}
use Rattle.std.proofs.lemmas.Bool.{eqb-true, eq-eqb, ltb-true, lt-ltb, leb-true, and_parts, and_from}
use Rattle.std.proofs.lemmas.List.{length-map}
use Rattle.std.proofs.Math.Pow.{pow_pos}
use Rattle.std.proofs.lemmas.Option.{same_Some}
use Rattle.bsv_types.specs.declared.operators.Op.{Op}
use Rattle.bsv_types.specs.declared.operators.Op.TheVariants as op
use Rattle.bsv_types.specs.declared.expressions.Expr.{Expr}
use Rattle.bsv_types.specs.Kinds.{Kind, bit, uint, int, bool, integer, same_kind, is_number, has_family, is_amount}
use Rattle.bsv_types.specs.Shapes.{is_value, counted, widths_by, is_width, plus}
use Rattle.bsv_types.specs.Operators.{gives, is_kind, all_bit}
use Rattle.bsv_types.specs.Expressions.{World, Frame, typing, holds, all_of}
use Rattle.bsv_types.proofs.Counted.{widths_start, widths_turn, widths_done}
use Rattle.bsv_types.proofs.Same.{same_self}
use Rattle.bsv_context.specs.Env.{TypedExpr, wanted, literal, applied, chosen, beside, fits, fits_negated}
use Rattle.bsv_typing.specs.Operands.{Operand, Agreed, all_as, agree, agree_with_result}
use Rattle.bsv_typing.specs.Forms.{if_kind, if_true, number_case, sized_case, truth_case, number_op_case, bits_op_case, negated_case, amount, amounts, shift_case, order_case, equality_case, choice_case, joined, concat_case}
use Rattle.bsv_typing.specs.Laws.{Typed}
use Rattle.bsv_typing.proofs.Bound.{taken, tested, HasKind}
use Rattle.bsv_typing.proofs.Typings.{Each, value_typed, literal_typed, apply_typed, choice_typed}
use Rattle.bsv_typing.proofs.RightOperands.{strictly, alike, Formed, FormedAs, Good, EachGood, wanted_formed, AllOf, each_more, each_of, each_joined, all_as_right, agree_right, result_right}

if_kind_is : (test : Kind → Bool) (a : Agreed) (f : Kind → List Expr → Option TypedExpr) (m : TypedExpr) → if_kind test a f ≡ Some m →
    (r : Kind × List Expr) × (a ≡ Some r) × (test r.0 ≡ true) × (f r.0 r.1 ≡ Some m)
if_kind_is test None f m e = absurd cc
if_kind_is test (Some r) f m e = by (test r.0) refl e where
  by : (b : Bool) → test r.0 ≡ b → cond b (f r.0 r.1) None ≡ Some m → (q : Kind × List Expr) × (Some r ≡ Some q) × (test q.0 ≡ true) × (f q.0 q.1 ≡ Some m)
  by true is at = (r, refl, is, at)
  by false is at = absurd cc

-- types that a shift may shift by
abbrev pub AllAmounts : List Kind → Type 0
AllAmounts [] = Unit {0}
AllAmounts (k ∷ ks) = (is_amount k ≡ true) × AllAmounts ks

module _ (w : World) (frame : Frame) where
  -- ---- literals

  pub literal_formed : (k : Kind) (number : ℕ) → holds w.shapes k number ≡ true → Formed w frame (literal k number)
  literal_formed k number right value = literal_typed w frame k number value right

  half_below : (number n : ℕ) → 2 * number ≤ 2 ^ n → nat_lt number (2 ^ n) ≡ true
  half_below number n h = let some : 0 < 2 ^ n = pow_pos n in lt-ltb number (2 ^ n) (omega arith)

  fits_holds : (number : ℕ) (k : Kind) → fits (strictly w) number k ≡ true → holds w.shapes k number ≡ true
  unfolding fits
  fits_holds number (bit n) e = e
  fits_holds number (uint n) e = e
  fits_holds number (int n) e =
      let less : 2 * number < 2 ^ n = ltb-true (2 * number) (2 ^ n) e in
      half_below number n (omega arith)
  fits_holds number integer e = e
  fits_holds number _ e = absurd cc

  number_at : (number : ℕ) (k : Kind) (m : TypedExpr) → if_true (fits (strictly w) number k) (literal k number) ≡ Some m → Formed w frame m × (m.kind ≡ k)
  number_at number k m e =
      let h = tested (fits (strictly w) number k) (literal k number) m e in
      subst (λ z. Formed w frame z × (z.kind ≡ k)) h.1 (literal_formed k number (fits_holds number k h.0), refl)

  pub number_right : (number : ℕ) → FormedAs w frame (number_case (strictly w) number)
  unfolding number_case
  number_right number None m e = ((number_at number integer m e).0, tt)
  number_right number (Some k) m e = number_at number k m e

  pub sized_right : (size number : ℕ) → nat_lt number (2 ^ size) ≡ true → FormedAs w frame (sized_case size number)
  unfolding sized_case
  sized_right size number small (Some (uint n)) m e =
      let h = tested (size == n) (literal (uint n) number) m e in
      subst (λ z. Formed w frame z × (z.kind ≡ uint n)) h.1 (literal_formed (uint n) number (subst (λ k. nat_lt number (2 ^ k) ≡ true) (eqb-true size n h.0) small), refl)
  sized_right size number small (Some (int n)) m e =
      let h = tested (size == n) (literal (int n) number) m e in
      subst (λ z. Formed w frame z × (z.kind ≡ int n)) h.1 (literal_formed (int n) number (subst (λ k. nat_lt number (2 ^ k) ≡ true) (eqb-true size n h.0) small), refl)
  sized_right size number small want m e = wanted_formed w frame want (literal (bit size) number) m e (literal_formed (bit size) number small)

  fits_number : (number : ℕ) (k : Kind) → fits_negated (strictly w) number k ≡ true → (holds w.shapes k number ≡ true) × (is_number k ≡ true)
  unfolding fits_negated fits
  fits_number number (bit n) e = (e, refl)
  fits_number number (uint n) e = (e, refl)
  fits_number number (int n) e = (half_below number n (leb-true (2 * number) (2 ^ n) e), refl)
  fits_number number integer e = (e, refl)
  fits_number number _ e = absurd cc

  -- ---- operators

  pub applied_formed : (k : Kind) (os : List Op) (xs : List Expr) (ks : List Kind) → Each w frame xs ks → gives w.shapes os ks k ≡ true → Formed w frame (applied k os xs)
  applied_formed k os xs ks each right value = apply_typed w frame k os xs ks value each right

  pub one_typed : (m : TypedExpr) → Typed w frame m → Each w frame (m.expr ∷ []) (m.kind ∷ [])
  one_typed m h = each_more w frame m.expr [] m.kind [] h refl

  negated_at : (number : ℕ) (k : Kind) (m : TypedExpr) → if_true (fits_negated (strictly w) number k) (applied k (op.Negate ∷ []) ((literal k number).expr ∷ [])) ≡ Some m → Formed w frame m × (m.kind ≡ k)
  negated_at number k m e =
      let h = tested (fits_negated (strictly w) number k) (applied k (op.Negate ∷ []) ((literal k number).expr ∷ [])) m e in
      let f = fits_number number k h.0 in
      subst (λ z. Formed w frame z × (z.kind ≡ k)) h.1
      ((λ value. apply_typed w frame k (op.Negate ∷ []) ((literal k number).expr ∷ []) (k ∷ []) value (one_typed (literal k number) (literal_formed k number f.0 value)) (and_from (same_kind k k) (is_number k) (same_self k) f.1)), refl)

  pub negated_right : (number : ℕ) → FormedAs w frame (negated_case (strictly w) number)
  unfolding negated_case
  negated_right number None m e = ((negated_at number integer m e).0, tt)
  negated_right number (Some k) m e = negated_at number k m e

  -- the operators give this type from so many operands of one type that passes a test
  abbrev pub Give : List Op → ℕ → (Kind → Bool) → (Kind → Kind) → Type 0
  Give os count test result = (k : Kind) (ms : List Expr) → test k ≡ true → length ms ≡ count → gives w.shapes os (alike k ms) (result k) ≡ true

  agreed_formed : (test : Kind → Bool) (os : List Op) (xs : List Operand) → EachGood w frame xs → Give os (length xs) test (λ k. k) → (want : Option Kind) (m : TypedExpr) →
      if_kind test (agree_with_result xs want) (λ k ms. Some (applied k os ms)) ≡ Some m → Formed w frame m × HasKind want m.kind
  agreed_formed test os xs good give want m e =
      let h = if_kind_is test (agree_with_result xs want) (λ k ms. Some (applied k os ms)) m e in
      let r = h.0 in
      let a = result_right w frame xs want r good h.1 in
      subst (λ z. Formed w frame z × HasKind want z.kind) (same_Some (applied r.0 os r.1) m h.3)
      (applied_formed r.0 os r.1 (alike r.0 r.1) (each_of w frame r.0 r.1 a.0.0) (give r.0 r.1 h.2 a.0.1), a.1)

  pub number_op_right : (os : List Op) (xs : List Operand) → EachGood w frame xs → Give os (length xs) is_number (λ k. k) → FormedAs w frame (number_op_case os xs)
  unfolding number_op_case
  number_op_right os xs good give want m e = agreed_formed is_number os xs good give want m e

  pub bits_op_right : (os : List Op) (xs : List Operand) → EachGood w frame xs → Give os (length xs) has_family (λ k. k) → FormedAs w frame (bits_op_case os xs)
  unfolding bits_op_case
  bits_op_right os xs good give want m e = agreed_formed has_family os xs good give want m e

  pub truth_right : (os : List Op) (xs : List Operand) → EachGood w frame xs → ((ms : List Expr) → length ms ≡ length xs → gives w.shapes os (alike bool ms) bool ≡ true) → FormedAs w frame (truth_case os xs)
  unfolding truth_case
  truth_right os xs good give want m e =
      let t = taken (all_as bool xs) _ m e in
      let a = all_as_right w frame bool xs t.0 good t.1 in
      wanted_formed w frame want (applied bool os t.0) m t.2 (applied_formed bool os t.0 (alike bool t.0) (each_of w frame bool t.0 a.0) (give t.0 a.1))

  -- ---- shifts and comparisons

  either_typed : (x : Operand) (b : Bool) (m : TypedExpr) → Good w frame x → cond b (x.check (Some integer)) (x.check None) ≡ Some m → Typed w frame m
  either_typed x true m good e = (good (Some integer) m e).0
  either_typed x false m good e = (good None m e).0

  amount_right : (x : Operand) (y : Expr) → Good w frame x → amount x ≡ Some y → (k : Kind) × (typing w y frame ≡ Some k) × (is_amount k ≡ true)
  unfolding amount
  amount_right x y good e =
      let t = taken (cond x.is_open (x.check (Some integer)) (x.check None)) _ y e in
      let h = tested (is_amount t.0.kind) t.0.expr y t.2 in
      (t.0.kind, subst (λ z. typing w z frame ≡ Some t.0.kind) h.1 (either_typed x x.is_open t.0 good t.1), h.0)

  amounts_right : (xs : List Operand) (ms : List Expr) → EachGood w frame xs → amounts xs ≡ Some ms → (ks : List Kind) × Each w frame ms ks × AllAmounts ks × (length ks ≡ length xs)
  unfolding amounts
  amounts_right [] ms good e = subst (λ zs. (ks : List Kind) × Each w frame zs ks × AllAmounts ks × (length ks ≡ 0)) (same_Some [] ms e) ([], refl, tt, refl)
  amounts_right (x ∷ xs) ms good e =
      let t = taken (amount x) _ ms e in
      let r = taken (amounts xs) _ ms t.2 in
      let a = amount_right x t.0 good.0 t.1 in
      let more = amounts_right xs r.0 good.1 r.1 in
      subst (λ zs. (ks : List Kind) × Each w frame zs ks × AllAmounts ks × (length ks ≡ suc (length xs))) (same_Some (t.0 ∷ r.0) ms r.2)
      (a.0 ∷ more.0, each_more w frame t.0 r.0 a.0 more.0 a.1 more.1, (a.2, more.2), ap suc more.3)

  pub shift_right : (os : List Op) (x : Operand) (xs : List Operand) → Good w frame x → EachGood w frame xs →
      ((k : Kind) (ks : List Kind) → has_family k ≡ true → AllAmounts ks → length ks ≡ length xs → gives w.shapes os (k ∷ ks) k ≡ true) → FormedAs w frame (shift_case os (x ∷ xs))
  unfolding shift_case
  shift_right os x xs good_x good give want m e =
      let t = taken (x.check want) _ m e in
      let r = taken (amounts xs) _ m t.2 in
      let first = good_x want t.0 t.1 in
      let a = amounts_right xs r.0 good r.1 in
      let k = t.0.kind in
      let h = tested (has_family k) (applied k os (t.0.expr ∷ r.0)) m r.2 in
      subst (λ z. Formed w frame z × HasKind want z.kind) h.1
      (applied_formed k os (t.0.expr ∷ r.0) (k ∷ a.0) (each_more w frame t.0.expr r.0 k a.0 first.0 a.1) (give k a.0 h.0 a.2 a.3), first.1)

  pub order_right : (os : List Op) (x y : Operand) → EachGood w frame (x ∷ y ∷ []) → Give os 2 is_number (λ k. bool) → FormedAs w frame (order_case os (x ∷ y ∷ []))
  unfolding order_case
  order_right os x y good give want m e =
      let h = if_kind_is is_number (agree (x ∷ y ∷ [])) (λ k ms. wanted want (applied bool os ms)) m e in
      let r = h.0 in
      let a = agree_right w frame (x ∷ y ∷ []) r good h.1 in
      wanted_formed w frame want (applied bool os r.1) m h.3 (applied_formed bool os r.1 (alike r.0 r.1) (each_of w frame r.0 r.1 a.0) (give r.0 r.1 h.2 a.1))

  -- the type of two values
  value_of_two : (k : Kind) (ms : List Expr) → AllOf w frame k ms → length ms ≡ 2 → is_value w.shapes k ≡ true
  value_of_two k [] h e = absurd (omega arith)
  value_of_two k (m ∷ ms) h e = value_typed w frame m k h.0

  pub equality_right : (os : List Op) (x y : Operand) (zs : List Operand) → EachGood w frame (x ∷ y ∷ zs) →
      ((k : Kind) (ms bs : List Expr) → is_value w.shapes k ≡ true → length ms ≡ 2 → length bs ≡ length zs → gives w.shapes os (alike k ms ++ alike bool bs) bool ≡ true) →
      FormedAs w frame (equality_case os (x ∷ y ∷ zs))
  unfolding equality_case
  equality_right os x y zs good give want m e =
      let t = taken (agree (x ∷ y ∷ [])) _ m e in
      let b = taken (all_as bool zs) _ m t.2 in
      let r = t.0 in
      let a = agree_right w frame (x ∷ y ∷ []) r (good.0, (good.1.0, tt)) t.1 in
      let rest = all_as_right w frame bool zs b.0 good.1.1 b.1 in
      wanted_formed w frame want (applied bool os (r.1 ++ b.0)) m b.2
      (applied_formed bool os (r.1 ++ b.0) (alike r.0 r.1 ++ alike bool b.0) (each_joined w frame r.1 b.0 (alike r.0 r.1) (alike bool b.0) (each_of w frame r.0 r.1 a.0) (each_of w frame bool b.0 rest.0))
      (give r.0 r.1 b.0 (value_of_two r.0 r.1 a.0 a.1) a.1 rest.1))

  -- ---- choices, and parts side by side

  all_of_right : (k : Kind) (ms : List Expr) → AllOf w frame k ms → all_of k (map (typing w) ms) frame ≡ true
  all_of_right k [] h = refl
  all_of_right k (m ∷ ms) h = and_from (is_kind (typing w m frame) k) (all_of k (map (typing w) ms) frame) (subst (λ o. is_kind o k ≡ true) (sym h.0) (same_self k)) (all_of_right k ms h.1)

  pub choice_right : (cs xs : List Operand) → EachGood w frame cs → EachGood w frame xs → (length xs == length cs + 1) ≡ true → FormedAs w frame (choice_case cs xs)
  unfolding choice_case
  choice_right cs xs good_cs good count want m e =
      let t = taken (all_as bool cs) _ m e in
      let b = taken (agree_with_result xs want) _ m t.2 in
      let r = b.0 in
      let conditions = all_as_right w frame bool cs t.0 good_cs t.1 in
      let a = result_right w frame xs want r good b.1 in
      let many : length (map (typing w) r.1) ≡ length xs = length-map r.1 (typing w) ∙ a.0.1 in
      let tests : length (map (typing w) t.0) ≡ length cs = length-map t.0 (typing w) ∙ conditions.1 in
      let same = ap₂ (λ i j. i == j + 1) many tests ∙ count in
      let right = and_from _ _ (and_from _ _ same (all_of_right bool t.0 conditions.0)) (all_of_right r.0 r.1 a.0.0) in
      subst (λ z. Formed w frame z × HasKind want z.kind) (same_Some (chosen r.0 t.0 r.1) m b.2) ((λ value. choice_typed w frame r.0 t.0 r.1 value right), a.1)

  -- a Bit with values, beside others
  beside_is : (a : ℕ) (k j : Kind) → is_value w.shapes k ≡ true → beside (bit a) k ≡ Some j → (n : ℕ) × (k ≡ bit n) × (bit (counted (a + n)) ≡ j)
  beside_is a (bit n) j value e = (n, refl, same_Some (bit (counted (a + n))) j e)
  beside_is a _ j value e = absurd cc

  -- bits of these types, side by side, after so many others
  abbrev pub Joined : ℕ → Kind × List Expr → Type 0
  Joined a r = (n : ℕ) × (ks : List Kind) × (bit n ≡ r.0) × Each w frame r.1 ks × (all_bit ks ≡ true) × (plus (Some a) (widths_by w.shapes.enums w.shapes.structs ks) ≡ Some n)

  joined_right : (a : ℕ) (xs : List Operand) (r : Kind × List Expr) → a ≤ 4294967295 → EachGood w frame xs → joined (bit a) xs ≡ Some r → Joined a r
  unfolding joined
  joined_right a [] r few good e = subst (Joined a) (same_Some (bit a, []) r e) (a, [], refl, refl, refl, widths_done a few)
  joined_right a (x ∷ xs) r few good e =
      let t = taken (x.check None) _ r e in
      let b = taken (beside (bit a) t.0.kind) _ r t.2 in
      let q = taken (joined b.0 xs) _ r b.2 in
      let first = (good.0 None t.0 t.1).0 in
      let h = beside_is a t.0.kind b.0 (value_typed w frame t.0.expr t.0.kind first) b.1 in
      let small : counted (a + h.0) ≤ 4294967295 = omega arith in
      let more = joined_right (counted (a + h.0)) xs q.0 small good.1 (ap (λ k. joined k xs) h.2 ∙ q.1) in
      subst (Joined a) (same_Some (q.0.0, t.0.expr ∷ q.0.1) r q.2)
      (more.0, bit h.0 ∷ more.1, more.2, each_more w frame t.0.expr q.0.1 (bit h.0) more.1 (first ∙ ap Some h.1) more.3, more.4, widths_turn a h.0 (widths_by w.shapes.enums w.shapes.structs more.1) ∙ more.5)

  concat_gives : (ks : List Kind) (n : ℕ) → all_bit ks ≡ true → widths_by w.shapes.enums w.shapes.structs ks ≡ Some n → is_value w.shapes (bit n) ≡ true → gives w.shapes (op.Concat ∷ []) ks (bit n) ≡ true
  concat_gives [] n bits width value =
      let none : 0 ≡ n = same_Some 0 n width in
      let some : 1 ≤ n = leb-true 1 n (and_parts (nat_le 1 n) (nat_le n 128) value).0 in
      absurd (omega arith)
  concat_gives (k ∷ ks) n bits width value = and_from _ _ bits (subst (λ o. is_width o n ≡ true) (sym width) (eq-eqb n n refl))

  pub concat_right : (xs : List Operand) → EachGood w frame xs → FormedAs w frame (concat_case xs)
  unfolding concat_case
  concat_right xs good want m e =
      let t = taken (joined (bit 0) xs) _ m e in
      let r = t.0 in
      let few : 0 ≤ 4294967295 = omega arith in
      let j = joined_right 0 xs r few good t.1 in
      let width = sym (widths_start w.shapes.enums w.shapes.structs j.1) ∙ j.5 in
      wanted_formed w frame want (applied r.0 (op.Concat ∷ []) r.1) m t.2
      (subst (λ k. Formed w frame (applied k (op.Concat ∷ []) r.1)) j.2
      (λ value. apply_typed w frame (bit j.0) (op.Concat ∷ []) r.1 j.1 value j.3 (concat_gives j.1 j.0 j.4 width value)))
