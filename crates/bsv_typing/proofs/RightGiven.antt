-- What labels, values of Maybe and calls of functions give is in order.
use Rattle.std.proofs.Common.{◌≡◌, ◌∙◌, ℕ, ◌+◌, ◌^◌, Bool, true, false, cond, ◌&&◌, List, [], ◌∷◌, Option, Some, None, refl, sym, ap, subst}
use Rattle.std.specs.Prelude.{nat_lt, slice_get, codes}
use Rattle.std.specs.Str.{bytes_eq}
use Rattle.std.proofs.lemmas.Bool.{eq-eqb, and_parts, and_from}
use Rattle.std.proofs.lemmas.Option.{same_Some}
use Rattle.bsv_ast.specs.declared.text.Literal.{Literal}
use Rattle.bsv_types.specs.declared.operators.Op.{Op}
use Rattle.bsv_types.specs.declared.operators.Op.TheVariants as op
use Rattle.bsv_types.specs.declared.expressions.Expr.{Expr}
use Rattle.bsv_types.specs.Kinds.{Kind, bit, down, bool, enum, maybe, integer, has_family, no_wider}
use Rattle.bsv_types.specs.Shapes.{Shapes, is_value, has_bits, has_range, counted, plus, width_by, is_width}
use Rattle.bsv_types.specs.Operators.{◌>>=◌, gives, is_kind, when, chained, same_kinds, is_packed}
use Rattle.bsv_types.specs.Expressions.{World, Frame, typing, is_call, label_count}
use Rattle.bsv_types.proofs.Same.{same_self}
use Rattle.bsv_types.specs.GivenFunctions.{given_function}
use Rattle.bsv_types.specs.declared.given.GivenFunction.{GivenFunction}
use Rattle.bsv_types.specs.declared.given.GivenFunction.TheVariants as given
use Rattle.bsv_context.specs.Env.{TypedExpr, wanted, literal, applied, called, beside, packed}
use Rattle.bsv_typing.specs.Operands.{Operand}
use Rattle.bsv_typing.specs.Forms.{resized_case, no_narrower, pack_case, unpack_case, from_integer_case, valid_case, invalid_case, payload, is_valid_case, valid_value_case, from_maybe_case, arguments, function_case, sized_case}
use Rattle.bsv_typing.specs.Typing.{literal_case, label_case, one_case, two_case, given_case, call_case}
use Rattle.bsv_typing.proofs.Bound.{taken, tested, tested_step, checked, HasKind, wanted_is}
use Rattle.bsv_typing.proofs.Typings.{Each, value_typed, call_typed}
use Rattle.bsv_typing.proofs.RightOperands.{strictly, Formed, FormedAs, Good, EachGood, wanted_formed, each_more}
use Rattle.bsv_typing.proofs.RightForms.{literal_formed, number_right, sized_right, applied_formed}

payload_is : (k j : Kind) → payload k ≡ Some j → maybe j ≡ k
payload_is (maybe i) j e = cc
payload_is _ j e = absurd cc

-- a type of values that has a width has bits
bits_of : (s : Shapes) (k : Kind) (n : ℕ) → is_value s k ≡ true → width_by s.enums s.structs k ≡ Some n → has_bits s k ≡ true
bits_of s integer n value width = absurd cc
bits_of s _ n value width = value

pub bits_value : (s : Shapes) (k : Kind) → has_bits s k ≡ true → is_value s k ≡ true
bits_value s integer e = refl
bits_value s _ e = e

-- the Bit type of a type of values has its width
packed_is : (w : World) (k j : Kind) → is_value w.shapes k ≡ true → packed (strictly w) k ≡ Some j → (n : ℕ) × (bit n ≡ j) × (width_by w.shapes.enums w.shapes.structs k ≡ Some n)
packed_is w (down n) j value e = absurd cc
packed_is w (maybe k) j value e =
    let t = taken (packed (strictly w) k) (beside (bit 1)) j e in
    let held = bits_value w.shapes k (and_parts (has_bits w.shapes k) (has_range (width_by w.shapes.enums w.shapes.structs (maybe k))) value).0 in
    let h = packed_is w k t.0 held t.1 in
    (counted (1 + h.0), same_Some (bit (counted (1 + h.0))) j (ap (beside (bit 1)) h.1 ∙ t.2), ap (plus (Some 1)) h.2)
packed_is w k j value e =
    let t = taken (width_by w.shapes.enums w.shapes.structs k) (λ n. Some (bit n)) j e in
    (t.0, same_Some (bit t.0) j t.2, t.1)

packs : (w : World) (k j : Kind) → is_value w.shapes k ≡ true → packed (strictly w) k ≡ Some j → (has_bits w.shapes k && is_packed w.shapes k j) ≡ true
packs w k j value e =
    let h = packed_is w k j value e in
    and_from _ _ (bits_of w.shapes k h.0 value h.2) (subst (λ i. is_packed w.shapes k i ≡ true) h.1 (subst (λ o. is_width o h.0 ≡ true) (sym h.2) (eq-eqb h.0 h.0 refl)))

pub same_kinds_self : (ks : List Kind) → same_kinds ks ks ≡ true
same_kinds_self [] = refl
same_kinds_self (k ∷ ks) = and_from _ _ (same_self k) (same_kinds_self ks)

module _ (w : World) (frame : Frame) where
  -- ---- literals and labels

  pub literal_right : (number : Literal) → FormedAs w frame (literal_case (strictly w) number)
  unfolding literal_case
  literal_right number want m e = by number.size refl where
    by : (o : Option ℕ) → number.size ≡ o → Formed w frame m × HasKind want m.kind
    by None is = number_right w frame number.value want m (rw is at e)
    by (Some size) is =
        let h = checked (nat_lt number.value (2 ^ size)) (sized_case size number.value) want m (rw is at e) in
        sized_right w frame size number.value h.0 want m h.1

  -- the label, if there is one, is one of its enum
  abbrev pub LabelRight : Option (ℕ × ℕ) → Type 0
  LabelRight label = (l : ℕ × ℕ) → label ≡ Some l → nat_lt l.1 (label_count (slice_get w.shapes.enums l.0)) ≡ true

  pub label_right : (label : Option (ℕ × ℕ)) (name : List ℕ) → LabelRight label → FormedAs w frame (label_case label name)
  unfolding label_case
  label_right label name right want m e = by (bytes_eq name (codes "True")) (bytes_eq name (codes "False")) e where
    by : (a b : Bool) → cond a (wanted want (literal bool 1)) (cond b (wanted want (literal bool 0)) (label >>= λ l. wanted want (literal (enum l.0) l.1))) ≡ Some m → Formed w frame m × HasKind want m.kind
    by true b at = wanted_formed w frame want (literal bool 1) m at (literal_formed w frame bool 1 refl)
    by false true at = wanted_formed w frame want (literal bool 0) m at (literal_formed w frame bool 0 refl)
    by false false at =
        let t = taken label _ m at in
        wanted_formed w frame want (literal (enum t.0.0) t.0.1) m t.2 (literal_formed w frame (enum t.0.0) t.0.1 (right t.0 t.1))

  -- ---- values of Maybe

  as_kind : (x : Operand) (k : Kind) (m : TypedExpr) → Good w frame x → x.check (Some k) ≡ Some m → typing w m.expr frame ≡ Some k
  as_kind x k m good e = let h = good (Some k) m e in h.0 ∙ ap Some h.1

  -- an operator on one operand of this type
  one_formed : (k j : Kind) (o : Op) (x : Expr) → typing w x frame ≡ Some j → gives w.shapes (o ∷ []) (j ∷ []) k ≡ true → Formed w frame (applied k (o ∷ []) (x ∷ []))
  one_formed k j o x h right = applied_formed w frame k (o ∷ []) (x ∷ []) (j ∷ []) (each_more w frame x [] j [] h refl) right

  pub valid_right : (x : Operand) → Good w frame x → FormedAs w frame (valid_case (strictly w) x)
  unfolding valid_case
  valid_right x good (Some (maybe k)) m e =
      let t = taken (x.check (Some k)) _ m e in
      subst (λ z. Formed w frame z × (z.kind ≡ maybe k)) (same_Some _ m t.2) (one_formed (maybe k) k op.Valid t.0.expr (as_kind x k t.0 good t.1) (same_self k), refl)
  valid_right x good None m e =
      let t = taken (x.check None) _ m e in
      let n = taken (packed (strictly w) t.0.kind) _ m t.2 in
      subst (λ z. Formed w frame z × HasKind None z.kind) (same_Some _ m n.2) (one_formed (maybe t.0.kind) t.0.kind op.Valid t.0.expr (good None t.0 t.1).0 (same_self t.0.kind), tt)
  valid_right x good _ m e = absurd cc

  pub invalid_right : FormedAs w frame invalid_case
  unfolding invalid_case
  invalid_right (Some (maybe k)) m e = subst (λ z. Formed w frame z × (z.kind ≡ maybe k)) (same_Some _ m e) (applied_formed w frame (maybe k) (op.Invalid ∷ []) [] [] refl refl, refl)
  invalid_right _ m e = absurd cc

  is_valid_right : (x : Operand) → Good w frame x → FormedAs w frame (is_valid_case x)
  unfolding is_valid_case
  is_valid_right x good want m e =
      let t = taken (x.check None) _ m e in
      let p = taken (payload t.0.kind) _ m t.2 in
      let typed = (good None t.0 t.1).0 ∙ ap Some (sym (payload_is t.0.kind p.0 p.1)) in
      wanted_formed w frame want _ m p.2 (one_formed bool (maybe p.0) op.IsValid t.0.expr typed refl)

  valid_value_right : (x : Operand) → Good w frame x → FormedAs w frame (valid_value_case x)
  unfolding valid_value_case
  valid_value_right x good want m e =
      let t = taken (x.check None) _ m e in
      let p = taken (payload t.0.kind) _ m t.2 in
      let typed = (good None t.0 t.1).0 ∙ ap Some (sym (payload_is t.0.kind p.0 p.1)) in
      wanted_formed w frame want _ m p.2 (one_formed p.0 (maybe p.0) op.ValidValue t.0.expr typed (same_self p.0))

  from_maybe_gives : (k : Kind) → gives w.shapes (op.FromMaybe ∷ []) (k ∷ maybe k ∷ []) k ≡ true
  from_maybe_gives k = subst (λ b. is_kind (when b k >>= λ r. chained w.shapes r [] []) k ≡ true) (sym (same_self k)) (same_self k)

  from_maybe_right : (d x : Operand) → Good w frame d → Good w frame x → FormedAs w frame (from_maybe_case d x)
  unfolding from_maybe_case
  from_maybe_right d x good_d good want m e =
      let t = taken (x.check None) _ m e in
      let p = taken (payload t.0.kind) _ m t.2 in
      let k = p.0 in
      let b = taken (d.check (Some k)) _ m p.2 in
      let typed = (good None t.0 t.1).0 ∙ ap Some (sym (payload_is t.0.kind k p.1)) in
      wanted_formed w frame want (applied k (op.FromMaybe ∷ []) (b.0.expr ∷ t.0.expr ∷ [])) m b.2
      (applied_formed w frame k (op.FromMaybe ∷ []) (b.0.expr ∷ t.0.expr ∷ []) (k ∷ maybe k ∷ []) (each_more w frame b.0.expr (t.0.expr ∷ []) k (maybe k ∷ []) (as_kind d k b.0 good_d b.1) (each_more w frame t.0.expr [] (maybe k) [] typed refl))
      (from_maybe_gives k))

  -- ---- from one type to another

  resized_right : (o : Op) (p : Kind → Kind → Bool) (x : Operand) → Good w frame x → ((j k : Kind) → p j k ≡ true → gives w.shapes (o ∷ []) (j ∷ []) k ≡ true) → FormedAs w frame (resized_case o p x)
  unfolding resized_case
  resized_right o p x good give None m e = absurd cc
  resized_right o p x good give (Some k) m e =
      let t = taken (x.check None) _ m e in
      let h = tested (p t.0.kind k) (applied k (o ∷ []) (t.0.expr ∷ [])) m t.2 in
      subst (λ z. Formed w frame z × (z.kind ≡ k)) h.1 (one_formed k t.0.kind o t.0.expr (good None t.0 t.1).0 (give t.0.kind k h.0), refl)

  pack_right : (x : Operand) → Good w frame x → FormedAs w frame (pack_case (strictly w) x)
  unfolding pack_case
  pack_right x good want m e =
      let t = taken (x.check None) _ m e in
      let b = taken (packed (strictly w) t.0.kind) _ m t.2 in
      let typed = (good None t.0 t.1).0 in
      wanted_formed w frame want _ m b.2 (one_formed b.0 t.0.kind op.Pack t.0.expr typed (packs w t.0.kind b.0 (value_typed w frame t.0.expr t.0.kind typed) b.1))

  unpack_right : (x : Operand) → Good w frame x → FormedAs w frame (unpack_case (strictly w) x)
  unfolding unpack_case
  unpack_right x good None m e = absurd cc
  unpack_right x good (Some k) m e =
      let b = taken (packed (strictly w) k) _ m e in
      let t = taken (x.check (Some b.0)) _ m b.2 in
      subst (λ z. Formed w frame z × (z.kind ≡ k)) (same_Some _ m t.2)
      ((λ value. one_formed k b.0 op.Unpack t.0.expr (as_kind x b.0 t.0 good t.1) (packs w k b.0 value b.1) value), refl)

  from_integer_right : (x : Operand) → Good w frame x → FormedAs w frame (from_integer_case x)
  unfolding from_integer_case
  from_integer_right x good None m e = absurd cc
  from_integer_right x good (Some k) m e =
      let h = tested_step (has_family k) (x.check (Some integer) >>= λ t. Some (applied k (op.FromInteger ∷ []) (t.expr ∷ []))) m e in
      let t = taken (x.check (Some integer)) _ m h.1 in
      subst (λ z. Formed w frame z × (z.kind ≡ k)) (same_Some _ m t.2) (one_formed k integer op.FromInteger t.0.expr (as_kind x integer t.0 good t.1) h.0, refl)

  -- ---- calls

  pub arguments_right : (ks : List Kind) (xs : List Operand) (ms : List Expr) → EachGood w frame xs → arguments ks xs ≡ Some ms → Each w frame ms ks
  unfolding arguments
  arguments_right [] [] ms good e = subst (λ zs. Each w frame zs []) (same_Some [] ms e) refl
  arguments_right (k ∷ ks) (x ∷ xs) ms good e =
      let t = taken (x.check (Some k)) _ ms e in
      let r = taken (arguments ks xs) _ ms t.2 in
      subst (λ zs. Each w frame zs (k ∷ ks)) (same_Some (t.0.expr ∷ r.0) ms r.2) (each_more w frame t.0.expr r.0 k ks (as_kind x k t.0 good.0 t.1) (arguments_right ks xs r.0 good.1 r.1))
  arguments_right [] (x ∷ xs) ms good e = absurd cc
  arguments_right (k ∷ ks) [] ms good e = absurd cc

  -- the function, if there is one, is that of its number
  abbrev pub FunctionRight : Option (ℕ × List Kind × Kind) → Type 0
  FunctionRight function = (f : ℕ × List Kind × Kind) → function ≡ Some f → (slice_get w.functions f.0 ≡ Some (f.1, f.2)) × (is_value w.shapes f.2 ≡ true)

  called_formed : (f : ℕ × List Kind × Kind) (ms : List Expr) → slice_get w.functions f.0 ≡ Some (f.1, f.2) → Each w frame ms f.1 → Formed w frame (called f.2 f.0 ms)
  called_formed f ms is each value = call_typed w frame f.2 f.0 ms f.1 value each (subst (λ o. is_call o f.1 f.2 ≡ true) (sym is) (and_from _ _ (same_kinds_self f.1) (same_self f.2)))

  -- its result has a type of values
  pub function_typed : (function : Option (ℕ × List Kind × Kind)) (xs : List Operand) (want : Option Kind) (m : TypedExpr) → FunctionRight function → EachGood w frame xs → function_case function xs want ≡ Some m →
      Formed w frame m × HasKind want m.kind × (is_value w.shapes m.kind ≡ true)
  unfolding function_case
  function_typed function xs want m right good e =
      let t = taken function _ m e in
      let f = t.0 in
      let r = taken (arguments f.1 xs) _ m t.2 in
      let h = right f t.1 in
      let g = wanted_formed w frame want (called f.2 f.0 r.0) m r.2 (called_formed f r.0 h.0 (arguments_right f.1 xs r.0 good r.1)) in
      (g.0, g.1, subst (λ z. is_value w.shapes z.kind ≡ true) (wanted_is want (called f.2 f.0 r.0) m r.2).0 h.1)

  one_right : (f : GivenFunction) (x : Operand) → Good w frame x → FormedAs w frame (one_case (strictly w) f x)
  unfolding one_case
  one_right given.Truncate x good = resized_right op.Truncate no_narrower x good (λ j k e. e)
  one_right given.ZeroExtend x good = resized_right op.ZeroExtend no_wider x good (λ j k e. e)
  one_right given.SignExtend x good = resized_right op.SignExtend no_wider x good (λ j k e. e)
  one_right given.Unpack x good = unpack_right x good
  one_right given.FromInteger x good = from_integer_right x good
  one_right given.Pack x good = pack_right x good
  one_right given.IsValid x good = is_valid_right x good
  one_right given.ValidValue x good = valid_value_right x good
  one_right given.FromMaybe x good = λ want m e. absurd cc

  two_right : (f : GivenFunction) (d x : Operand) → Good w frame d → Good w frame x → FormedAs w frame (two_case f d x)
  unfolding two_case
  two_right given.FromMaybe d x good_d good = from_maybe_right d x good_d good
  two_right _ d x good_d good = λ want m e. absurd cc

  given_right : (f : GivenFunction) (xs : List Operand) → EachGood w frame xs → FormedAs w frame (given_case (strictly w) f xs)
  unfolding given_case
  given_right f (x ∷ []) good = one_right f x good.0
  given_right f (x ∷ y ∷ []) good = two_right f x y good.0 good.1.0
  given_right f [] good = λ want m e. absurd cc
  given_right f (x ∷ y ∷ z ∷ zs) good = λ want m e. absurd cc

  pub call_right : (function : Option (ℕ × List Kind × Kind)) (name : List ℕ) (xs : List Operand) → FunctionRight function → EachGood w frame xs → FormedAs w frame (call_case (strictly w) function name xs)
  unfolding call_case
  call_right function name xs right good want m e = by (given_function name) refl where
    by : (o : Option GivenFunction) → given_function name ≡ o → Formed w frame m × HasKind want m.kind
    by None is = let h = function_typed function xs want m right good (rw is at e) in (h.0, h.1)
    by (Some f) is = given_right f xs good want m (rw is at e)
