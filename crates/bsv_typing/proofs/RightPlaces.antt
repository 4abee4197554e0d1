-- What names and suffixes give is in order.
use Rattle.std.proofs.Common.{◌≡◌, ◌∙◌, ℕ, ◌+◌, ◌-◌, ◌<◌, ◌≤◌, suc, Bool, true, false, cond, ◌&&◌, List, [], ◌∷◌, Option, Some, None, refl, sym, ap, subst, arith}
use Rattle.std.specs.Prelude.{nat_lt, nat_le, slice_get, codes}
use Rattle.std.specs.Str.{bytes_eq}
use Rattle.std.proofs.lemmas.Bool.{ltb-true, leb-true, and_parts, and_from}
use Rattle.std.proofs.lemmas.Option.{same_Some}
use Rattle.bsv_lemmas.proofs.Truths.{from_or_false}
use Rattle.bsv_types.specs.declared.types.PartTy.TheVariants as part_type
use Rattle.bsv_types.specs.Kinds.{Kind, bit, bool, integer, interface, part, bare, is_interface}
use Rattle.bsv_types.specs.Shapes.{Shapes, is_value, is_instance, has_bits, counted}
use Rattle.bsv_types.specs.Operators.{slice_kind}
use Rattle.bsv_types.specs.Methods.{Signature, Effect, value, action, action_value, methods}
use Rattle.bsv_types.specs.Expressions.{one, World, Frame, place_typing, many_at, is_value_call, gives_value, method_at}
use Rattle.bsv_types.proofs.Same.{same_self}
use Rattle.bsv_context.specs.Env.{TypedExpr, below, in_order}
use Rattle.bsv_typing.specs.Operands.{Operand}
use Rattle.bsv_typing.specs.Forms.{arguments}
use Rattle.bsv_context.specs.Methods.{method_from, method_named, value_of}
use Rattle.bsv_typing.specs.Places.{Instance, Front, whole, instance, array, place_of, call_of, method_call, is_read, read, value_at, slice_type, slice_fits}
use Rattle.bsv_typing.specs.Typing.{ordered_front}
use Rattle.bsv_typing.specs.Laws.{Typed, slot_right}
use Rattle.bsv_typing.proofs.Bound.{taken, tested_step}
use Rattle.bsv_typing.proofs.Typings.{when_true, method_typed}
use Rattle.bsv_typing.proofs.RightOperands.{strictly, Formed, EachGood, ordered_typed}
use Rattle.bsv_typing.proofs.RightGiven.{bits_value, arguments_right, same_kinds_self}

-- ---- methods

method_from_is : (n : ℕ) (name : List ℕ) (ms : List Signature) (q : ℕ × Signature) → method_from n name ms ≡ Some q → (i : ℕ) × (q.0 ≡ n + i) × (slice_get ms i ≡ Some q.1)
method_from_is n name [] q e = absurd cc
method_from_is n name (m ∷ ms) q e = by (bytes_eq name m.name) (method_from_is (n + 1) name ms q) e where
  by : (b : Bool) → (method_from (n + 1) name ms ≡ Some q → (i : ℕ) × (q.0 ≡ n + 1 + i) × (slice_get ms i ≡ Some q.1)) →
      cond b (Some (n, m)) (method_from (n + 1) name ms) ≡ Some q → (i : ℕ) × (q.0 ≡ n + i) × (slice_get (m ∷ ms) i ≡ Some q.1)
  by true later at =
      let is = same_Some (n, m) q at in
      let first : n ≡ n + 0 = omega arith in
      (0, sym (ap (λ (r : ℕ × Signature). r.0) is) ∙ first, ap (λ (r : ℕ × Signature). Some r.1) is)
  by false later at =
      let more = later at in
      let next : n + 1 + more.0 ≡ n + suc more.0 = omega arith in
      (suc more.0, more.1 ∙ next, more.2)

-- the method that has the name is that of its number
pub method_is : (w : World) (k : Kind) (name : List ℕ) (q : ℕ × Signature) → method_named (strictly w) k name ≡ Some q → slice_get (methods w.shapes k) q.0 ≡ Some q.1
unfolding method_named
method_is w k name q e =
    let h = method_from_is 0 name (methods w.shapes k) q e in
    let first : 0 + h.0 ≡ h.0 = omega arith in
    ap (slice_get (methods w.shapes k)) (h.1 ∙ first) ∙ h.2

value_of_is : (e : Effect) (k : Kind) → value_of e ≡ Some k → value k ≡ e
value_of_is (value j) k is = ap value (sym (same_Some j k is))
value_of_is action k is = absurd cc
value_of_is (action_value j) k is = absurd cc

-- what is read of an instance in order has a type of values
read_value : (w : World) (k j : Kind) (q : ℕ × Signature) → is_read k ≡ true → is_instance w.shapes k ≡ true → method_named (strictly w) k (codes "_read") ≡ Some q → value_of q.1.effect ≡ Some j → is_value w.shapes j ≡ true
unfolding method_named
read_value w (part part_type.Reg k) j q reads right named gives =
    let is = ap (λ (r : ℕ × Signature). value_of r.1.effect) (same_Some _ q named) ∙ gives in
    subst (λ i. is_value w.shapes i ≡ true) (same_Some k j is) (bits_value w.shapes k right)
read_value w (part part_type.Wire k) j q reads right named gives =
    let is = ap (λ (r : ℕ × Signature). value_of r.1.effect) (same_Some _ q named) ∙ gives in
    subst (λ i. is_value w.shapes i ≡ true) (same_Some k j is) (bits_value w.shapes k right)
read_value w (bare part_type.PulseWire) j q reads right named gives =
    let is = ap (λ (r : ℕ × Signature). value_of r.1.effect) (same_Some _ q named) ∙ gives in
    subst (λ i. is_value w.shapes i ≡ true) (same_Some bool j is) refl
read_value w _ j q reads right named gives = absurd cc

-- ---- slots

pub instance_slot : (s : Shapes) (k : Kind) → is_interface k ≡ true → slot_right s (one k) ≡ true → is_instance s k ≡ true
instance_slot s (interface n) face right = right
instance_slot s (part p k) face right = right
instance_slot s (bare p) face right = right
instance_slot s _ face right = absurd cc

pub value_slot : (s : Shapes) (k : Kind) → is_interface k ≡ false → slot_right s (one k) ≡ true → is_value s k ≡ true
value_slot s (interface n) face right = absurd cc
value_slot s (part p k) face right = absurd cc
value_slot s (bare p) face right = absurd cc
value_slot s integer face right = refl
value_slot s k face right = from_or_false _ right

-- ---- the bits of a slice

pub slice_right : (w : World) (n h l : ℕ) → is_value w.shapes (bit n) ≡ true → slice_fits (strictly w) h l (bit n) ≡ true → slice_kind (counted h) (counted l) (bit n) ≡ Some (slice_type h l)
slice_right w n h l range fits =
    let few : n ≤ 128 = leb-true n 128 (and_parts (nat_le 1 n) (nat_le n 128) range).1 in
    let order = (and_parts (nat_le l h) (nat_lt h n) fits).0 in
    let low : l ≤ h = leb-true l h order in
    let high : h < n = ltb-true h n (and_parts (nat_le l h) (nat_lt h n) fits).1 in
    let same_h : counted h ≡ h = omega arith in
    let same_l : counted l ≡ l = omega arith in
    let wide : counted (h - l + 1) ≡ h - l + 1 = omega arith in
    let width = ap (λ b. cond b (bit (counted (h - l + 1))) (below (counted (l - h - 1)))) order ∙ ap bit wide in
    subst (λ i. slice_kind i (counted l) (bit n) ≡ Some (slice_type h l)) (sym same_h)
    (subst (λ i. slice_kind h i (bit n) ≡ Some (slice_type h l)) (sym same_l) (when_true (nat_le l h && nat_lt h n) (bit (h - l + 1)) fits ∙ ap Some (sym width)))

module _ (w : World) (frame : Frame) where
  -- an instance that is there
  abbrev pub GoodInstance : Instance → Type 0
  GoodInstance i = (place_typing w (place_of i) frame ≡ Some i.kind) × (is_instance w.shapes i.kind ≡ true)

  abbrev pub GoodFront : Front → Type 0
  GoodFront (whole m) = Typed w frame m
  GoodFront (instance i) = GoodInstance i
  GoodFront (array level k) = (many_at frame level ≡ Some k) × (is_instance w.shapes k ≡ true)

  -- the same, where a typed expression may have a type out of order
  abbrev pub FormedFront : Front → Type 0
  FormedFront (whole m) = Formed w frame m
  FormedFront (instance i) = GoodInstance i
  FormedFront (array level k) = (many_at frame level ≡ Some k) × (is_instance w.shapes k ≡ true)

  pub front_ordered : (o : Option Front) (f : Front) → ((g : Front) → o ≡ Some g → FormedFront g) → ordered_front (strictly w) o ≡ Some f → GoodFront f
  front_ordered None f formed e = absurd cc
  front_ordered (Some (whole m)) f formed e =
      let t = taken (in_order (strictly w) m) _ f e in
      subst GoodFront (same_Some (whole t.0) f t.2) (ordered_typed w frame m t.0 (formed (whole m) refl) t.1).0
  front_ordered (Some (instance i)) f formed e = subst GoodFront (same_Some (instance i) f e) (formed (instance i) refl)
  front_ordered (Some (array level k)) f formed e = subst GoodFront (same_Some (array level k) f e) (formed (array level k) refl)

  -- ---- calls and reads

  pub call_formed : (i : Instance) (q : ℕ × Signature) (xs : List Operand) (m : TypedExpr) → GoodInstance i → slice_get (methods w.shapes i.kind) q.0 ≡ Some q.1 → EachGood w frame xs → call_of i q xs ≡ Some m → Formed w frame m
  unfolding call_of
  call_formed i q xs m here is good e =
      let v = taken (value_of q.1.effect) _ m e in
      let k = v.0 in
      let a = taken (arguments q.1.params xs) _ m v.2 in
      let gives = ap (λ f. gives_value f k) (sym (value_of_is q.1.effect k v.1)) ∙ same_self k in
      let found = ap (λ o. method_at w.shapes o q.0) here.0 ∙ is in
      let called = ap (λ o. is_value_call o q.1.params k) found ∙ and_from _ _ (same_kinds_self q.1.params) gives in
      subst (Formed w frame) (same_Some (method_call i q.0 k a.0) m a.2)
      (λ right. method_typed w frame k (place_of i) q.0 a.0 q.1.params right (arguments_right w frame q.1.params xs a.0 good a.1) called)

  pub read_typed : (i : Instance) (m : TypedExpr) → GoodInstance i → read (strictly w) i ≡ Some m → Typed w frame m
  unfolding read call_of
  read_typed i m here e =
      let h = tested_step (is_read i.kind) _ m e in
      let q = taken (method_named (strictly w) i.kind (codes "_read")) _ m h.1 in
      let v = taken (value_of q.0.1.effect) _ m q.2 in
      let a = taken (arguments q.0.1.params []) _ m v.2 in
      let right = read_value w i.kind v.0 q.0 h.0 here.1 q.1 v.1 in
      call_formed i q.0 [] m here (method_is w i.kind (codes "_read") q.0 q.1) tt q.2 (subst (λ z. is_value w.shapes z.kind ≡ true) (same_Some (method_call i q.0.0 v.0 a.0) m a.2) right)

  pub value_at_typed : (f : Front) (m : TypedExpr) → GoodFront f → value_at (strictly w) f ≡ Some m → Typed w frame m
  unfolding value_at
  value_at_typed (whole t) m good e = subst (Typed w frame) (same_Some t m e) good
  value_at_typed (instance i) m good e = read_typed i m good e
  value_at_typed (array level k) m good e = absurd cc
