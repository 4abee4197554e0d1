-- Names, and suffixes after what is in order, give what is in order.
use Rattle.std.proofs.Common.{◌≡◌, ◌∙◌, ℕ, Bool, true, false, cond, ◌&&◌, List, [], ◌∷◌, Option, Some, None, refl, sym, ap, subst}
use Rattle.std.specs.Prelude.{slice_get}
use Rattle.std.proofs.lemmas.Option.{same_Some as some_is}
use Rattle.std.proofs.lemmas.Bool.{and_from}
use Rattle.bsv_types.specs.declared.operators.Op.TheVariants as op
use Rattle.bsv_types.specs.declared.expressions.Expr.{Expr, Variable}
use Rattle.bsv_types.specs.declared.expressions.Place.{fold-roll-Place}
use Rattle.bsv_types.specs.Kinds.{Kind, bit, integer, is_bit, is_interface, type_of}
use Rattle.bsv_types.specs.Shapes.{counted}
use Rattle.bsv_types.specs.Operators.{◌>>=◌, is_kind, suffixed}
use Rattle.bsv_types.specs.Methods.{Signature, methods}
use Rattle.bsv_types.specs.Expressions.{Slot, one, many, World, Frame, Typing, typing, place_typing, expr_step, place_step, place_at, one_at, many_at}
use Rattle.bsv_types.proofs.Same.{same_self}
use Rattle.bsv_context.specs.Env.{TypedExpr}
use Rattle.bsv_typing.specs.Operands.{Operand}
use Rattle.bsv_typing.specs.Forms.{field_named, function_case}
use Rattle.bsv_context.specs.Methods.{method_named}
use Rattle.bsv_context.specs.Suffixes.{with_suffix}
use Rattle.bsv_typing.specs.Places.{Instance, Front, whole, instance, array, place_of, call_of, read, value_at, variable_front, name_front, field_of, member_after, method_after, bit_of, index_after, slice_type, slice_fits, bits_of, slice_after}
use Rattle.bsv_typing.specs.Typing.{Suffixed, all_after, front_case}
use Rattle.bsv_typing.specs.Laws.{Typed, slot_right}
use Rattle.bsv_typing.proofs.Bound.{taken, tested_step}
use Rattle.bsv_typing.proofs.Typings.{when_true, value_typed, variable_typed}
use Rattle.bsv_typing.proofs.RightOperands.{strictly, FormedAs, Good, EachGood, wanted_formed, each_more}
use Rattle.bsv_typing.proofs.RightStructs.{field_is}
use Rattle.bsv_typing.proofs.RightGiven.{FunctionRight, function_typed}
use Rattle.bsv_typing.proofs.Suffixes.{suffix_formed}
use Rattle.bsv_typing.proofs.RightPlaces.{method_is, instance_slot, value_slot, slice_right, GoodInstance, GoodFront, FormedFront, call_formed, read_typed, value_at_typed}

module _ (w : World) (frame : Frame) where
  -- ---- names

  pub place_one : (level : ℕ) (k : Kind) → one_at frame level ≡ Some k → place_typing w (place_of (record { level = level; index = None; kind = k })) frame ≡ Some k
  place_one level k here = ap (λ f. f frame) (fold-roll-Place Typing Typing (expr_step w) (place_step w) (record { level = level; index = None })) ∙ here

  pub place_each : (level : ℕ) (i : Expr) (k : Kind) → typing w i frame ≡ Some integer → many_at frame level ≡ Some k → place_typing w (place_of (record { level = level; index = Some i; kind = k })) frame ≡ Some k
  place_each level i k index here =
      ap (λ f. f frame) (fold-roll-Place Typing Typing (expr_step w) (place_step w) (record { level = level; index = Some i })) ∙
      ap (λ (o : Option Kind). place_at level (Some (λ f. o)) frame) index ∙ here

  -- the variable, if there is one, is that of its level
  abbrev pub VariableRight : Option (ℕ × Slot) → Type 0
  VariableRight variable = (v : ℕ × Slot) → variable ≡ Some v → (slice_get frame v.0 ≡ Some v.1) × (slot_right w.shapes v.1 ≡ true)

  pub many_is : (level : ℕ) (k : Kind) → slice_get frame level ≡ Some (many k) → many_at frame level ≡ Some k
  many_is level k here = rw here

  pub one_is : (level : ℕ) (k : Kind) → slice_get frame level ≡ Some (one k) → one_at frame level ≡ Some k
  one_is level k here = rw here

  variable_good : (level : ℕ) (s : Slot) → slice_get frame level ≡ Some s → slot_right w.shapes s ≡ true → GoodFront w frame (variable_front level s)
  variable_good level (many k) here right = (many_is level k here, right)
  variable_good level (one k) here right = by (is_interface k) refl where
    by : (b : Bool) → is_interface k ≡ b → GoodFront w frame (cond b (instance (record { level = level; index = None; kind = k })) (whole (record { kind = k; expr = Variable (type_of k) level })))
    by true face = (place_one level k (one_is level k here), instance_slot w.shapes k face right)
    by false face = variable_typed w frame k level (value_slot w.shapes k face right) (ap (λ o. is_kind o k) (one_is level k here) ∙ same_self k)

  pub name_good : (variable : Option (ℕ × Slot)) (function : Option (ℕ × List Kind × Kind)) (f : Front) → VariableRight variable → FunctionRight w frame function → name_front variable function ≡ Some f → GoodFront w frame f
  unfolding name_front
  name_good (Some v) function f right called e =
      let h = right v refl in
      subst (GoodFront w frame) (some_is (variable_front v.0 v.1) f e) (variable_good v.0 v.1 h.0 h.1)
  name_good None function f right called e =
      let t = taken (function_case function [] None) _ f e in
      let h = function_typed w frame function [] None t.0 called tt t.1 in
      subst (GoodFront w frame) (some_is (whole t.0) f t.2) (h.0 h.2)

  -- ---- suffixes

  field_formed : (name : List ℕ) (m : TypedExpr) (f : Front) → Typed w frame m → field_of (strictly w) name m ≡ Some f → FormedFront w frame f
  unfolding field_of
  field_formed name m f typed e =
      let q = taken (field_named (strictly w) m.kind name) _ f e in
      subst (FormedFront w frame) (some_is (whole (with_suffix q.0.1 (op.Field q.0.0) [] m.expr)) f q.2)
      (suffix_formed w frame q.0.1 (op.Field q.0.0) [] [] m refl typed refl (ap (λ o. o >>= λ r. Some r) (field_is w m.kind name q.0 q.1)))

  called_formed : (i : Instance) (q : ℕ × Signature) (xs : List Operand) (f : Front) → GoodInstance w frame i → slice_get (methods w.shapes i.kind) q.0 ≡ Some q.1 → EachGood w frame xs → (call_of i q xs >>= λ x. Some (whole x)) ≡ Some f → FormedFront w frame f
  called_formed i q xs f here is good e =
      let t = taken (call_of i q xs) _ f e in
      subst (FormedFront w frame) (some_is (whole t.0) f t.2) (call_formed w frame i q xs t.0 here is good t.1)

  pub member_formed : (name : List ℕ) (f g : Front) → GoodFront w frame f → member_after (strictly w) name f ≡ Some g → FormedFront w frame g
  unfolding member_after
  member_formed name (instance i) g good e = by (method_named (strictly w) i.kind name) refl where
    by : (o : Option (ℕ × Signature)) → method_named (strictly w) i.kind name ≡ o → FormedFront w frame g
    by (Some q) is = called_formed i q [] g good (method_is w i.kind name q is) tt (rw is at e)
    by None is =
        let t = taken (read (strictly w) i) (field_of (strictly w) name) g (rw is at e) in
        field_formed name t.0 g (read_typed w frame i t.0 good t.1) t.2
  member_formed name (whole m) g good e = field_formed name m g good e
  member_formed name (array level k) g good e = absurd cc

  pub method_formed : (name : List ℕ) (xs : List Operand) (f g : Front) → EachGood w frame xs → GoodFront w frame f → method_after (strictly w) name xs f ≡ Some g → FormedFront w frame g
  unfolding method_after
  method_formed name xs (instance i) g good_xs good e =
      let q = taken (method_named (strictly w) i.kind name) _ g e in
      called_formed i q.0 xs g good (method_is w i.kind name q.0 q.1) good_xs q.2
  method_formed name xs _ g good_xs good e = absurd cc

  bit_formed : (x : Operand) (m : TypedExpr) (g : Front) → Good w frame x → Typed w frame m → bit_of x m ≡ Some g → FormedFront w frame g
  unfolding bit_of
  bit_formed x m g good typed e =
      let b = tested_step (is_bit m.kind) (x.check (Some integer) >>= λ i. Some (whole (with_suffix (bit 1) op.Index (i.expr ∷ []) m.expr))) g e in
      let t = taken (x.check (Some integer)) _ g b.1 in
      let h = good (Some integer) t.0 t.1 in
      subst (FormedFront w frame) (some_is (whole (with_suffix (bit 1) op.Index (t.0.expr ∷ []) m.expr)) g t.2)
      (suffix_formed w frame (bit 1) op.Index (t.0.expr ∷ []) (integer ∷ []) m refl typed (each_more w frame t.0.expr [] integer [] (h.0 ∙ ap Some h.1) refl)
      (ap (λ o. o >>= λ r. Some r) (when_true (is_bit m.kind && true) (bit 1) (and_from (is_bit m.kind) true b.0 refl))))

  -- an index after what has a value
  value_index : (x : Operand) (f g : Front) → Good w frame x → GoodFront w frame f → (value_at (strictly w) f >>= bit_of x) ≡ Some g → FormedFront w frame g
  value_index x f g good good_f e =
      let t = taken (value_at (strictly w) f) (bit_of x) g e in
      bit_formed x t.0 g good (value_at_typed w frame f t.0 good_f t.1) t.2

  pub index_formed : (x : Operand) (f g : Front) → Good w frame x → GoodFront w frame f → index_after (strictly w) x f ≡ Some g → FormedFront w frame g
  unfolding index_after
  index_formed x (array level k) g good here e =
      let t = taken (x.check (Some integer)) _ g e in
      let h = good (Some integer) t.0 t.1 in
      subst (FormedFront w frame) (some_is (instance (record { level = level; index = Some t.0.expr; kind = k })) g t.2)
      (place_each level t.0.expr k (h.0 ∙ ap Some h.1) here.0, here.1)
  index_formed x (whole m) g good here e = value_index x (whole m) g good here e
  index_formed x (instance i) g good here e = value_index x (instance i) g good here e

  bits_formed : (h l : ℕ) (m : TypedExpr) (g : Front) → Typed w frame m → bits_of (strictly w) h l m ≡ Some g → FormedFront w frame g
  unfolding bits_of
  bits_formed h l m g typed e = by m.kind refl where
    by : (k : Kind) → m.kind ≡ k → FormedFront w frame g
    by (bit n) is =
        let part = with_suffix (slice_type h l) (op.Slice (counted h) (counted l)) [] m.expr in
        let t = tested_step (slice_fits (strictly w) h l (bit n)) (Some (whole part)) g (rw is at e) in
        let bits = slice_right w n h l (value_typed w frame m.expr (bit n) (typed ∙ ap Some is)) t.0 in
        subst (FormedFront w frame) (some_is (whole part) g t.1)
        (suffix_formed w frame (slice_type h l) (op.Slice (counted h) (counted l)) [] [] m refl typed refl
        (subst (λ k. suffixed w.shapes k (op.Slice (counted h) (counted l) ∷ []) [] ≡ Some (slice_type h l)) (sym is) (ap (λ o. o >>= λ r. Some r) bits)))
    by _ is = let none = rw is at e in absurd cc

  pub slice_formed : (high low : Option ℕ) (f g : Front) → GoodFront w frame f → slice_after (strictly w) high low f ≡ Some g → FormedFront w frame g
  unfolding slice_after
  slice_formed high low f g good e =
      let h = taken high _ g e in
      let l = taken low _ g h.2 in
      let t = taken (value_at (strictly w) f) _ g l.2 in
      bits_formed h.0 l.0 t.0 g (value_at_typed w frame f t.0 good t.1) t.2

  -- ---- one after the other

  abbrev pub SuffixGood : Suffixed → Type 0
  SuffixGood x = (f g : Front) → GoodFront w frame f → x f ≡ Some g → GoodFront w frame g

  abbrev pub EachSuffix : List Suffixed → Type 0
  EachSuffix [] = Unit {0}
  EachSuffix (x ∷ xs) = SuffixGood x × EachSuffix xs

  pub after_good : (xs : List Suffixed) (f g : Front) → EachSuffix xs → GoodFront w frame f → all_after xs f ≡ Some g → GoodFront w frame g
  after_good [] f g good here e = subst (GoodFront w frame) (some_is f g e) here
  after_good (x ∷ xs) f g good here e =
      let t = taken (x f) (all_after xs) g e in
      after_good xs t.0 g good.1 (good.0 f t.0 here t.1) t.2

  pub front_formed : (o : Option Front) → ((f : Front) → o ≡ Some f → GoodFront w frame f) → FormedAs w frame (front_case (strictly w) o)
  front_formed o good want m e =
      let f = taken o _ m e in
      let t = taken (value_at (strictly w) f.0) _ m f.2 in
      let typed = value_at_typed w frame f.0 t.0 (good f.0 f.1) t.1 in
      wanted_formed w frame want t.0 m t.2 (λ value. typed)
