-- Loops and cases give the same over later instances, and from less weight.
use Rattle.std.proofs.Common.{ℕ, zero, suc, Bool, false, ◌&&◌, List, [], ◌∷◌, Option, Some, None, Ok, refl}
use Rattle.std.specs.Prelude.{not}
use Rattle.bsv_types.specs.declared.operators.Op.TheVariants as op
use Rattle.bsv_types.specs.declared.statements.Head.{Head}
use Rattle.bsv_types.specs.Kinds.{integer}
use Rattle.bsv_tree.specs.declared.tree.Instance.{Instance}
use Rattle.bsv_tree.specs.declared.values.Constant.TheVariants as constant
use Rattle.bsv_tree.specs.declared.values.Count.{Count}
use Rattle.bsv_tree.specs.declared.values.Local.{Local}
use Rattle.bsv_tree.specs.declared.values.Pending.{Pending}
use Rattle.bsv_tree.specs.declared.values.Value.{Value}
use Rattle.bsv_tree.specs.declared.values.Value.TheVariants as value
use Rattle.bsv_tree.specs.declared.values.Work.{Work}
use Rattle.bsv_tree.specs.tree.Contexts.{Context, place_in_body}
use Rattle.bsv_tree.specs.carrying.Calls.{Caller, static_fault}
use Rattle.bsv_tree.specs.carrying.Frames.{untouched}
use Rattle.bsv_tree.specs.carrying.Values.{is_static, is_true}
use Rattle.bsv_tree.specs.carrying.Working.{no_steps, at_count}
use Rattle.bsv_tree.specs.carrying.Carrying as carrying
use Rattle.bsv_tree.specs.carrying.Carrying.{Carry, Acts, Labelled}
use Rattle.bsv_carry.proofs.StaysAccepted.SideBySide.{Into, into_then, into_if, raised, heavier, at_raised, at_heavier, both_heavier, between_over}
use Rattle.bsv_carry.proofs.StaysAccepted.Operators.{two_over}
use Rattle.bsv_carry.proofs.StaysAccepted.Arms.{close_over}
use Rattle.bsv_carry.specs.StaysAccepted.{Grows, over}
use Rattle.bsv_carry.proofs.StaysAccepted.Instances.{CarryInto, ActsInto, LabelledInto, EachCarry, EachLabelled, CallsInto}
use Rattle.bsv_carry.proofs.StaysAccepted.Expressions.{expr_into}
use Rattle.bsv_carry.proofs.StaysAccepted.Branches.{inside_into}

module _ (d : ℕ) where
  turn_into : (x y : Carry) → CarryInto d x y → (at : ℕ) (a b : Acts) → ActsInto d a b → ActsInto d (carrying.turn x at a) (carrying.turn y at b)
  unfolding carrying.turn
  turn_into x y next at a b h vs w = into_then _ _ (inside_into d a b h vs w) (λ r. into_then _ _ (next r.0 r.1) (λ x. record { seen = refl }))

  either_into : (found : Option Value) (x : Value) (w : Work)
      → Into (at_heavier d) (carrying.either found x (heavier d w)) (carrying.either found x w)
  either_into None x w = record { seen = refl }
  either_into (Some y) x w = between_over d w _ y x

module _ (d : ℕ) (is : List Instance) (call next : Caller) (s : Context) where
  abbrev t : Context
  t = over s is

  -- ---- loops

  decided_into : (x : Value) (w : Work) (vs : List Local) (c : Count)
      → Into (at_raised d) (carrying.goes_on call s (λ vs u. Ok (x, heavier d w)) vs (raised d c)) (carrying.goes_on next t (λ vs u. Ok (x, w)) vs c)
  unfolding carrying.goes_on
  decided_into (value.Static k) w vs c = record { seen = refl }
  decided_into (value.Open a) w vs c = record { seen = tt }

  goes_on_into : (x y : Carry) → CarryInto d x y → (vs : List Local) (c : Count)
      → Into (at_raised d) (carrying.goes_on call s x vs (raised d c)) (carrying.goes_on next t y vs c)
  unfolding carrying.goes_on
  goes_on_into x y h vs c = into_then _ _ (h vs (no_steps c)) (λ r. decided_into r.0 r.1 vs c)

  turns_into : (n : ℕ) (x y : Carry) → CarryInto d x y → (p q : Carry) → CarryInto d p q → (at : ℕ) (a b : Acts) → ActsInto d a b
      → ActsInto d (carrying.turns call s n x p at a) (carrying.turns next t n y q at b)
  unfolding carrying.turns
  turns_into zero x y test p q step at a b h vs w =
      into_then _ _ (goes_on_into x y test vs w.count) (λ r. into_if r.0 (record { seen = tt }) (record { seen = refl }))
  turns_into (suc n) x y test p q step at a b h vs w =
      into_then _ _ (goes_on_into x y test vs w.count) (λ r. into_if r.0
      (into_then _ _ (turn_into d p q step at a b h vs (at_count w r.1)) (λ u. turns_into n x y test p q step at a b h u.0 u.1))
      (record { seen = refl }))

  -- ---- `case`

  same_as_into : (x y : Value) (w : Work) → Into (at_heavier d) (carrying.same_as call s x y (heavier d w)) (carrying.same_as next t x y w)
  same_as_into (value.Static (constant.Number m)) (value.Static (constant.Number n)) w =
      two_over d s.shapes (static_fault s) op.Same integer (value.Static (constant.Number m)) (value.Static (constant.Number n)) w
  same_as_into x y w = between_over d w _ x y

  label_into : (x : Value) (found : Option Value) (l m : Carry) → CarryInto d l m
      → CarryInto d (carrying.label call s x found l) (carrying.label next t x found m)
  unfolding carrying.label
  label_into x found l m h vs w =
      into_then _ _ (h vs w) (λ r. into_if (is_static r.0) (into_then _ _ (same_as_into x r.0 r.1) (λ same. either_into d found same.0 same.1))
      (record { seen = tt }))

  labels_from_into : (x : Value) (found : Option Value) (ls ms : List Carry) → EachCarry d ls ms
      → CarryInto d (carrying.labels_from call s x found ls) (carrying.labels_from next t x found ms)
  unfolding carrying.labels_from
  labels_from_into x found [] [] h vs w = record { seen = refl }
  labels_from_into x found (l ∷ ls) (m ∷ ms) h vs w =
      into_then _ _ (label_into x found l m h.0 vs w) (λ any. labels_from_into x (Some any.0) ls ms h.1 vs any.1)
  labels_from_into x found [] (m ∷ ms) h vs w = absurd h
  labels_from_into x found (l ∷ ls) [] h vs w = absurd h

  labels_into : (x : Value) (ls ms : List Carry) → EachCarry d ls ms → (vs : List Local) (c : Count)
      → Into (at_heavier d) (carrying.labels call s x ls vs (raised d c)) (carrying.labels next t x ms vs c)
  unfolding carrying.labels
  labels_into x ls ms h vs c = labels_from_into x None ls ms h vs (no_steps c)

  static_arm_into : (x : Value) (taken : Bool) (a b : Labelled) → LabelledInto d a b → (vs : List Local) (w : Work)
      → Into (both_heavier d) (carrying.static_arm call s x taken a vs (heavier d w)) (carrying.static_arm next t x taken b vs w)
  unfolding carrying.static_arm
  static_arm_into x taken a b h vs w =
      into_then _ _ (labels_into x a.labels b.labels h.labels vs w.count) (λ test. into_if (not taken && is_true test.0)
      (into_then _ _ (inside_into d a.arm b.arm h.arm vs (at_count w (carrying.after_arm w.count test.1.count))) (λ r. record { seen = refl })) (record { seen = refl }))

  static_case_into : (x : Value) (taken : Bool) (xs ys : List Labelled) → EachLabelled d xs ys → (a b : Acts) → ActsInto d a b
      → ActsInto d (carrying.static_case call s x taken xs a) (carrying.static_case next t x taken ys b)
  unfolding carrying.static_case
  static_case_into x taken [] [] h a b last vs w = into_if taken (record { seen = refl }) (last vs w)
  static_case_into x taken (l ∷ xs) (m ∷ ys) h a b last vs w =
      into_then _ _ (static_arm_into x taken l m h.0 vs w) (λ r. static_case_into x r.0 xs ys h.1 a b last r.1 r.2)
  static_case_into x taken [] (m ∷ ys) h a b last vs w = absurd h
  static_case_into x taken (l ∷ xs) [] h a b last vs w = absurd h

  open_arm_into : (x : Value) (ps : List Pending) (a b : Labelled) → LabelledInto d a b → (vs : List Local) (c : Count)
      → Into (at_raised d) (carrying.open_arm call s x ps a vs (raised d c)) (carrying.open_arm next t x ps b vs c)
  unfolding carrying.open_arm
  open_arm_into x ps a b h vs c =
      into_then _ _ (labels_into x a.labels b.labels h.labels vs c)
      (λ test. into_then _ _ (inside_into d a.arm b.arm h.arm (untouched vs) (no_steps test.1.count)) (λ r. record { seen = refl }))

  open_case_into : (x : Value) (w : Work) (ps : List Pending) (xs ys : List Labelled) → EachLabelled d xs ys → (a b : Acts) → ActsInto d a b
      → (vs : List Local) (c : Count)
      → Into (at_heavier d) (carrying.open_case call s x (heavier d w) ps xs a vs (raised d c)) (carrying.open_case next t x w ps ys b vs c)
  unfolding carrying.open_case
  open_case_into x w ps [] [] h a b last vs c = into_then _ _ (last (untouched vs) (no_steps c)) (λ r. close_over d vs w ps r.0 r.1)
  open_case_into x w ps (l ∷ xs) (m ∷ ys) h a b last vs c =
      into_then _ _ (open_arm_into x ps l m h.0 vs c) (λ r. open_case_into x w r.0 xs ys h.1 a b last vs r.1)
  open_case_into x w ps [] (m ∷ ys) h a b last vs c = absurd h
  open_case_into x w ps (l ∷ xs) [] h a b last vs c = absurd h

  pub cases_into : (x y : Carry) → CarryInto d x y → (xs ys : List Labelled) → EachLabelled d xs ys → (a b : Acts) → ActsInto d a b
      → ActsInto d (carrying.cases call s x xs a) (carrying.cases next t y ys b)
  unfolding carrying.cases
  cases_into x y subject xs ys h a b last vs w =
      into_then _ _ (subject vs w) (λ r. into_if (is_static r.0) (static_case_into r.0 false xs ys h a b last vs r.1)
      (open_case_into r.0 r.1 [] xs ys h a b last vs r.1.count))

  module _ (grows : Grows s.instances is) (into : CallsInto d is call next) where
    turns_of_into : (h : Head) (a b : Acts) → ActsInto d a b → ActsInto d (carrying.turns_of call s h a) (carrying.turns_of next t h b)
    unfolding carrying.most_turns
    turns_of_into h a b same vs w =
        turns_into 4096 (carrying.expr call s h.condition) (carrying.expr next t h.condition)
        (expr_into d is call next s grows into h.condition).carry
        (carrying.expr call s h.step) (carrying.expr next t h.step) (expr_into d is call next s grows into h.step).carry
        (place_in_body s h.stepped) a b same vs w

    pub loop_into : (h : Head) (a b : Acts) → ActsInto d a b → ActsInto d (carrying.loop_of call s h a) (carrying.loop_of next t h b)
    unfolding carrying.loop_of
    loop_into h a b same vs w =
        into_then _ _ ((expr_into d is call next s grows into h.first).carry vs w)
        (λ r. into_then _ _ (turns_of_into h a b same _ r.1) (λ x. record { seen = refl }))
