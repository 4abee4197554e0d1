-- When an expression of the typed tree is in order, form by form.
use Rattle.std.proofs.Common.{◌≡◌, ◌∙◌, ℕ, Bool, true, false, ◌&&◌, List, map, Some, None, refl, sym, ap, subst}
use Rattle.std.specs.Prelude.{slice_get}
use Rattle.std.proofs.lemmas.Bool.{and_parts, and_from}
use Rattle.std.proofs.lemmas.Option.{same_Some}
use Rattle.bsv_types.specs.declared.types.Ty.{Ty}
use Rattle.bsv_types.specs.declared.types.Ty.TheOpen.{Ty-F}
use Rattle.bsv_types.specs.declared.operators.Op.{Op}
use Rattle.bsv_types.specs.declared.expressions.Expr.{Expr, Literal, Variable, Apply, Call, Method, Choice, fold-roll-Expr, fold_out-Expr, map-Expr, out-Expr}
use Rattle.bsv_types.specs.declared.expressions.Expr.TheOpen.{Expr-F}
use Rattle.bsv_types.specs.declared.expressions.Expr.TheViews.{rolls-Literal, rolls-Variable, rolls-Apply, rolls-Call, rolls-Method, rolls-Choice}
use Rattle.bsv_types.specs.declared.expressions.Place.{Place}
use Rattle.bsv_types.specs.Kinds.{Kind, bit, down, uint, int, bool, enum, struct, maybe, integer, interface, part, bare, kind, type_of}
use Rattle.bsv_types.specs.Shapes.{is_value}
use Rattle.bsv_types.specs.Operators.{when, gives, is_kind}
use Rattle.bsv_types.specs.Expressions.{World, Frame, Typing, typing, place_typing, expr_step, place_step, expr_right, carried, holds, one_at, all_typed, is_typed, is_call, method_at, is_value_call}
use Rattle.bsv_types.proofs.Exact.{rolled}

pub kind_back : (k : Kind) → kind (type_of k) ≡ k
kind_back (bit n) = rolled (Ty-F.Bit n)
kind_back (down n) = rolled (Ty-F.Down n)
kind_back (uint n) = rolled (Ty-F.UInt n)
kind_back (int n) = rolled (Ty-F.Int n)
kind_back bool = rolled Ty-F.Bool
kind_back (enum n) = rolled (Ty-F.Enum n)
kind_back (struct n) = rolled (Ty-F.Struct n)
kind_back (maybe k) = rolled (Ty-F.Maybe (type_of k)) ∙ ap maybe (kind_back k)
kind_back integer = rolled Ty-F.Integer
kind_back (interface n) = rolled (Ty-F.Interface n)
kind_back (part p k) = rolled (Ty-F.Part p (Some (type_of k))) ∙ ap (part p) (kind_back k)
kind_back (bare p) = rolled (Ty-F.Part p None)

pub when_true : (b : Bool) (k : Kind) → b ≡ true → when b k ≡ Some k
when_true true k e = refl
when_true false k e = absurd cc

pub when_is : (b : Bool) (j k : Kind) → when b j ≡ Some k → (b ≡ true) × (j ≡ k)
when_is true j k e = (refl, same_Some j k e)
when_is false j k e = absurd cc

module _ (w : World) (frame : Frame) where
  stepped : (y : Expr-F Typing Typing) (k : Kind) → carried y ≡ k → is_value w.shapes k ≡ true → expr_right w y frame k ≡ true → expr_step w y frame ≡ Some k
  stepped y k e value right = subst (λ j. when (is_value w.shapes j && expr_right w y frame j) j ≡ Some k) (sym e) (when_true (is_value w.shapes k && expr_right w y frame k) k (and_from (is_value w.shapes k) (expr_right w y frame k) value right))

  stepped_value : (y : Expr-F Typing Typing) (k : Kind) → expr_step w y frame ≡ Some k → is_value w.shapes k ≡ true
  stepped_value y k e =
      let h = when_is (is_value w.shapes (carried y) && expr_right w y frame (carried y)) (carried y) k e in
      subst (λ j. is_value w.shapes j ≡ true) h.1 (and_parts (is_value w.shapes (carried y)) (expr_right w y frame (carried y)) h.0).0

  stepped_right : (y : Expr-F Typing Typing) (k : Kind) → expr_step w y frame ≡ Some k → expr_right w y frame k ≡ true
  stepped_right y k e =
      let h = when_is (is_value w.shapes (carried y) && expr_right w y frame (carried y)) (carried y) k e in
      subst (λ j. expr_right w y frame j ≡ true) h.1 (and_parts (is_value w.shapes (carried y)) (expr_right w y frame (carried y)) h.0).1

  -- a typed expression has a type of values
  pub value_typed : (e : Expr) (k : Kind) → typing w e frame ≡ Some k → is_value w.shapes k ≡ true
  value_typed e k h =
      let f = fold_out-Expr Typing Typing (expr_step w) (place_step w) e in
      stepped_value (map-Expr Expr Place Typing Typing (typing w) (place_typing w) (out-Expr e)) k (sym (ap (λ t. t frame) f) ∙ h)

  pub literal_typed : (k : Kind) (number : ℕ) → is_value w.shapes k ≡ true → holds w.shapes k number ≡ true → typing w (Literal (type_of k) number) frame ≡ Some k
  literal_typed k number value right =
      ap (λ x. typing w x frame) (sym (rolls-Literal (type_of k) number)) ∙ ap (λ f. f frame) (fold-roll-Expr Typing Typing (expr_step w) (place_step w) (Expr-F.Literal (type_of k) number)) ∙
      stepped (Expr-F.Literal (type_of k) number) k (kind_back k) value right

  pub variable_typed : (k : Kind) (level : ℕ) → is_value w.shapes k ≡ true → is_kind (one_at frame level) k ≡ true → typing w (Variable (type_of k) level) frame ≡ Some k
  variable_typed k level value right =
      ap (λ x. typing w x frame) (sym (rolls-Variable (type_of k) level)) ∙ ap (λ f. f frame) (fold-roll-Expr Typing Typing (expr_step w) (place_step w) (Expr-F.Variable (type_of k) level)) ∙
      stepped (Expr-F.Variable (type_of k) level) k (kind_back k) value right

  -- expressions with these types
  abbrev pub Each : List Expr → List Kind → Type 0
  Each xs ks = all_typed (map (typing w) xs) frame ≡ Some ks

  pub apply_typed : (k : Kind) (os : List Op) (xs : List Expr) (ks : List Kind) → is_value w.shapes k ≡ true → Each xs ks → gives w.shapes os ks k ≡ true → typing w (Apply (type_of k) os xs) frame ≡ Some k
  apply_typed k os xs ks value each right =
      ap (λ x. typing w x frame) (sym (rolls-Apply (type_of k) os xs)) ∙ ap (λ f. f frame) (fold-roll-Expr Typing Typing (expr_step w) (place_step w) (Expr-F.Apply (type_of k) os xs)) ∙
      stepped (Expr-F.Apply (type_of k) os (map (typing w) xs)) k (kind_back k) value (subst (λ o. is_typed o (λ js. gives w.shapes os js k) ≡ true) (sym each) right)

  pub apply_right : (e : Expr) (t : Ty) (os : List Op) (xs : List Expr) (k : Kind) → out-Expr e ≡ Expr-F.Apply t os xs → typing w e frame ≡ Some k → is_typed (all_typed (map (typing w) xs) frame) (λ ks. gives w.shapes os ks k) ≡ true
  apply_right e t os xs k is h =
      let f = fold_out-Expr Typing Typing (expr_step w) (place_step w) e in
      stepped_right (Expr-F.Apply t os (map (typing w) xs)) k (ap (λ y. expr_step w (map-Expr Expr Place Typing Typing (typing w) (place_typing w) y) frame) (sym is) ∙ sym (ap (λ t. t frame) f) ∙ h)

  pub call_typed : (k : Kind) (number : ℕ) (xs : List Expr) (ks : List Kind) → is_value w.shapes k ≡ true → Each xs ks → is_call (slice_get w.functions number) ks k ≡ true → typing w (Call (type_of k) number xs) frame ≡ Some k
  call_typed k number xs ks value each right =
      ap (λ x. typing w x frame) (sym (rolls-Call (type_of k) number xs)) ∙ ap (λ f. f frame) (fold-roll-Expr Typing Typing (expr_step w) (place_step w) (Expr-F.Call (type_of k) number xs)) ∙
      stepped (Expr-F.Call (type_of k) number (map (typing w) xs)) k (kind_back k) value (subst (λ o. is_typed o (λ js. is_call (slice_get w.functions number) js k) ≡ true) (sym each) right)

  pub method_typed : (k : Kind) (place : Place) (number : ℕ) (xs : List Expr) (ks : List Kind) → is_value w.shapes k ≡ true → Each xs ks → is_value_call (method_at w.shapes (place_typing w place frame) number) ks k ≡ true → typing w (Method (type_of k) place number xs) frame ≡ Some k
  method_typed k place number xs ks value each right =
      ap (λ x. typing w x frame) (sym (rolls-Method (type_of k) place number xs)) ∙ ap (λ f. f frame) (fold-roll-Expr Typing Typing (expr_step w) (place_step w) (Expr-F.Method (type_of k) place number xs)) ∙
      stepped (Expr-F.Method (type_of k) (place_typing w place) number (map (typing w) xs)) k (kind_back k) value (subst (λ o. is_typed o (λ js. is_value_call (method_at w.shapes (place_typing w place frame) number) js k) ≡ true) (sym each) right)

  pub choice_typed : (k : Kind) (cs xs : List Expr) → is_value w.shapes k ≡ true → expr_right w (Expr-F.Choice (type_of k) (map (typing w) cs) (map (typing w) xs)) frame k ≡ true → typing w (Choice (type_of k) cs xs) frame ≡ Some k
  choice_typed k cs xs value right =
      ap (λ x. typing w x frame) (sym (rolls-Choice (type_of k) cs xs)) ∙ ap (λ f. f frame) (fold-roll-Expr Typing Typing (expr_step w) (place_step w) (Expr-F.Choice (type_of k) cs xs)) ∙
      stepped (Expr-F.Choice (type_of k) (map (typing w) cs) (map (typing w) xs)) k (kind_back k) value right
