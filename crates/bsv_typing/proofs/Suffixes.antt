-- Suffixes of one expression, in one list, give what each gives after the others.
use Rattle.std.proofs.Common.{◌≡◌, ◌∙◌, Bool, true, false, cond, List, [], ◌∷◌, ◌++◌, map, Option, Some, None, refl, sym, ap}
use Rattle.std.proofs.lemmas.Option.{same_Some}
use Rattle.bsv_types.specs.declared.operators.Op.{Op}
use Rattle.bsv_types.specs.declared.operators.Op.TheVariants as op
use Rattle.bsv_types.specs.declared.expressions.Expr.{Expr, out-Expr}
use Rattle.bsv_types.specs.declared.expressions.Expr.TheOpen.{Expr-F}
use Rattle.bsv_types.specs.declared.expressions.Place.{Place}
use Rattle.bsv_types.specs.Kinds.{Kind}
use Rattle.bsv_types.specs.Shapes.{Shapes}
use Rattle.bsv_types.specs.Operators.{◌>>=◌, is_kind, bit_kind, slice_kind, field_kind, is_suffix, suffixed, gives}
use Rattle.bsv_types.specs.Expressions.{World, Frame, typing, all_typed, is_typed}
use Rattle.bsv_types.proofs.Same.{same_self}
use Rattle.bsv_context.specs.Env.{TypedExpr}
use Rattle.bsv_context.specs.Suffixes.{are_suffixes, suffixes_in, suffixes, with_suffix}
use Rattle.bsv_typing.specs.Laws.{Typed}
use Rattle.bsv_typing.proofs.Bound.{taken}
use Rattle.bsv_typing.proofs.Typings.{Each, apply_right}
use Rattle.bsv_typing.proofs.RightOperands.{Formed, each_more, each_joined}
use Rattle.bsv_typing.proofs.RightForms.{applied_formed}
use Rattle.bsv_types.proofs.GivenKinds.{kind_given}

typed_is : (o : Option (List Kind)) (p : List Kind → Bool) → is_typed o p ≡ true → (ks : List Kind) × (o ≡ Some ks) × (p ks ≡ true)
typed_is None p e = absurd cc
typed_is (Some ks) p e = (ks, refl, e)

begins : (os : List Op) (o : Op) → are_suffixes os ≡ true → are_suffixes (os ++ o ∷ []) ≡ true
begins [] o e = absurd cc
begins (p ∷ os) o e = e

module _ (s : Shapes) where
  -- those at the end come after what the others give
  suffixed_on : (os ps : List Op) (k : Kind) (ks js : List Kind) (r : Kind) → suffixed s k os ks ≡ Some r → suffixed s k (os ++ ps) (ks ++ js) ≡ suffixed s r ps js
  suffixed_on [] ps k [] js r e = ap (λ j. suffixed s j ps js) (same_Some k r e)
  suffixed_on [] ps k (j ∷ ks) js r e = absurd cc
  suffixed_on (op.Index ∷ os) ps k [] js r e = absurd cc
  suffixed_on (op.Index ∷ os) ps k (j ∷ ks) js r e =
      let t = taken (bit_kind k j) _ r e in
      ap (λ o. o >>= λ q. suffixed s q (os ++ ps) (ks ++ js)) t.1 ∙ suffixed_on os ps t.0 ks js r t.2
  suffixed_on (op.Slice h l ∷ os) ps k ks js r e =
      let t = taken (slice_kind h l k) _ r e in
      ap (λ o. o >>= λ q. suffixed s q (os ++ ps) (ks ++ js)) t.1 ∙ suffixed_on os ps t.0 ks js r t.2
  suffixed_on (op.Field f ∷ os) ps k ks js r e =
      let t = taken (field_kind s k f) _ r e in
      ap (λ o. o >>= λ q. suffixed s q (os ++ ps) (ks ++ js)) t.1 ∙ suffixed_on os ps t.0 ks js r t.2
  suffixed_on (_ ∷ os) ps k ks js r e = absurd cc

  gives_suffixed : (o : Op) (os : List Op) (k : Kind) (ks : List Kind) (t : Kind) → is_suffix o ≡ true → gives s (o ∷ os) (k ∷ ks) t ≡ is_kind (suffixed s k (o ∷ os) ks) t
  gives_suffixed op.Index os k ks t e = refl
  gives_suffixed (op.Slice h l) os k ks t e = refl
  gives_suffixed (op.Field f) os k ks t e = refl
  gives_suffixed _ os k ks t e = absurd cc

  gives_none : (o : Op) (os : List Op) (t : Kind) → is_suffix o ≡ true → gives s (o ∷ os) [] t ≡ false
  gives_none op.Index os t e = refl
  gives_none (op.Slice h l) os t e = refl
  gives_none (op.Field f) os t e = refl
  gives_none _ os t e = absurd cc

  suffixes_give : (os : List Op) (k : Kind) (ks : List Kind) (t : Kind) → are_suffixes os ≡ true → suffixed s k os ks ≡ Some t → gives s os (k ∷ ks) t ≡ true
  suffixes_give [] k ks t e g = absurd cc
  suffixes_give (o ∷ os) k ks t e g = gives_suffixed o os k ks t e ∙ ap (λ r. is_kind r t) g ∙ same_self t

  suffixes_given : (os : List Op) (ks : List Kind) (t : Kind) → are_suffixes os ≡ true → gives s os ks t ≡ true → (q : Kind × List Kind) × (ks ≡ q.0 ∷ q.1) × (suffixed s q.0 os q.1 ≡ Some t)
  suffixes_given [] ks t e g = absurd cc
  suffixes_given (o ∷ os) [] t e g = let none = sym g ∙ gives_none o os t e in absurd cc
  suffixes_given (o ∷ os) (k ∷ ks) t e g = ((k, ks), refl, kind_given (suffixed s k (o ∷ os) ks) t (sym (gives_suffixed o os k ks t e) ∙ g))

module _ (w : World) (frame : Frame) where
  -- the suffixes give the type, after the first of these expressions
  abbrev Behind : Kind → List Op × List Expr → Type 0
  Behind k r = (q : Kind × List Kind) × Each w frame r.1 (q.0 ∷ q.1) × (suffixed w.shapes q.0 r.0 q.1 ≡ Some k) × ((o : Op) → is_suffix o ≡ true → are_suffixes (r.0 ++ o ∷ []) ≡ true)

  in_front : (e : Expr) (k : Kind) → typing w e frame ≡ Some k → Behind k ([], e ∷ [])
  in_front e k h = ((k, []), each_more w frame e [] k [] h refl, refl, λ o is. is)

  after_in : (e : Expr) (k : Kind) → typing w e frame ≡ Some k → (y : Expr-F Expr Place) → out-Expr e ≡ y → Behind k (suffixes_in e y)
  after_in e k h (Expr-F.Apply t os xs) is = by (are_suffixes os) refl where
    by : (b : Bool) → are_suffixes os ≡ b → Behind k (cond b (os, xs) ([], e ∷ []))
    by true some =
        let r = typed_is (all_typed (map (typing w) xs) frame) (λ ks. gives w.shapes os ks k) (apply_right w frame e t os xs k is h) in
        let g = suffixes_given w.shapes os r.0 k some r.2 in
        (g.0, r.1 ∙ ap Some g.1, g.2, λ o suffix. begins os o some)
    by false none = in_front e k h
  after_in e k h _ is = in_front e k h

  behind : (e : Expr) (k : Kind) → typing w e frame ≡ Some k → Behind k (suffixes e)
  unfolding suffixes
  behind e k h = after_in e k h (out-Expr e) refl

  pub suffix_formed : (k : Kind) (o : Op) (places : List Expr) (js : List Kind) (m : TypedExpr) → is_suffix o ≡ true → Typed w frame m → Each w frame places js → suffixed w.shapes m.kind (o ∷ []) js ≡ Some k → Formed w frame (with_suffix k o places m.expr)
  suffix_formed k o places js m suffix typed each given =
      let b = behind m.expr m.kind typed in
      let q = b.0 in
      let os = (suffixes m.expr).0 in
      let xs = (suffixes m.expr).1 in
      let all = suffixed_on w.shapes os (o ∷ []) q.0 q.1 js m.kind b.2 ∙ given in
      applied_formed w frame k (os ++ o ∷ []) (xs ++ places) (q.0 ∷ (q.1 ++ js))
      (each_joined w frame xs places (q.0 ∷ q.1) js b.1 each) (suffixes_give w.shapes (os ++ o ∷ []) q.0 (q.1 ++ js) k (b.3 o suffix) all)
