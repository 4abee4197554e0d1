-- Operands that are in order, and those that agree.
use Rattle.std.proofs.Common.{◌≡◌, ◌∙◌, ℕ, zero, suc, ◌+◌, Bool, true, false, cond, List, [], ◌∷◌, ◌++◌, map, take, drop, length, Option, Some, None, refl, ap, ap₂, subst, arith}
use Rattle.std.proofs.lemmas.List.{length-append}
use Rattle.std.proofs.lemmas.Option.{same_Some}
use Rattle.bsv_types.specs.declared.expressions.Expr.{Expr}
use Rattle.bsv_types.specs.Kinds.{Kind, integer}
use Rattle.bsv_types.specs.Shapes.{is_value}
use Rattle.bsv_types.specs.Operators.{◌>>=◌}
use Rattle.bsv_types.specs.Expressions.{World, Frame, typing, all_typed}
use Rattle.bsv_context.specs.Env.{TypedExpr, wanted, Limits, has_bits, is_typed_value, in_order}
use Rattle.bsv_typing.specs.Operands.{Check, Operand, all_as, are_literals, are_open, open_front, agreed, beside, around, by_first, agree_with_result, agree}
use Rattle.bsv_typing.specs.Typing.{ordered}
use Rattle.bsv_typing.specs.Laws.{Typed}
use Rattle.bsv_typing.proofs.Bound.{taken, tested_step, HasKind, wanted_is}
use Rattle.bsv_typing.proofs.Typings.{Each}

-- the types of a world, where they are asked to be in range
abbrev pub strictly : World → Limits
strictly w = record { strict = true; shapes = w.shapes }

pub strict_value : (w : World) (k : Kind) → is_typed_value (strictly w) k ≡ true → is_value w.shapes k ≡ true
unfolding has_bits
strict_value w integer e = refl
strict_value w _ e = e

-- so many times this type
abbrev pub alike : {A : Type 0} → Kind → List A → List Kind
alike k [] = []
alike k (x ∷ xs) = k ∷ alike k xs

module _ (w : World) (frame : Frame) where
  -- in order, if it has a type of values
  abbrev pub Formed : TypedExpr → Type 0
  Formed m = is_value w.shapes m.kind ≡ true → Typed w frame m

  abbrev pub FormedAs : Check → Type 0
  FormedAs check = (want : Option Kind) (m : TypedExpr) → check want ≡ Some m → Formed m × HasKind want m.kind

  abbrev pub TypedAs : Check → Type 0
  TypedAs check = (want : Option Kind) (m : TypedExpr) → check want ≡ Some m → Typed w frame m × HasKind want m.kind

  abbrev pub Good : Operand → Type 0
  Good x = TypedAs x.check

  abbrev pub EachGood : List Operand → Type 0
  EachGood [] = Unit {0}
  EachGood (x ∷ xs) = Good x × EachGood xs

  pub ordered_typed : (t m : TypedExpr) → Formed t → in_order (strictly w) t ≡ Some m → Typed w frame m × (t ≡ m)
  unfolding in_order
  ordered_typed t m formed e =
      let h = tested_step (is_typed_value (strictly w) t.kind) (Some t) m e in
      let is = same_Some t m h.1 in
      (subst (Typed w frame) is (formed (strict_value w t.kind h.0)), is)

  pub ordered_good : (check : Check) → FormedAs check → TypedAs (ordered (strictly w) check)
  ordered_good check formed want m e =
      let t = taken (check want) _ m e in
      let f = formed want t.0 t.1 in
      let o = ordered_typed t.0 m f.0 t.2 in
      (o.0, subst (λ z. HasKind want z.kind) o.1 f.1)

  pub wanted_formed : (want : Option Kind) (t m : TypedExpr) → wanted want t ≡ Some m → Formed t → Formed m × HasKind want m.kind
  wanted_formed want t m e f = let h = wanted_is want t m e in (subst Formed h.0 f, h.1)

  -- typed expressions, all of one type
  abbrev pub AllOf : Kind → List Expr → Type 0
  AllOf k [] = Unit {0}
  AllOf k (x ∷ xs) = (typing w x frame ≡ Some k) × AllOf k xs

  pub each_more : (x : Expr) (xs : List Expr) (k : Kind) (ks : List Kind) → typing w x frame ≡ Some k → Each w frame xs ks → Each w frame (x ∷ xs) (k ∷ ks)
  each_more x xs k ks h hs = ap₂ (λ (a : Option Kind) (b : Option (List Kind)). a >>= λ j. b >>= λ js. Some (j ∷ js)) h hs

  pub each_of : (k : Kind) (xs : List Expr) → AllOf k xs → Each w frame xs (alike k xs)
  each_of k [] h = refl
  each_of k (x ∷ xs) h = each_more x xs k (alike k xs) h.0 (each_of k xs h.1)

  pub each_joined : (xs ys : List Expr) (ks js : List Kind) → Each w frame xs ks → Each w frame ys js → Each w frame (xs ++ ys) (ks ++ js)
  each_joined [] ys ks js h g = subst (λ is. Each w frame ys (is ++ js)) (same_Some [] ks h) g
  each_joined (x ∷ xs) ys ks js h g =
      let t = taken (typing w x frame) _ ks h in
      let r = taken (all_typed (map (typing w) xs) frame) _ ks t.2 in
      subst (λ is. Each w frame (x ∷ xs ++ ys) (is ++ js)) (same_Some (t.0 ∷ r.0) ks r.2) (each_more x (xs ++ ys) t.0 (r.0 ++ js) t.1 (each_joined xs ys r.0 js r.1 g))

  of_append : (k : Kind) (xs ys : List Expr) → AllOf k xs → AllOf k ys → AllOf k (xs ++ ys)
  of_append k [] ys h g = g
  of_append k (x ∷ xs) ys h g = (h.0, of_append k xs ys h.1 g)

  -- one for each operand
  abbrev pub AllFrom : Kind → List Expr → List Operand → Type 0
  AllFrom k ms xs = AllOf k ms × (length ms ≡ length xs)

  pub all_as_right : (k : Kind) (xs : List Operand) (ms : List Expr) → EachGood xs → all_as k xs ≡ Some ms → AllFrom k ms xs
  unfolding all_as
  all_as_right k [] ms good e = subst (λ zs. AllFrom k zs []) (same_Some [] ms e) (tt, refl)
  all_as_right k (x ∷ xs) ms good e =
      let t = taken (x.check (Some k)) _ ms e in
      let r = taken (all_as k xs) _ ms t.2 in
      let h = good.0 (Some k) t.0 t.1 in
      let more = all_as_right k xs r.0 good.1 r.1 in
      subst (λ zs. AllFrom k zs (x ∷ xs)) (same_Some (t.0.expr ∷ r.0) ms r.2) ((h.0 ∙ ap Some h.1, more.0), ap suc more.1)

  abbrev pub AgreedRight : List Operand → Kind × List Expr → Type 0
  AgreedRight xs r = AllFrom r.0 r.1 xs

  agreed_right : (k : Kind) (xs : List Operand) (r : Kind × List Expr) → EachGood xs → agreed k (all_as k xs) ≡ Some r → AgreedRight xs r × (r.0 ≡ k)
  agreed_right k xs r good e = by (all_as k xs) refl e where
    by : (o : Option (List Expr)) → all_as k xs ≡ o → agreed k o ≡ Some r → AgreedRight xs r × (r.0 ≡ k)
    by None is at = absurd cc
    by (Some ms) is at = subst (λ q. AgreedRight xs q × (q.0 ≡ k)) (same_Some (k, ms) r at) (all_as_right k xs ms good is, refl)

  beside_is : (k : Kind) (front : Option (List Expr)) (x : Expr) (rest : Option (List Expr)) (r : Kind × List Expr) → beside k front x rest ≡ Some r →
      (fs : List Expr) × (rs : List Expr) × (front ≡ Some fs) × (rest ≡ Some rs) × ((k, fs ++ x ∷ rs) ≡ r)
  beside_is k (Some fs) x (Some rs) r e = (fs, rs, refl, refl, same_Some (k, fs ++ x ∷ rs) r e)
  beside_is k _ x _ r e = absurd cc

  around_right : (front rest : List Operand) (r : Kind × List Expr) → EachGood front → EachGood rest → around front rest ≡ Some r → AllOf r.0 r.1 × (length r.1 ≡ length front + length rest)
  unfolding around
  around_right front [] r good_front good e = absurd cc
  around_right front (x ∷ xs) r good_front good e =
      let t = taken (x.check None) _ r e in
      let b = beside_is t.0.kind (all_as t.0.kind front) t.0.expr (all_as t.0.kind xs) r t.2 in
      let before = all_as_right t.0.kind front b.0 good_front b.2 in
      let behind = all_as_right t.0.kind xs b.1 good.1 b.3 in
      let many : length (b.0 ++ t.0.expr ∷ b.1) ≡ length front + suc (length xs) = omega (arith, length-append b.0 (t.0.expr ∷ b.1), before.1, behind.1) in
      subst (λ q. AllOf q.0 q.1 × (length q.1 ≡ length front + suc (length xs))) b.4 (of_append t.0.kind b.0 (t.0.expr ∷ b.1) before.0 ((good.0 None t.0 t.1).0, behind.0), many)

  each_take : (n : ℕ) (xs : List Operand) → EachGood xs → EachGood (take n xs)
  each_take zero xs h = tt
  each_take (suc n) [] h = tt
  each_take (suc n) (x ∷ xs) h = (h.0, each_take n xs h.1)

  each_drop : (n : ℕ) (xs : List Operand) → EachGood xs → EachGood (drop n xs)
  each_drop zero xs h = h
  each_drop (suc n) [] h = tt
  each_drop (suc n) (x ∷ xs) h = each_drop n xs h.1

  parts_length : (n : ℕ) (xs : List Operand) → length (take n xs) + length (drop n xs) ≡ length xs
  parts_length zero xs = omega arith
  parts_length (suc n) [] = refl
  parts_length (suc n) (x ∷ xs) = omega (arith, parts_length n xs)

  by_first_right : (xs : List Operand) (r : Kind × List Expr) → EachGood xs → by_first xs ≡ Some r → AgreedRight xs r
  unfolding by_first
  by_first_right xs r good e =
      let n = open_front xs in
      let h = around_right (take n xs) (drop n xs) r (each_take n xs good) (each_drop n xs good) e in
      (h.0, h.1 ∙ parts_length n xs)

  -- operands without an expected type
  free_right : (plain : Bool) (xs : List Operand) (r : Kind × List Expr) → EachGood xs → cond plain (agreed integer (all_as integer xs)) (by_first xs) ≡ Some r → AgreedRight xs r
  free_right true xs r good e = (agreed_right integer xs r good e).0
  free_right false xs r good e = by_first_right xs r good e

  pub agree_right : (xs : List Operand) (r : Kind × List Expr) → EachGood xs → agree xs ≡ Some r → AgreedRight xs r
  unfolding agree
  agree_right xs r good e = free_right (are_open xs) xs r good e

  pub result_right : (xs : List Operand) (want : Option Kind) (r : Kind × List Expr) → EachGood xs → agree_with_result xs want ≡ Some r → AgreedRight xs r × HasKind want r.0
  unfolding agree_with_result
  result_right xs None r good e = (free_right (are_literals xs) xs r good e, tt)
  result_right xs (Some k) r good e = agreed_right k xs r good e
