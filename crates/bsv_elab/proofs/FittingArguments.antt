-- What is handed to a maker fits the types of what the maker takes.
use Rattle.std.proofs.Common.{◌≡◌, ℕ, true, false, List, [], ◌∷◌, ◌++◌, Ok, refl, sym, subst, append-nil, append_assoc}
use Rattle.std.proofs.lemmas.Bool.{and_parts}
use Rattle.bsv_lemmas.proofs.Choices.{same_ok}
use Rattle.bsv_types.specs.declared.definitions.Param.{Param}
use Rattle.bsv_types.specs.declared.makers.Argument.{Argument}
use Rattle.bsv_types.specs.declared.makers.Argument.TheVariants as argument
use Rattle.bsv_types.specs.declared.typed.Typed.{Typed}
use Rattle.bsv_types.specs.Expressions.{Frame, one, has_type, place_typing, expr_type}
use Rattle.bsv_types.specs.Kinds.{Kind as Sort, kind}
use Rattle.bsv_types.specs.Methods.{param_kinds}
use Rattle.bsv_types.specs.Modules.{argument_right, arguments_right, param_slots}
use Rattle.bsv_types.specs.Operators.{is_kind}
use Rattle.bsv_types.specs.Shapes.{is_value, is_instance}
use Rattle.bsv_tree.specs.declared.statics.Static.{Static}
use Rattle.bsv_tree.specs.declared.statics.Static.TheVariants as static
use Rattle.bsv_tree.specs.declared.tree.Instance.{Instance}
use Rattle.bsv_tree.specs.carrying.Carrying.{call_at, most_calls, module_place, nothing_called}
use Rattle.bsv_tree.specs.carrying.Frames.{no_variables}
use Rattle.bsv_tree.specs.tree.Trees.{shapes, world, Fits, AllFit}
use Rattle.bsv_elab.specs.declared.state.State.{State}
use Rattle.bsv_elab.specs.Statics.{Here, site, count, at_weight, constant_in, held_as}
use Rattle.bsv_elab.specs.Making.{placed_in, argument_in, arguments_from, arguments, parameters}
use Rattle.bsv_elab.proofs.FittingScopes.{plain_fits, held_as_plain}
use Rattle.bsv_elab.proofs.FittingSteps.{went, carried_is, Same, constant_same}
use Rattle.bsv_elab.proofs.FittingPlaces.{place_stands}
use Rattle.bsv_types.proofs.GivenKinds.{kind_given}

-- each is what its type says
abbrev pub AllHold : Typed → List Instance → List Sort → List Static → Type 0
AllHold t is [] [] = Unit {0}
AllHold t is (k ∷ ks) (x ∷ xs) = Fits t is (one k) x × AllHold t is ks xs
AllHold t is _ _ = ⊥

hold_more : (t : Typed) (is : List Instance) (ks : List Sort) (xs : List Static) (k : Sort) (x : Static) → AllHold t is ks xs → Fits t is (one k) x → AllHold t is (ks ++ k ∷ []) (xs ++ x ∷ [])
hold_more t is [] [] k x h g = (g, tt)
hold_more t is [] (y ∷ xs) k x h g = absurd h
hold_more t is (j ∷ ks) [] k x h g = absurd h
hold_more t is (j ∷ ks) (y ∷ xs) k x h g = (h.0, hold_more t is ks xs k x h.1 g)

-- parameters that are bound fit the scope that they open
pub params_fit : (t : Typed) (is : List Instance) (ps : List Param) (xs : List Static) → AllHold t is (param_kinds ps) xs → AllFit t is (param_slots ps) (parameters ps xs)
params_fit t is [] [] h = tt
params_fit t is [] (x ∷ xs) h = absurd h
params_fit t is (p ∷ ps) [] h = absurd h
params_fit t is (p ∷ ps) (x ∷ xs) h = (h.0, params_fit t is ps xs h.1)

module _ (t : Typed) (here : Here) (f : Frame) (s : State) (fits : AllFit t s.grown.instances f s.scope.bindings) where
  argument_fits : (w : ℕ) (a : Argument) (k : Sort) (r : Static × State) → argument_right (world t) f a k ≡ true → argument_in here a (at_weight w s) ≡ Ok r → Fits t s.grown.instances (one k) r.0 × Same s r.1
  argument_fits w (argument.Value e) k r typed is =
      let c = went (constant_in here e (at_weight w s)) _ r is in
      let same = constant_same here (at_weight w s) e c.0 c.1 in
      let value = (and_parts (is_value (shapes t) k) (has_type (world t) f e k) typed).0 in
      subst (λ (q : Static × State). Fits t s.grown.instances (one k) q.0 × Same s q.1) (same_ok (held_as (kind (expr_type e)) c.0.0, c.0.1) r c.2)
      (plain_fits t s.grown.instances k (held_as (kind (expr_type e)) c.0.0) (held_as_plain (kind (expr_type e)) c.0.0) value, (same.0, same.1))
  argument_fits w (argument.Instance p) k r typed is =
      let c = went (placed_in here p (at_weight w s)) _ r is in
      let n = carried_is (module_place (site here (at_weight w s)) p (no_variables false) (count (at_weight w s))) c.0 c.1 in
      let known = kind_given (place_typing (world t) p f) k (and_parts (is_instance (shapes t) k) (is_kind (place_typing (world t) p f) k) typed).1 in
      subst (λ (q : Static × State). Fits t s.grown.instances (one k) q.0 × Same s q.1) (same_ok (static.Place c.0.0, at_weight c.0.1.weight (at_weight w s)) r c.2)
      (place_stands t s.grown.instances (call_at most_calls) (nothing_called (site here (at_weight w s))) f fits p (no_variables false) (count (at_weight w s)) k c.0 known n, (c.0.1.weight, refl))

  from_fits : (w : ℕ) (js : List Sort) (ys : List Static) (xs : List Argument) (ks : List Sort) (r : List Static × State) → AllHold t s.grown.instances js ys → arguments_right (world t) f xs ks ≡ true
      → arguments_from here ys xs (at_weight w s) ≡ Ok r → AllHold t s.grown.instances (js ++ ks) r.0 × Same s r.1
  unfolding arguments_from
  from_fits w js ys [] [] r h typed is =
      subst (λ (q : List Static × State). AllHold t s.grown.instances (js ++ []) q.0 × Same s q.1) (same_ok (ys, at_weight w s) r is)
      (subst (λ ls. AllHold t s.grown.instances ls ys) (sym (append-nil js)) h, (w, refl))
  from_fits w js ys [] (k ∷ ks) r h typed is = absurd cc
  from_fits w js ys (x ∷ xs) [] r h typed is = absurd cc
  from_fits w js ys (x ∷ xs) (k ∷ ks) r h typed is =
      let rights = and_parts (argument_right (world t) f x k) (arguments_right (world t) f xs ks) typed in
      let a = went (argument_in here x (at_weight w s)) _ r is in
      let first = argument_fits w x k a.0 rights.0 a.1 in
      let rest = subst (λ z. arguments_from here (ys ++ a.0.0 ∷ []) xs z ≡ Ok r) first.1.1 a.2 in
      let all = from_fits first.1.0 (js ++ k ∷ []) (ys ++ a.0.0 ∷ []) xs ks r (hold_more t s.grown.instances js ys k a.0.0 h first.0) rights.1 rest in
      (subst (λ ls. AllHold t s.grown.instances ls r.0) (append_assoc js (k ∷ []) ks) all.0, all.1)

  pub arguments_fit : (xs : List Argument) (ks : List Sort) (r : List Static × State) → arguments_right (world t) f xs ks ≡ true → arguments here xs s ≡ Ok r → AllHold t s.grown.instances ks r.0 × Same s r.1
  unfolding arguments
  arguments_fit xs ks r typed is = from_fits s.grown.weight [] [] xs ks r tt typed is
