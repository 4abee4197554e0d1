-- An expression gives the same over later instances, and from less weight.
use Rattle.std.proofs.Common.{ℕ, List, [], ◌∷◌, map, Option, Some, None, refl, sym, subst}
use Rattle.bsv_types.specs.declared.expressions.Expr.{Expr, roll-Expr, ind-Expr, map-Expr, fold-roll-Expr}
use Rattle.bsv_types.specs.declared.expressions.Expr.TheOpen.{Expr-F, Place-F}
use Rattle.bsv_types.specs.declared.expressions.Place.{Place, roll-Place, ind-Place, map-Place, fold-roll-Place}
use Rattle.bsv_types.specs.Kinds.{kind}
use Rattle.bsv_tree.specs.declared.tree.Instance.{Instance}
use Rattle.bsv_tree.specs.tree.Contexts.{Context}
use Rattle.bsv_tree.specs.carrying.Calls.{Caller, static_fault}
use Rattle.bsv_tree.specs.carrying.Carrying as carrying
use Rattle.bsv_tree.specs.carrying.Carrying.{Carried, Placing, expression, place}
use Rattle.bsv_carry.proofs.StaysAccepted.SideBySide.{into_then, counted_over}
use Rattle.bsv_carry.proofs.StaysAccepted.Operators.{literal_over}
use Rattle.bsv_carry.specs.StaysAccepted.{Grows, over}
use Rattle.bsv_carry.proofs.StaysAccepted.Instances.{CarriedInto, PlacingInto, EachCarried, EachCarry, CallsInto}
use Rattle.bsv_carry.proofs.StaysAccepted.Calls.{method_into, apply_into, call_into, variable_into}
use Rattle.bsv_carry.proofs.StaysAccepted.Choices.{choice_into, as_static_into, place_into}

module _ (d : ℕ) (is : List Instance) (call next : Caller) (s : Context) (grows : Grows s.instances is) (into : CallsInto d is call next) where
  abbrev t : Context
  t = over s is

  abbrev ExprInto : Expr → Type 0
  ExprInto e = CarriedInto d (expression call s e) (expression next t e)

  abbrev PlaceInto : Place → Type 0
  PlaceInto p = PlacingInto d (place call s p) (place next t p)

  abbrev Child : Type 0
  Child = (e : Expr) × ExprInto e

  abbrev PlaceChild : Type 0
  PlaceChild = (p : Place) × PlaceInto p

  each : (xs : List Child)
      → EachCarried d (map (expression call s) (map (λ (x : Child). x.0) xs)) (map (expression next t) (map (λ (x : Child). x.0) xs))
  each [] = tt
  each (x ∷ xs) = (x.1, each xs)

  -- one layer, whose parts are related
  layer : (y : Expr-F Child PlaceChild) →
      CarriedInto d (carrying.expr_step call s (map-Expr Expr Place Carried Placing (expression call s) (place call s)
      (map-Expr Child PlaceChild Expr Place (λ x. x.0) (λ x. x.0) y)))
      (carrying.expr_step next t (map-Expr Expr Place Carried Placing (expression next t) (place next t)
      (map-Expr Child PlaceChild Expr Place (λ x. x.0) (λ x. x.0) y)))
  layer (Expr-F.Literal k number) =
      record {
        sort = refl;
        carry = λ vs w. into_then _ _ (into_then _ _ (counted_over d w 1)
            (λ w. literal_over d s.shapes (static_fault s) (kind k) number w)) (λ r. as_static_into d is call next s (kind k) r);
      }
  layer (Expr-F.Variable k level) =
      record {
        sort = refl;
        carry = λ vs w. into_then _ _ (into_then _ _ (counted_over d w 1)
            (λ w. into_then _ _ (variable_into d is call next s grows into level vs) (λ x. record { seen = refl })))
            (λ r. as_static_into d is call next s (kind k) r);
      }
  layer (Expr-F.Apply k os xs) =
      record {
        sort = refl;
        carry = λ vs w. into_then _ _ (apply_into d is call next s grows into (kind k) os _ _ (each xs) vs w)
            (λ r. as_static_into d is call next s (kind k) r);
      }
  layer (Expr-F.Call k number xs) =
      record {
        sort = refl;
        carry = λ vs w. into_then _ _ (call_into d is call next s grows into number _ _ (each xs) vs w)
            (λ r. as_static_into d is call next s (kind k) r);
      }
  layer (Expr-F.Method k p number xs) =
      record {
        sort = refl;
        carry = λ vs w. into_then _ _ (method_into d is call next s grows into _ _ p.1 number _ _ (each xs) vs w)
            (λ r. as_static_into d is call next s (kind k) r);
      }
  layer (Expr-F.Choice k ts xs) =
      record {
        sort = refl;
        carry = λ vs w. into_then _ _ (choice_into d is call next s _ _ _ _ (each ts) (each xs) vs w)
            (λ r. as_static_into d is call next s (kind k) r);
      }

  abbrev at_level : ℕ → Option Child → Place-F Child PlaceChild
  at_level level o = record { level = level; index = o }

  place_layer : (level : ℕ) (o : Option Child) →
      PlacingInto d (carrying.place_step call s (map-Place Expr Place Carried Placing (expression call s) (place call s)
      (map-Place Child PlaceChild Expr Place (λ x. x.0) (λ x. x.0) (at_level level o))))
      (carrying.place_step next t (map-Place Expr Place Carried Placing (expression next t) (place next t)
      (map-Place Child PlaceChild Expr Place (λ x. x.0) (λ x. x.0) (at_level level o))))
  place_layer level None = place_into d is call next s level None None tt
  place_layer level (Some x) = place_into d is call next s level (Some (expression call s x.0)) (Some (expression next t x.0)) x.1

  expr_rolled : (z : Expr-F Expr Place)
      → CarriedInto d (carrying.expr_step call s (map-Expr Expr Place Carried Placing (expression call s) (place call s) z))
      (carrying.expr_step next t (map-Expr Expr Place Carried Placing (expression next t) (place next t) z))
      → ExprInto (roll-Expr z)
  unfolding expression place
  expr_rolled z h =
      subst (λ b. CarriedInto d (expression call s (roll-Expr z)) b)
      (sym (fold-roll-Expr Carried Placing (carrying.expr_step next t) (carrying.place_step next t) z))
      (subst (λ a. CarriedInto d a (carrying.expr_step next t (map-Expr Expr Place Carried Placing (expression next t) (place next t) z)))
      (sym (fold-roll-Expr Carried Placing (carrying.expr_step call s) (carrying.place_step call s) z)) h)

  place_rolled : (z : Place-F Expr Place)
      → PlacingInto d (carrying.place_step call s (map-Place Expr Place Carried Placing (expression call s) (place call s) z))
      (carrying.place_step next t (map-Place Expr Place Carried Placing (expression next t) (place next t) z))
      → PlaceInto (roll-Place z)
  unfolding expression place
  place_rolled z h =
      subst (λ b. PlacingInto d (place call s (roll-Place z)) b) (sym
      (fold-roll-Place Carried Placing (carrying.expr_step next t) (carrying.place_step next t) z))
      (subst (λ a. PlacingInto d a (carrying.place_step next t (map-Place Expr Place Carried Placing (expression next t) (place next t) z)))
      (sym (fold-roll-Place Carried Placing (carrying.expr_step call s) (carrying.place_step call s) z)) h)

  pub expr_into : (e : Expr) → CarriedInto d (expression call s e) (expression next t e)
  expr_into = ind-Expr ExprInto PlaceInto
      (λ x y is. subst (λ z. ExprInto (roll-Expr z)) is (expr_rolled (map-Expr Child PlaceChild Expr Place (λ x. x.0) (λ x. x.0) y) (layer y)))
      (λ x y is. subst (λ z. PlaceInto (roll-Place z)) is (place_rolled (map-Place Child PlaceChild Expr Place (λ x. x.0) (λ x. x.0) y)
      (place_layer y.level y.index)))

  pub place_in : (p : Place) → PlacingInto d (place call s p) (place next t p)
  place_in = ind-Place ExprInto PlaceInto
      (λ x y is. subst (λ z. ExprInto (roll-Expr z)) is (expr_rolled (map-Expr Child PlaceChild Expr Place (λ x. x.0) (λ x. x.0) y) (layer y)))
      (λ x y is. subst (λ z. PlaceInto (roll-Place z)) is (place_rolled (map-Place Child PlaceChild Expr Place (λ x. x.0) (λ x. x.0) y)
      (place_layer y.level y.index)))

  pub exprs_into : (xs : List Expr) → EachCarried d (map (expression call s) xs) (map (expression next t) xs)
  exprs_into [] = tt
  exprs_into (x ∷ xs) = (expr_into x, exprs_into xs)

  pub carries_into : (xs : List Expr) → EachCarry d (map (carrying.expr call s) xs) (map (carrying.expr next t) xs)
  carries_into [] = tt
  carries_into (x ∷ xs) = ((expr_into x).carry, carries_into xs)
