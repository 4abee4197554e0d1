-- What carries values out makes nothing and names nothing.
use Rattle.std.proofs.Common.{◌≡◌, ◌∙◌, ℕ, zero, suc, Bool, true, false, ℤ, List, [], ◌∷◌, ◌++◌, take, set, length, Option, Some, None, Ok, refl, sym, subst, if◌then◌else◌}
use Rattle.std.specs.Prelude.{nat_lt, slice_get}
use Rattle.std.specs.List.{list_all}
use Rattle.std.proofs.lemmas.Bool.{and_parts, and_from}
use Rattle.bsv_lemmas.proofs.Choices.{same_ok}
use Rattle.bsv_lemmas.proofs.Places.{passes_at}
use Rattle.bsv_ast.specs.Names.{is_lower}
use Rattle.bsv_types.specs.declared.expressions.Expr.{Expr}
use Rattle.bsv_types.specs.declared.makers.Argument.{Argument}
use Rattle.bsv_types.specs.declared.makers.Argument.TheVariants as argument
use Rattle.bsv_types.specs.declared.modules.Module.{Module}
use Rattle.bsv_types.specs.Expressions.{expr_type}
use Rattle.bsv_types.specs.Kinds.{kind}
use Rattle.bsv_tree.specs.declared.statics.Binding.{Binding}
use Rattle.bsv_tree.specs.declared.statics.Static.{Static}
use Rattle.bsv_tree.specs.declared.statics.Static.TheVariants as static
use Rattle.bsv_tree.specs.declared.values.Constant.{Constant}
use Rattle.bsv_tree.specs.carrying.Working.{tick}
use Rattle.bsv_elab.specs.declared.state.State.{State}
use Rattle.bsv_elab.specs.Statics.{Here, Builds, static_fault, count, carried, at_weight, weigh, put_at, known, carried_in, constant_in, as_number, number_in, as_truth, truth_in, held_as, binding, bind, next_value, assigned, assign, cut, inside}
use Rattle.bsv_elab.specs.Making.{placed_in, argument_in, arguments_from, arguments}
use Rattle.bsv_elab.specs.Bodies.{places, with_place, placed, set_place}
use Rattle.bsv_elab.proofs.NamedMakes.{kept, Lows, lows_more, Makes, makes_none, Ran, Good}
use Rattle.bsv_elab.proofs.FittingSteps.{went}

pub record Still (s z : State) : Type 0 where
  pub same : kept z ≡ kept s
  pub bindings : z.scope.bindings ≡ s.scope.bindings

pub still_both : (s m z : State) → Still s m → Still m z → Still s z
still_both s m z h g = record { same = g.same ∙ h.same; bindings = g.bindings ∙ h.bindings }

weight_still : (weight : ℕ) (s : State) → Still s (at_weight weight s)
weight_still weight s = record { same = refl; bindings = refl }

pub weigh_still : (more : ℕ) (s z : State) → weigh more s ≡ Ok z → Still s z
unfolding weigh
weigh_still more s z e =
    let c = went (carried (tick (count s) more)) (λ c. Ok (at_weight c.weight s)) z e in
    subst (Still s) (same_ok (at_weight c.0.weight s) z c.2) (weight_still c.0.weight s)

pub constant_still : (here : Here) (x : Expr) (s : State) (r : Constant × State) → constant_in here x s ≡ Ok r → Still s r.1
unfolding constant_in
constant_still here x s r e =
    let v = went (carried_in here x s) _ r e in
    let c = went (known (static_fault here) v.0.0) _ r v.2 in
    subst (λ (z : Constant × State). Still s z.1) (same_ok (c.0, at_weight v.0.1.count.weight s) r c.2) (weight_still v.0.1.count.weight s)

pub number_still : (here : Here) (x : Expr) (s : State) (r : ℤ × State) → number_in here x s ≡ Ok r → Still s r.1
unfolding number_in
number_still here x s r e =
    let c = went (constant_in here x s) _ r e in
    let n = went (as_number (static_fault here) c.0.0) _ r c.2 in
    subst (λ (z : ℤ × State). Still s z.1) (same_ok (n.0, c.0.1) r n.2) (constant_still here x s c.0 c.1)

pub truth_still : (here : Here) (x : Expr) (s : State) (r : Bool × State) → truth_in here x s ≡ Ok r → Still s r.1
unfolding truth_in
truth_still here x s r e =
    let c = went (constant_in here x s) _ r e in
    let n = went (as_truth (static_fault here) c.0.0) _ r c.2 in
    subst (λ (z : Bool × State). Still s z.1) (same_ok (n.0, c.0.1) r n.2) (constant_still here x s c.0 c.1)

argument_still : (here : Here) (a : Argument) (s : State) (r : Static × State) → argument_in here a s ≡ Ok r → Still s r.1
argument_still here (argument.Value x) s r e =
    let c = went (constant_in here x s) _ r e in
    subst (λ (z : Static × State). Still s z.1) (same_ok (held_as (kind (expr_type x)) c.0.0, c.0.1) r c.2) (constant_still here x s c.0 c.1)
argument_still here (argument.Instance p) s r e =
    let c = went (placed_in here p s) _ r e in
    subst (λ (z : Static × State). Still s z.1) (same_ok (static.Place c.0.0, at_weight c.0.1.weight s) r c.2) (weight_still c.0.1.weight s)

arguments_from_still : (here : Here) (xs : List Static) (given : List Argument) (s : State) (r : List Static × State)
    → arguments_from here xs given s ≡ Ok r → Still s r.1
unfolding arguments_from
arguments_from_still here xs [] s r e =
    subst (λ (z : List Static × State). Still s z.1) (same_ok (xs, s) r e) (record { same = refl; bindings = refl })
arguments_from_still here xs (a ∷ more) s r e =
    let c = went (argument_in here a s) _ r e in
    still_both s c.0.1 r.1 (argument_still here a s c.0 c.1) (arguments_from_still here (xs ++ c.0.0 ∷ []) more c.0.1 r c.2)

pub arguments_still : (here : Here) (given : List Argument) (s : State) (r : List Static × State) → arguments here given s ≡ Ok r → Still s r.1
unfolding arguments
arguments_still here given s r e = arguments_from_still here [] given s r e

-- ---- variables

lows_set : (bs : List Binding) (level : ℕ) (b : Binding) → Lows bs → is_lower b.name ≡ true → Lows (set bs level b)
lows_set [] level b h is = h
lows_set (c ∷ bs) zero b h is =
    let p = and_parts (is_lower c.name) (list_all (λ (z : Binding). is_lower z.name) bs) h in
    and_from (is_lower b.name) (list_all (λ (z : Binding). is_lower z.name) bs) is p.1
lows_set (c ∷ bs) (suc level) b h is =
    let p = and_parts (is_lower c.name) (list_all (λ (z : Binding). is_lower z.name) bs) h in
    and_from (is_lower c.name) (list_all (λ (z : Binding). is_lower z.name) (set bs level b)) p.0 (lows_set bs level b p.1 is)

lows_put : (bs : List Binding) (level : ℕ) (b : Binding) → Lows bs → is_lower b.name ≡ true → Lows (put_at level b bs)
unfolding put_at
lows_put bs level b h is = by (nat_lt level (length bs)) where
  by : (c : Bool) → Lows (if c then set bs level b else bs)
  by true = lows_set bs level b h is
  by false = h

lows_take : (n : ℕ) (bs : List Binding) → Lows bs → Lows (take n bs)
lows_take zero bs h = refl
lows_take (suc n) [] h = refl
lows_take (suc n) (b ∷ bs) h =
    let p = and_parts (is_lower b.name) (list_all (λ (z : Binding). is_lower z.name) bs) h in
    and_from (is_lower b.name) (list_all (λ (z : Binding). is_lower z.name) (take n bs)) p.0 (lows_take n bs p.1)

pub low_at : (bs : List Binding) (level : ℕ) (b : Binding) → Lows bs → slice_get bs level ≡ Some b → is_lower b.name ≡ true
low_at bs level b h is = passes_at (λ (z : Binding). is_lower z.name) bs level b h is

module _ (ms : List Module) (here : Here) (base : List (List ℕ)) where
  pub still_ran : (s z : State) → Lows s.scope.bindings → Still s z → Ran ms here base s z
  still_ran s z low h =
      record { makes = subst (Makes ms here base (kept s)) (sym h.same) (makes_none ms here base (kept s)); lows = subst Lows (sym h.bindings) low }

  -- the same after a state that keeps all
  pub ran_after : (s m z : State) → Still s m → Ran ms here base m z → Ran ms here base s z
  ran_after s m z h g = record { makes = subst (λ k. Makes ms here base k (kept z)) h.same g.makes; lows = g.lows }

  pub bound_ran : (s m : State) (name : List ℕ) (x : Static) (width : ℕ) → Ran ms here base s m → is_lower name ≡ true
      → Ran ms here base s (bind name x width m)
  bound_ran s m name x width h is = record { makes = h.makes; lows = lows_more m.scope.bindings (binding name x) h.lows is }

  pub assigned_ran : (s m : State) (level : ℕ) (c : Constant) → Ran ms here base s m → Ran ms here base s (assign level c m)
  unfolding assign
  assigned_ran s m level c h = by (slice_get m.scope.bindings level) refl where
    by : (o : Option Binding) → slice_get m.scope.bindings level ≡ o → Ran ms here base s (assigned level c o m)
    by None is = h
    by (Some b) is = record {
      makes = h.makes;
      lows = lows_put m.scope.bindings level (binding b.name (next_value b.value c)) h.lows
          (low_at m.scope.bindings level b h.lows is);
    }

  pub placed_ran : (s m : State) (level at number : ℕ) → Ran ms here base s m → Ran ms here base s (set_place level at number m)
  unfolding set_place
  placed_ran s m level at number h = by (slice_get m.scope.bindings level) refl where
    by : (o : Option Binding) → slice_get m.scope.bindings level ≡ o → Ran ms here base s (with_place level at number o m)
    by None is = h
    by (Some b) is = record {
      makes = h.makes;
      lows = lows_put m.scope.bindings level (binding b.name (placed (places (Some b)) at number)) h.lows
          (low_at m.scope.bindings level b h.lows is);
    }

  pub inside_good : (a : Builds) → Good ms here base a → Good ms here base (inside a)
  unfolding inside
  inside_good a good s z low e =
      let r = went (a s) _ z e in
      let h = good s r.0 low r.1 in
      subst (Ran ms here base s) (same_ok (cut (length s.scope.bindings) r.0) z r.2)
      (record { makes = h.makes; lows = lows_take (length s.scope.bindings) r.0.scope.bindings h.lows })
