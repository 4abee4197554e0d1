-- Parts of building taken apart; values of expressions change the weight alone.
use Rattle.std.proofs.Common.{◌≡◌, ℕ, Bool, true, false, Option, Some, None, Result, Ok, Err, refl, sym, ap, subst}
use Rattle.std.specs.Prelude.{ℤ}
use Rattle.std.proofs.lemmas.Option.{same_Some}
use Rattle.bsv_lemmas.proofs.Choices.{same_ok, passed}
use Rattle.bsv_fail.specs.Given.{◌>>=◌}
use Rattle.bsv_types.specs.declared.expressions.Expr.{Expr}
use Rattle.bsv_types.specs.Expressions.{Frame}
use Rattle.bsv_types.specs.Statements.{Run, if_right, inner}
use Rattle.bsv_tree.specs.declared.values.Constant.{Constant}
use Rattle.bsv_tree.specs.declared.values.Fault.{Fault}
use Rattle.bsv_tree.specs.carrying.Working.{tick}
use Rattle.bsv_elab.specs.declared.state.State.{State}
use Rattle.bsv_elab.specs.Statics.{Here, static_fault, count, carried, countable, at_weight, weigh, known, carried_in, constant_in, as_number, number_in, as_truth, truth_in}

pub went : {A B E : Type 0} (x : Result A E) (f : A → Result B E) (y : B) → (x >>= f) ≡ Ok y → (a : A) × (x ≡ Ok a) × (f a ≡ Ok y)
went (Ok a) f y e = (a, refl, e)
went (Err z) f y e = absurd cc

pub carried_is : {A : Type 0} (r : Result A Fault) (x : A) → carried r ≡ Ok x → r ≡ Ok x
carried_is (Ok y) x e = ap Ok (same_ok y x e)
carried_is (Err z) x e = absurd cc

pub if_right_is : (b : Bool) (f g : Frame) → if_right b f ≡ Some g → (b ≡ true) × (f ≡ g)
if_right_is true f g e = (refl, same_Some f g e)
if_right_is false f g e = absurd cc

inner_of : (o : Option Frame) (f : Frame) → inner (λ g. o) f ≡ true → (g : Frame) × (o ≡ Some g)
inner_of None f e = absurd cc
inner_of (Some g) f e = (g, refl)

pub inner_is : (r : Run) (f : Frame) → inner r f ≡ true → (g : Frame) × (r f ≡ Some g)
inner_is r f e = inner_of (r f) f e

pub counted_is : (n k : ℕ) → countable n ≡ Ok k → n ≡ k
unfolding countable
counted_is n k e = same_ok n k (passed _ (Ok n) _ k e).1

module _ (s : State) where
  -- the state with another weight
  abbrev pub Same : State → Type 0
  Same r = (w : ℕ) × (r ≡ at_weight w s)

  pub weigh_same : (more : ℕ) (r : State) → weigh more s ≡ Ok r → Same r
  unfolding weigh
  weigh_same more r e = let c = went (carried (tick (count s) more)) _ r e in (c.0.weight, sym (same_ok (at_weight c.0.weight s) r c.2))

module _ (here : Here) (s : State) where
  pub constant_same : (x : Expr) (r : Constant × State) → constant_in here x s ≡ Ok r → Same s r.1
  unfolding constant_in
  constant_same x r e =
      let a = went (carried_in here x s) _ r e in
      let c = went (known (static_fault here) a.0.0) _ r a.2 in
      (a.0.1.count.weight, sym (ap (λ (q : Constant × State). q.1) (same_ok (c.0, at_weight a.0.1.count.weight s) r c.2)))

  pub number_same : (x : Expr) (r : ℤ × State) → number_in here x s ≡ Ok r → Same s r.1
  unfolding number_in
  number_same x r e =
      let a = went (constant_in here x s) _ r e in
      let c = went (as_number (static_fault here) a.0.0) _ r a.2 in
      subst (Same s) (ap (λ (q : ℤ × State). q.1) (same_ok (c.0, a.0.1) r c.2)) (constant_same x a.0 a.1)

  pub truth_same : (x : Expr) (r : Bool × State) → truth_in here x s ≡ Ok r → Same s r.1
  unfolding truth_in
  truth_same x r e =
      let a = went (constant_in here x s) _ r e in
      let c = went (as_truth (static_fault here) a.0.0) _ r a.2 in
      subst (Same s) (ap (λ (q : Bool × State). q.1) (same_ok (c.0, a.0.1) r c.2)) (constant_same x a.0 a.1)
