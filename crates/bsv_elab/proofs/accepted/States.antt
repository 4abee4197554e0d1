-- From a state of building to a later one: instances are made after those that are there, and all rules that are there stay
-- accepted. The weight, the variables and the names change nothing of it.
use Rattle.std.proofs.Common.{◌≡◌, ◌∙◌, ℕ, [], Option, Some, None, Result, refl, sym, subst, append-nil}
use Rattle.std.specs.Prelude.{slice_get}
use Rattle.bsv_types.specs.declared.expressions.Expr.{Expr}
use Rattle.bsv_tree.specs.declared.statics.Binding.{Binding}
use Rattle.bsv_tree.specs.declared.values.Constant.{Constant}
use Rattle.bsv_tree.specs.carrying.Working.{tick}
use Rattle.bsv_elab.specs.declared.refused.Refused.{Refused}
use Rattle.bsv_elab.specs.declared.state.State.{State}
use Rattle.bsv_elab.specs.Statics.{Here, Builds, static_fault, count, carried, weigh, carried_in, constant_in, known, number_in, as_number, truth_in, as_truth, inside, assigned, assign}
use Rattle.bsv_elab.proofs.accepted.Gives.{Gives, gives_then, anything, gives_more}
use Rattle.bsv_elab.proofs.accepted.Rules.{Extends, extends_then, EachAccepted, TreeAccepted}

-- what holds of a state
pub record Kept (here : Here) (s : State) : Type 0 where
  pub tree : TreeAccepted here s.grown.instances s.grown.instances
  pub rules : EachAccepted here s.grown.instances here.within s.scope.rules

pub record Went (here : Here) (s r : State) : Type 0 where
  pub extends : Extends s.grown.instances r.grown.instances
  pub kept : Kept here s → Kept here r

module _ (here : Here) where
  pub went_then : (s r q : State) → Went here s r → Went here r q → Went here s q
  went_then s r q h k =
      record { extends = extends_then s.grown.instances r.grown.instances q.grown.instances h.extends k.extends; kept = λ x. k.kept (h.kept x) }

  -- neither instances nor rules were made
  pub went_still : (s r : State) → r.grown.instances ≡ s.grown.instances → r.scope.rules ≡ s.scope.rules → Went here s r
  went_still s r e f = record {
    extends = record { more = []; is = e ∙ sym (append-nil s.grown.instances) };
    kept = λ k. record {
      tree = subst (λ l. TreeAccepted here l l) (sym e) k.tree;
      rules =
          subst (λ rs. EachAccepted here r.grown.instances here.within rs) (sym f)
          (subst (λ l. EachAccepted here l here.within s.scope.rules) (sym e) k.rules);
    };
  }

  -- after a part of building, another one
  pub after : (s r : State) (x : Result State Refused) → Went here s r → Gives (Went here r) x → Gives (Went here s) x
  after s r x h k = gives_more (Went here r) (Went here s) x (λ q g. went_then s r q h g) k

  pub after_with : {A : Type 0} (s r : State) (x : Result (A × State) Refused) → Went here s r → Gives (λ q. Went here r q.1) x
      → Gives (λ q. Went here s q.1) x
  after_with s r x h k = gives_more (λ q. Went here r q.1) (λ q. Went here s q.1) x (λ q g. went_then s r q.1 h g) k

  abbrev pub GoodRun : Builds → Type 0
  GoodRun a = (s : State) → Gives (Went here s) (a s)

  pub weigh_went : (more : ℕ) → GoodRun (weigh more)
  unfolding weigh
  weigh_went more s = gives_then _ (anything (carried (tick (count s) more))) (λ c u. record { gives = went_still s _ refl refl })

  pub constant_went : (e : Expr) (s : State) → Gives (λ r. Went here s r.1) (constant_in here e s)
  unfolding constant_in
  constant_went e s =
      gives_then _ (anything (carried_in here e s)) (λ r u. gives_then _ (anything (known (static_fault here) r.0))
      (λ c u. record { gives = went_still s _ refl refl }))

  pub number_went : (e : Expr) (s : State) → Gives (λ r. Went here s r.1) (number_in here e s)
  unfolding number_in
  number_went e s =
      gives_then _ (constant_went e s) (λ r went. gives_then _ (anything (as_number (static_fault here) r.0)) (λ n u. record { gives = went }))

  pub truth_went : (e : Expr) (s : State) → Gives (λ r. Went here s r.1) (truth_in here e s)
  unfolding truth_in
  truth_went e s =
      gives_then _ (constant_went e s) (λ r went. gives_then _ (anything (as_truth (static_fault here) r.0)) (λ n u. record { gives = went }))

  pub inside_went : (a : Builds) → GoodRun a → GoodRun (inside a)
  unfolding inside
  inside_went a h s = gives_then _ (h s) (λ r went. record { gives = went_then s r _ went (went_still r _ refl refl) })

  assigned_went : (level : ℕ) (c : Constant) (b : Option Binding) (s : State) → Went here s (assigned level c b s)
  assigned_went level c None s = went_still s s refl refl
  assigned_went level c (Some b) s = went_still s _ refl refl

  pub assign_went : (level : ℕ) (c : Constant) (s : State) → Went here s (assign level c s)
  unfolding assign
  assign_went level c s = assigned_went level c (slice_get s.scope.bindings level) s
