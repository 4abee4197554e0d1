-- A rule that building carries out stays accepted; a method changes no rule.
use Rattle.std.proofs.Common.{◌≡◌, ◌∙◌, ℕ, ◌+◌, List, length, Option, Some, None, refl, sym, subst}
use Rattle.std.specs.Prelude.{nat_lt, slice_get}
use Rattle.std.proofs.lemmas.Option.{same_Some}
use Rattle.bsv_types.specs.declared.modules.Method.{Method}
use Rattle.bsv_types.specs.declared.modules.Module.{Module}
use Rattle.bsv_types.specs.declared.modules.Rule.{Rule}
use Rattle.bsv_tree.specs.carrying.Carrying as carrying
use Rattle.bsv_tree.specs.tree.Trees.{IsAccepted}
use Rattle.bsv_tree.specs.carrying.Working.{no_steps}
use Rattle.bsv_elab.specs.declared.state.State.{State}
use Rattle.bsv_elab.specs.Names.{new_name, take_name}
use Rattle.bsv_elab.specs.Statics.{Here, site, count, countable}
use Rattle.bsv_elab.specs.Elements.{most_elements, rules_of, methods_of, here_module, built_rule, with_rule, named_rule, weight_of, rule_from, rule, method_from, method}
use Rattle.bsv_elab.proofs.accepted.Gives.{Gives, gives_then, anything, gives_if, accepted_gives}
use Rattle.bsv_elab.proofs.accepted.Rules.{extends_same, RuleGoes, RuleAccepted, rule_lighter, each_after}
use Rattle.bsv_elab.proofs.accepted.States.{Went, went_then, went_still, GoodRun}

module _ (here : Here) where
  named_went : (name : List ℕ) (s : State) → Gives (λ n. Went here s n.1) (named_rule here name s)
  unfolding named_rule
  named_went name s = gives_then _ (anything (new_name here.path name s.scope.elements)) (λ n u. record { gives = went_still here s _ refl refl })

  -- the rule is the one that was carried out
  accepted_here : (number : ℕ) (r : Rule) → slice_get (rules_of (here_module here)) number ≡ Some r → (name : List ℕ) (position : ℕ) (s : State)
      → IsAccepted (carrying.rule (site here s) r.condition r.body (no_steps (count s)))
      → RuleAccepted here s.grown.instances here.within (built_rule name number position s)
  accepted_here number r is name position s h m at source there =
      let found : slice_get m.rules number ≡ Some r = subst (λ (o : Option Module). slice_get (rules_of o) number ≡ Some r) at is in
      subst (λ x. RuleGoes here s.grown.instances here.within s.scope.bindings x) (same_Some r source (sym found ∙ there))
      (rule_lighter here s.grown.instances here.within s.scope.bindings r s.grown.weight h)

  rule_made : (number : ℕ) (r : Rule) → slice_get (rules_of (here_module here)) number ≡ Some r → (name : List ℕ) (position weight : ℕ) (s : State)
      → IsAccepted (carrying.rule (site here s) r.condition r.body (no_steps (count s))) → Went here s (with_rule name number position weight s)
  rule_made number r is name position weight s h = record {
    extends = extends_same s.grown.instances;
    kept = λ k. record {
      tree = k.tree;
      rules =
          each_after here s.grown.instances here.within s.scope.rules (built_rule name number position s) k.rules
          (accepted_here number r is name position s h);
    };
  }

  weight_gives : (r : Rule) (s : State)
      → Gives (λ w. IsAccepted (carrying.rule (site here s) r.condition r.body (no_steps (count s)))) (weight_of here r s)
  weight_gives r s = gives_then _ (accepted_gives (carrying.rule (site here s) r.condition r.body (no_steps (count s)))) (λ w h. record { gives = h })

  rule_from_went : (number : ℕ) (o : Option Rule) → slice_get (rules_of (here_module here)) number ≡ o → GoodRun here (rule_from here number o)
  rule_from_went number None is s = record { gives = tt }
  rule_from_went number (Some r) is s =
      gives_then _ (named_went r.name s) (λ n went. gives_if (nat_lt n.1.grown.rules most_elements)
      (gives_then _ (weight_gives r n.1) (λ weight h. record {
        gives = went_then here s n.1 _ went
            (rule_made number r is n.0 (here.first + n.1.grown.rules) weight n.1 h);
      }))
      (record { gives = tt }))

  pub rule_went : (number : ℕ) → GoodRun here (rule here number)
  unfolding rule
  rule_went number s = rule_from_went number (slice_get (rules_of (here_module here)) number) refl s

  method_from_went : (number : ℕ) (o : Option Method) → GoodRun here (method_from here number o)
  method_from_went number None s = record { gives = tt }
  method_from_went number (Some m) s =
      gives_then _ (anything (take_name here.path m.name s.scope.elements))
      (λ names u. gives_then _ (anything (countable (length s.scope.bindings))) (λ level u. record { gives = went_still here s _ refl refl }))

  pub method_went : (number : ℕ) → GoodRun here (method here number)
  unfolding method
  method_went number s = method_from_went number (slice_get (methods_of (here_module here)) number) s
