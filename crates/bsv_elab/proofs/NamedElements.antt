-- A rule and a method take names that were free, and a rule has the next position.
use Rattle.std.proofs.Common.{◌≡◌, ◌∙◌, ℕ, ◌+◌, true, false, List, [], ◌∷◌, length, Option, Some, None, Ok, refl, sym, ap, subst, arith}
use Rattle.std.specs.Prelude.{nat_lt, slice_get}
use Rattle.std.proofs.lemmas.List.{append-nil}
use Rattle.bsv_lemmas.proofs.Choices.{same_ok, passed}
use Rattle.bsv_ast.specs.Names.{is_lower}
use Rattle.bsv_types.specs.declared.modules.Method.{Method}
use Rattle.bsv_types.specs.declared.modules.Module.{Module}
use Rattle.bsv_types.specs.declared.modules.Rule.{Rule}
use Rattle.bsv_elab.specs.declared.refused.LimitKind.TheVariants as limit
use Rattle.bsv_elab.specs.declared.refused.Refused.TheVariants as refused
use Rattle.bsv_elab.specs.declared.state.State.{State}
use Rattle.bsv_elab.specs.Names.{Named, new_name, take_name}
use Rattle.bsv_elab.specs.Statics.{Here, countable}
use Rattle.bsv_elab.specs.Elements.{most_elements, rules_of, methods_of, here_module, built_rule, with_rule, with_elements, named_rule, weight_of, rule_from, rule, with_level, method_from, method}
use Rattle.bsv_elab.proofs.NamedLists.{is_in, longer_none}
use Rattle.bsv_elab.proofs.NamedTaken.{Takes, take_name_is, takes_longer, takes_taken, NewName, new_name_is}
use Rattle.bsv_elab.proofs.NamedGroups.{group_none}
use Rattle.bsv_elab.proofs.NamedRules.{rules_none, rules_one}
use Rattle.bsv_elab.proofs.PlacedCounts.{occurs, occurs_in, fills_none, fills_one}
use Rattle.bsv_elab.proofs.NamedMakes.{kept, Lows, marks_more, Makes, Ran, Good}
use Rattle.bsv_elab.proofs.FittingSteps.{went}

abbrev RuleNamed : Here → List ℕ → State → List ℕ × State → Type 0
RuleNamed here name s r = (q : List ℕ × Named) × NewName name s.scope.elements q × ((q.0, with_elements q.1 s) ≡ r)

named_rule_is : (here : Here) (name : List ℕ) (s : State) (r : List ℕ × State) → named_rule here name s ≡ Ok r → RuleNamed here name s r
unfolding named_rule
named_rule_is here name s r e =
    let q = went (new_name here.path name s.scope.elements) _ r e in
    (q.0, new_name_is here.path name s.scope.elements q.0 q.1, same_ok (q.0.0, with_elements q.0.1 s) r q.2)

-- what a method takes
pub record Took (name : List ℕ) (s z : State) : Type 0 where
  pub fresh : is_in name s.scope.elements.taken ≡ false
  pub taken : is_in name z.scope.elements.taken ≡ true
  pub rules : z.scope.rules ≡ s.scope.rules

abbrev method_result : ℕ → ℕ → Named → State → State
method_result number level names s = with_level number level (with_elements names s)

method_by : (here : Here) (number : ℕ) (m : Method) (s z : State) → method_from here number (Some m) s ≡ Ok z
    → (names : Named) × (level : ℕ) × Takes m.name s.scope.elements names × (method_result number level names s ≡ z)
method_by here number m s z e =
    let n = went (take_name here.path m.name s.scope.elements) _ z e in
    let l = went (countable (length s.scope.bindings)) _ z n.2 in
    (n.0, l.0, take_name_is here.path m.name s.scope.elements n.0 n.1, same_ok (method_result number l.0 n.0 s) z l.2)

pub method_took : (here : Here) (number : ℕ) (m : Method) (s z : State) → slice_get (methods_of (here_module here)) number ≡ Some m
    → method here number s ≡ Ok z → Took m.name s z
unfolding method
method_took here number m s z is e =
    let h = method_by here number m s z (ap (λ o. method_from here number o s) (sym is) ∙ e) in
    subst (Took m.name s) h.3 (record { fresh = h.2.fresh; taken = takes_taken m.name s.scope.elements h.0 h.2; rules = refl })

module _ (ms : List Module) (here : Here) (base : List (List ℕ)) where
  rule_made : (number weight : ℕ) (name : List ℕ) (s : State) (q : List ℕ × Named) → is_lower name ≡ true → NewName name s.scope.elements q
      → Makes ms here base (kept s) (kept (with_rule q.0 number (here.first + s.grown.rules) weight (with_elements q.1 s)))
  rule_made number weight name s q low h =
      let r = built_rule q.0 number (here.first + s.grown.rules) (with_elements q.1 s) in
      record {
        more = [];
        instances_are = sym (append-nil s.grown.instances);
        names = longer_none s.scope.instances.taken;
        group = group_none ms base here.around s.scope.instances.taken;
        elements = takes_longer q.0 s.scope.elements q.1 h.takes;
        rules = r ∷ [];
        rules_are = refl;
        named = rules_one s.scope.elements.taken q.1.taken r h.takes.fresh (takes_taken q.0 s.scope.elements q.1 h.takes) (h.lower low);
        many = omega arith;
        positions = fills_one (here.first + s.grown.rules) (here.first + (s.grown.rules + 1))
            (λ p. occurs p (r ∷ []) + occurs_in p []) (omega arith) (λ p. omega arith);
        marks = λ m. marks_more here.first (here.first + s.grown.rules) (here.first + (s.grown.rules + 1)) s.scope.marks (omega arith) m;
      }

  rule_good_by : (number : ℕ) (o : Option Rule) → ((r : Rule) → o ≡ Some r → is_lower r.name ≡ true) → Good ms here base (rule_from here number o)
  rule_good_by number None low s z lows e = absurd cc
  rule_good_by number (Some r) low s z lows e =
      let n = went (named_rule here r.name s) _ z e in
      let l = passed (nat_lt n.0.1.grown.rules most_elements) _ (refused.Limit limit.Elements most_elements) z n.2 in
      let w = went (weight_of here r n.0.1) _ z l.1 in
      let found = named_rule_is here r.name s n.0 n.1 in
      let made_there = rule_made number w.0 r.name s found.0 (low r refl) found.1 in
      let there = subst (λ (x : List ℕ × State). Makes ms here base (kept s) (kept (with_rule x.0 number (here.first + x.1.grown.rules) w.0 x.1)))
      found.2 made_there in
      let is = same_ok (with_rule n.0.0 number (here.first + n.0.1.grown.rules) w.0 n.0.1) z w.2 in
      let same : n.0.1.scope.bindings ≡ s.scope.bindings = ap (λ (x : List ℕ × State). x.1.scope.bindings) (sym found.2) in
      subst (Ran ms here base s) is (record { makes = there; lows = subst (λ bs. Lows bs) (sym same) lows })

  pub rule_good : (number : ℕ)
      → ((r : Rule) → slice_get (rules_of (here_module here)) number ≡ Some r → is_lower r.name ≡ true) → Good ms here base (rule here number)
  unfolding rule
  rule_good number low s z lows e = rule_good_by number (slice_get (rules_of (here_module here)) number) low s z lows e

  method_made : (number level : ℕ) (name : List ℕ) (names : Named) (s : State) → Takes name s.scope.elements names
      → Makes ms here base (kept s) (kept (method_result number level names s))
  method_made number level name names s h = record {
    more = [];
    instances_are = sym (append-nil s.grown.instances);
    names = longer_none s.scope.instances.taken;
    group = group_none ms base here.around s.scope.instances.taken;
    elements = takes_longer name s.scope.elements names h;
    rules = [];
    rules_are = sym (append-nil s.scope.rules);
    named = rules_none s.scope.elements.taken names.taken;
    many = omega arith;
    positions = fills_none (here.first + s.grown.rules) (λ p. occurs p [] + occurs_in p []) (λ p. refl);
    marks = λ m. m;
  }

  method_good_by : (number : ℕ) (o : Option Method) → Good ms here base (method_from here number o)
  method_good_by number None s z lows e = absurd cc
  method_good_by number (Some m) s z lows e =
      let h = method_by here number m s z e in
      subst (Ran ms here base s) h.3 (record { makes = method_made number h.1 m.name h.0 s h.2; lows = lows })

  pub method_good : (number : ℕ) → Good ms here base (method here number)
  unfolding method
  method_good number s z lows e = method_good_by number (slice_get (methods_of (here_module here)) number) s z lows e
