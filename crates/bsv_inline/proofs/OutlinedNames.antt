-- Elements that stand for a tree have names of their own, methods come before rules, and attributes name rules.
use Rattle.std.proofs.Common.{◌≡◌, ◌∙◌, ℕ, zero, suc, ◌<◌, ◌≤◌, List, [], ◌∷◌, map, length, Some, refl, sym, ap, subst, arith}
use Rattle.std.specs.Prelude.{IsTrue, slice_get}
use Rattle.std.proofs.lemmas.Option.{same_Some}
use Rattle.bsv_lemmas.proofs.Places.{item_there}
use Rattle.bsv_ast.specs.Names.{is_lower}
use Rattle.bsv_types.specs.declared.definitions.MethodResult.{MethodResult}
use Rattle.bsv_types.specs.declared.definitions.MethodResult.TheVariants as result
use Rattle.bsv_types.specs.declared.definitions.Param.{Param}
use Rattle.bsv_types.specs.declared.modules.Method.{Method}
use Rattle.bsv_types.specs.Kinds.{kind}
use Rattle.bsv_types.specs.Methods.{Signature, methods}
use Rattle.bsv_types.specs.Modules.{param_names, method_right}
use Rattle.bsv_types.specs.Names.{lower_names}
use Rattle.bsv_types.specs.Shapes.{Shapes}
use Rattle.bsv_design.specs.declared.element.Element.{Element}
use Rattle.bsv_design.specs.declared.element.Port.{Port}
use Rattle.bsv_design.specs.declared.element.Role.{Role}
use Rattle.bsv_design.specs.declared.element.Role.TheVariants as role
use Rattle.bsv_design.specs.declared.attributes.Assert.{Assert}
use Rattle.bsv_tree.specs.declared.tree.Built.{Built}
use Rattle.bsv_tree.specs.declared.tree.BuiltRule.{BuiltRule}
use Rattle.bsv_tree.specs.declared.tree.Instance.{Instance}
use Rattle.bsv_tree.specs.declared.tree.Made.{Made}
use Rattle.bsv_tree.specs.declared.tree.Made.TheVariants as made
use Rattle.bsv_design.specs.declared.attributes.Pair.{Pair}
use Rattle.bsv_tree.specs.tree.Contexts.{made_of}
use Rattle.bsv_design.specs.design.Designs.{IsDotted, IsNamed, IsRuleIn}
use Rattle.bsv_tree.specs.tree.Elements.{role_of, port_of, PlacedRule, top_methods, element_count}
use Rattle.bsv_tree.specs.tree.Trees.{TreeData, IsTree, IsRule, IsModuleAt, Agrees, AreNamed, PairsNameRules, AssertsNameRules, methods_of, shapes, world}
use Rattle.bsv_design.specs.design.Paths.{IsPath}
use Rattle.bsv_inline.proofs.Outlined.{AreOutlined, KeepsNames}
use Rattle.bsv_inline.proofs.OutlinedElements.{IsMethod, StandsAt, IsRuleOf, IsOf, a_method, a_rule, top_made, element_is}
use Rattle.bsv_inline.proofs.OutlinedParts.{part_paths, parts_alone}
use Rattle.bsv_design.proofs.Dotted.{dotted_in, told_apart, top_path}
use Rattle.bsv_inline.proofs.OutlinedTyped.{IsWanted, is_wanted, wanted_places, methods_distinct, module_lower}

-- ---- roles and ports

method_named : (r : MethodResult) (name : List ℕ) → IsTrue (is_lower name) → IsNamed (role_of r) name
method_named (result.Value t) name lower = lower
method_named result.Action name lower = lower
method_named (result.ActionValue t) name lower = lower

no_rule : (r : MethodResult) → role_of r ≡ role.Rule → ⊥
no_rule (result.Value t) e = cc
no_rule result.Action e = cc
no_rule (result.ActionValue t) e = cc

abbrev port_names : List Port → List (List ℕ)
port_names ps = map (λ p. p.name) ps

ports_named : (s : Shapes) (ps : List Param) → port_names (map (port_of s) ps) ≡ param_names ps
ports_named s [] = refl
ports_named s (p ∷ ps) = ap (λ (names : List (List ℕ)). p.name ∷ names) (ports_named s ps)

module _ (h : TreeData) (t : IsTree h) where
  -- ---- the methods of the top

  abbrev top_agrees : Agrees h.typed h.instances t.built
  top_agrees = t.agrees 0 t.built (top_made h t)

  abbrev wanted : List Signature
  wanted = methods (shapes h.typed) (kind top_agrees.«module».interface)

  top_methods_are : top_methods h ≡ top_agrees.«module».methods
  top_methods_are = ap (λ (k : ℕ). methods_of (slice_get h.typed.modules k)) (sym t.top.of) ∙ ap methods_of top_agrees.of

  method_wanted : (n : ℕ) (e : Element) (m : IsMethod h t.built n e) → IsWanted (slice_get wanted n) m.text
  method_wanted n e m =
      let agrees = top_agrees.methods n m.levels m.has in
      let at = ap (λ (ms : List Method). slice_get ms n) (sym top_methods_are) ∙ m.at in
      is_wanted (world h.typed) agrees.frame (slice_get wanted n) m.text
      (ap (method_right (world h.typed) agrees.frame (slice_get wanted n)) (sym at) ∙ agrees.typed)

  -- ---- rules

  module_at : (n : ℕ) (r : PlacedRule) (a : StandsAt h.instances n r) → IsModuleAt h.instances a.number r.built
  module_at n r a = ap made_of a.at ∙ ap (λ (x : Made). Some x) a.made_is

  rules_named : (n : ℕ) (r : PlacedRule) (a : StandsAt h.instances n r) → AreNamed h.typed r.built
  rules_named n r a = t.named a.number r.built (module_at n r a)

  rule_lower : (n : ℕ) (r : PlacedRule) (a : StandsAt h.instances n r) → IsTrue (is_lower r.rule.name)
  rule_lower n r a = let names = rules_named n r a in names.lower a.place r.rule a.has

  rule_path : (n : ℕ) (r : PlacedRule) (a : StandsAt h.instances n r) → IsPath r.path
  rule_path n r a = subst IsPath (sym a.path_is) (t.paths a.number a.instance a.at)

  -- ---- each element

  named_of : (n : ℕ) (e : Element) → IsOf h t.built n e → IsNamed e.role e.name
  named_of n e (a_method below m) =
      let w = method_wanted n e m in
      subst (λ (r : Role). IsNamed r e.name) (sym m.part) (method_named m.text.result e.name (ap is_lower m.name ∙ w.lower))
  named_of n e (a_rule above r) =
      let s = r.standing in
      subst (λ (k : Role). IsNamed k e.name) (sym r.part)
      (subst IsDotted (sym r.name) (dotted_in s.path s.rule.name (rule_path n s r.at) (rule_lower n s r.at)))

  arguments_of : (n : ℕ) (e : Element) → IsOf h t.built n e → IsTrue (lower_names (port_names e.arguments))
  arguments_of n e (a_method below m) =
      let w = method_wanted n e m in
      ap (λ (ps : List Port). lower_names (port_names ps)) m.ports ∙ ap lower_names (ports_named (shapes h.typed) m.text.params) ∙ w.params
  arguments_of n e (a_rule above r) = ap (λ (ps : List Port). lower_names (port_names ps)) r.ports

  rule_of : (n : ℕ) (e : Element) → IsOf h t.built n e → e.role ≡ role.Rule → e.arguments ≡ []
  rule_of n e (a_method below m) is = absurd (no_rule m.text.result (sym m.part ∙ is))
  rule_of n e (a_rule above r) is = r.ports

  -- ---- two elements

  first_of : (m n : ℕ) (d e : Element) → IsOf h t.built m d → IsOf h t.built n e → m ≤ n → d.role ≡ role.Rule → e.role ≡ role.Rule
  first_of m n d e (a_method below a) b before is = absurd (no_rule a.text.result (sym a.part ∙ is))
  first_of m n d e (a_rule above a) (a_method below b) before is = absurd (omega arith)
  first_of m n d e (a_rule above a) (a_rule further b) before is = b.part

  two_methods : (m n : ℕ) (d e : Element) → IsMethod h t.built m d → IsMethod h t.built n e → d.name ≡ e.name → m ≡ n
  two_methods m n d e a b same =
      wanted_places wanted m n a.text b.text (methods_distinct h.typed (kind top_agrees.«module».interface)) (method_wanted m d a)
      (method_wanted n e b) (sym a.name ∙ same ∙ b.name)

  -- the instance of a path
  one_built : (m n : ℕ) (r : PlacedRule) (built : Built) (i : Instance) (a : StandsAt h.instances n r) → slice_get h.instances m ≡ Some i
      → i.made ≡ made.Module built → i.path ≡ r.path → (m ≡ a.number) × (built ≡ r.built)
  one_built m n r built i a at made_is path_is =
      let number = t.apart m a.number i a.instance at a.at (path_is ∙ a.path_is) in
      let one = same_Some i a.instance (sym at ∙ ap (slice_get h.instances) number ∙ a.at) in
      let made_same : made.Module built ≡ made.Module r.built = sym made_is ∙ ap (λ (z : Instance). z.made) one ∙ a.made_is in
      (number, cc)

  method_and_rule : (m n : ℕ) (d e : Element) → IsMethod h t.built m d → IsRuleOf h.instances n e → d.name ≡ e.name → ⊥
  method_and_rule m n d e a b same =
      let w = method_wanted m d a in
      let s = b.standing in
      let told = told_apart [] s.path a.text.name s.rule.name top_path (rule_path n s b.at) w.lower (rule_lower n s b.at) (sym a.name ∙ same ∙ b.name) in
      let one = one_built 0 n s t.built (record { path = []; made = made.Module t.built }) b.at t.top.first refl told.0 in
      let place : s.built.«module» ≡ h.top = ap (λ (z : Built). z.«module») (sym one.1) ∙ t.top.of in
      let method_at = ap (λ (k : ℕ). slice_get (methods_of (slice_get h.typed.modules k)) m) place ∙ a.at in
      let names = rules_named n s b.at in
      let stands = b.at in
      names.apart stands.place m s.rule a.text stands.has method_at (sym told.1)

  two_rules : (m n : ℕ) (d e : Element) → IsRuleOf h.instances m d → IsRuleOf h.instances n e → d.name ≡ e.name → m ≡ n
  two_rules m n d e a b same =
      let r = a.standing in
      let s = b.standing in
      let f = a.at in
      let g = b.at in
      let told = told_apart r.path s.path r.rule.name s.rule.name (rule_path m r f) (rule_path n s g) (rule_lower m r f) (rule_lower n s g)
      (sym a.name ∙ same ∙ b.name) in
      let one = one_built f.number n s r.built f.instance g f.at f.made_is (sym f.path_is ∙ told.0) in
      let has = ap (λ (z : Built). slice_get z.rules g.place) one.1 ∙ g.has in
      let names = rules_named m r f in
      let place = names.rules f.place g.place r.rule s.rule f.has has told.1 in
      let rule = same_Some r.rule s.rule (sym f.has ∙ ap (slice_get r.built.rules) place ∙ has) in
      sym f.position ∙ ap (λ (z : BuiltRule). z.position) rule ∙ g.position

  apart_of : (m n : ℕ) (d e : Element) → IsOf h t.built m d → IsOf h t.built n e → d.name ≡ e.name → m ≡ n
  apart_of m n d e (a_method _ a) (a_method _ b) same = two_methods m n d e a b same
  apart_of m n d e (a_method _ a) (a_rule _ b) same = absurd (method_and_rule m n d e a b same)
  apart_of m n d e (a_rule _ a) (a_method _ b) same = absurd (method_and_rule n m e d b a (sym same))
  apart_of m n d e (a_rule _ a) (a_rule _ b) same = two_rules m n d e a b same

  -- ---- what attributes name

  module _ (es : List Element) (o : AreOutlined h es) where
    abbrev at : (n : ℕ) (e : Element) → slice_get es n ≡ Some e → IsOf h t.built n e
    at = element_is h t es o

    rule_from : (n : ℕ) (e : Element) → slice_get es n ≡ Some e → length (top_methods h) ≤ n → IsOf h t.built n e → IsRuleIn es n
    rule_from n e has behind (a_method below m) = absurd (omega arith)
    rule_from n e has behind (a_rule above r) = record { element = e; at = has; rule = r.part }

    after_all : (n : ℕ) → IsRule h.instances n → length (top_methods h) ≤ n
    after_all n r = subst (λ (k : ℕ). length (top_methods h) ≤ k) r.at (t.placed.behind r.rule r.has)

    within_all : (n : ℕ) → IsRule h.instances n → n < length es
    unfolding element_count
    within_all n r =
        let within : n < element_count h = subst (λ (k : ℕ). k < element_count h) r.at (t.placed.within r.rule r.has) in
        subst (λ (k : ℕ). n < k) (sym o.as_many) within

    rule_in : (n : ℕ) → IsRule h.instances n → IsRuleIn es n
    rule_in n r = let e = item_there es n (within_all n r) in rule_from n e.0 e.1 (after_all n r) (at n e.0 e.1)

    pairs_in : (ps : List Pair) → PairsNameRules h.instances ps → (k : ℕ) (p : Pair) → slice_get ps k ≡ Some p
        → IsRuleIn es p.before × IsRuleIn es p.after
    pairs_in [] rules k p e = absurd cc
    pairs_in (x ∷ ps) rules zero p e =
        subst (λ (z : Pair). IsRuleIn es z.before × IsRuleIn es z.after) (same_Some x p e) (rule_in x.before rules.0, rule_in x.after rules.1)
    pairs_in (x ∷ ps) rules (suc k) p e = pairs_in ps rules.2 k p e

    asserts_in : (xs : List Assert) → AssertsNameRules h.instances xs → (k : ℕ) (a : Assert) → slice_get xs k ≡ Some a → IsRuleIn es a.rule
    asserts_in [] rules k a e = absurd cc
    asserts_in (x ∷ xs) rules zero a e = subst (λ (z : Assert). IsRuleIn es z.rule) (same_Some x a e) (rule_in x.rule rules.0)
    asserts_in (x ∷ xs) rules (suc k) a e = asserts_in xs rules.1 k a e

    kept : KeepsNames h es
    kept = record {
      name = module_lower h.typed h.top;
      named = λ n e has. named_of n e (at n e has);
      apart = λ m n d e f g. apart_of m n d e (at m d f) (at n e g);
      arguments = λ n e has. arguments_of n e (at n e has);
      rule = λ n e has. rule_of n e (at n e has);
      methods_first = λ m n d e f g. first_of m n d e (at m d f) (at n e g);
      paths = part_paths h t;
      parts_apart = parts_alone h t;
      pairs = pairs_in h.pairs t.pairs;
      asserts = asserts_in h.asserts t.asserts;
    }

pub keeps_names : (h : TreeData) → IsTree h → (es : List Element) → AreOutlined h es → KeepsNames h es
keeps_names = kept
