-- The elements of a tree: those of the first positions are methods of the top, and the others are rules.
use Rattle.std.proofs.Common.{◌≡◌, ◌∙◌, ℕ, suc, ◌<◌, ◌≤◌, Bool, true, false, List, [], ◌∷◌, map, length, Option, Some, None, Result, Ok, Err, refl, sym, ap, subst, if◌then◌else◌}
use Rattle.std.specs.Prelude.{◌==◌, nat_lt, slice_get}
use Rattle.std.proofs.lemmas.Bool.{eqb-true, ltb-true, ltb-false}
use Rattle.std.proofs.lemmas.Option.{same_Some}
use Rattle.bsv_types.specs.declared.modules.Method.{Method}
use Rattle.bsv_types.specs.declared.modules.Rule.{Rule}
use Rattle.bsv_design.specs.declared.element.Element.{Element}
use Rattle.bsv_design.specs.declared.element.Role.TheVariants as role
use Rattle.bsv_tree.specs.declared.source.Source.{Source}
use Rattle.bsv_tree.specs.declared.tree.Built.{Built}
use Rattle.bsv_tree.specs.declared.tree.BuiltRule.{BuiltRule}
use Rattle.bsv_tree.specs.declared.tree.Instance.{Instance}
use Rattle.bsv_tree.specs.declared.tree.Made.{Made}
use Rattle.bsv_tree.specs.declared.tree.Made.TheVariants as made
use Rattle.bsv_tree.specs.declared.values.Fault.{Fault}
use Rattle.bsv_tree.specs.declared.values.Work.{Work}
use Rattle.bsv_tree.specs.tree.Contexts.{made_of}
use Rattle.bsv_tree.specs.tree.Elements.{role_of, port_of, PlacedRule, rule_among, rule_here, or_else, rule_at, rule_in, standing_text, top_methods}
use Rattle.bsv_tree.specs.carrying.Sources.{method_done, method_source, rule_done, carried, rule_source, top_source, source_at}
use Rattle.bsv_design.specs.design.Paths.{with_dot}
use Rattle.bsv_tree.specs.tree.Trees.{TreeData, IsTree, shapes}
use Rattle.bsv_tree.specs.carrying.Working.{Valued}
use Rattle.bsv_inline.proofs.Outlined.{AreOutlined}

-- an element as it was carried out
record Shows (e : Element) (s : Source) : Type 0 where
  name : e.name ≡ s.name
  part : e.role ≡ s.role
  ports : e.arguments ≡ s.ports

-- a method of the top
pub record IsMethod (h : TreeData) (b : Built) (n : ℕ) (e : Element) : Type 0 where
  pub levels : ℕ
  pub has : slice_get b.methods n ≡ Some levels
  pub text : Method
  pub at : slice_get (top_methods h) n ≡ Some text
  pub name : e.name ≡ text.name
  pub part : e.role ≡ role_of text.result
  pub ports : e.arguments ≡ map (port_of (shapes h.typed)) text.params

-- a rule of an instance
pub record StandsAt (is : List Instance) (n : ℕ) (r : PlacedRule) : Type 0 where
  pub number : ℕ
  pub instance : Instance
  pub at : slice_get is number ≡ Some instance
  pub path_is : r.path ≡ instance.path
  pub made_is : instance.made ≡ made.Module r.built
  pub place : ℕ
  pub has : slice_get r.built.rules place ≡ Some r.rule
  pub position : r.rule.position ≡ n

pub record IsRuleOf (is : List Instance) (n : ℕ) (e : Element) : Type 0 where
  pub standing : PlacedRule
  pub at : StandsAt is n standing
  pub name : e.name ≡ with_dot standing.path standing.rule.name
  pub part : e.role ≡ role.Rule
  pub ports : e.arguments ≡ []

pub data IsOf (h : TreeData) (b : Built) (n : ℕ) (e : Element) : Type 0 where
  a_method : n < length (top_methods h) → IsMethod h b n e → IsOf h b n e
  a_rule : length (top_methods h) ≤ n → IsRuleOf h.instances n e → IsOf h b n e

-- ---- methods

method_is : (h : TreeData) (b : Built) (n levels : ℕ) (m : Method) (x : Valued) (e : Element) (s : Source) → Shows e s
    → slice_get b.methods n ≡ Some levels → slice_get (top_methods h) n ≡ Some m → method_done (shapes h.typed) m x ≡ Some s → IsMethod h b n e
method_is h b n levels m (Err f) e s shows has at done = absurd cc
method_is h b n levels m (Ok x) e s shows has at done =
    let is = sym (same_Some _ s done) in
    record {
      levels = levels;
      has = has;
      text = m;
      at = at;
      name = shows.name ∙ ap (λ (z : Source). z.name) is;
      part = shows.part ∙ ap (λ (z : Source). z.role) is;
      ports = shows.ports ∙ ap (λ (z : Source). z.ports) is;
    }

method_there : (h : TreeData) (b : Built) (n : ℕ) (levels : Option ℕ) (m : Option Method) (e : Element) (s : Source) → Shows e s
    → slice_get b.methods n ≡ levels → slice_get (top_methods h) n ≡ m → method_source h b levels m ≡ Some s → IsMethod h b n e
method_there h b n None m e s shows has at done = absurd cc
method_there h b n (Some levels) None e s shows has at done = absurd cc
method_there h b n (Some levels) (Some m) e s shows has at done = method_is h b n levels m _ e s shows has at done

-- ---- rules

record Among (path : List ℕ) (b : Built) (rs : List BuiltRule) (n : ℕ) (r : PlacedRule) : Type 0 where
  path_is : r.path ≡ path
  built_is : r.built ≡ b
  place : ℕ
  has : slice_get rs place ≡ Some r.rule
  position : r.rule.position ≡ n

among_more : (path : List ℕ) (b : Built) (x : BuiltRule) (xs : List BuiltRule) (n : ℕ) (r : PlacedRule) → Among path b xs n r → Among path b (x ∷ xs) n r
among_more path b x xs n r a = record { path_is = a.path_is; built_is = a.built_is; place = suc a.place; has = a.has; position = a.position }

among_first : (path : List ℕ) (b : Built) (x : BuiltRule) (xs : List BuiltRule) (n : ℕ) (r : PlacedRule) → (x.position == n) ≡ true
    → Some (record { path = path; built = b; rule = x }) ≡ Some r → Among path b (x ∷ xs) n r
among_first path b x xs n r same e =
    let is = same_Some _ r e in
    record {
      path_is = sym (ap (λ (z : PlacedRule). z.path) is);
      built_is = sym (ap (λ (z : PlacedRule). z.built) is);
      place = 0;
      has = ap (λ (z : PlacedRule). Some z.rule) is;
      position = sym (ap (λ (z : PlacedRule). z.rule.position) is) ∙ eqb-true x.position n same;
    }

among : (path : List ℕ) (b : Built) (n : ℕ) (rs : List BuiltRule) (r : PlacedRule) → rule_among path b n rs ≡ Some r → Among path b rs n r
among path b n [] r e = absurd cc
among path b n (x ∷ xs) r e = by (x.position == n) refl (among path b n xs r) e where
  by : (c : Bool) → (x.position == n) ≡ c → (rule_among path b n xs ≡ Some r → Among path b xs n r)
      → (if c then Some (record { path = path; built = b; rule = x }) else rule_among path b n xs) ≡ Some r → Among path b (x ∷ xs) n r
  by true same more f = among_first path b x xs n r same f
  by false other more f = among_more path b x xs n r (more f)

stands_first : (i : Instance) (is : List Instance) (n : ℕ) (r : PlacedRule) (x : Made) → i.made ≡ x → rule_here n i.path x ≡ Some r → StandsAt (i ∷ is) n r
stands_first i is n r (made.Primitive p k) same e = absurd cc
stands_first i is n r (made.Module b) same e =
    let a = among i.path b n b.rules r e in
    let built = sym a.built_is in
    record {
      number = 0;
      instance = i;
      at = refl;
      path_is = a.path_is;
      made_is = same ∙ ap made.Module built;
      place = a.place;
      has = subst (λ (z : Built). slice_get z.rules a.place ≡ Some r.rule) built a.has;
      position = a.position;
    }

stands_later : (i : Instance) (is : List Instance) (n : ℕ) (r : PlacedRule) → StandsAt is n r → StandsAt (i ∷ is) n r
stands_later i is n r a = record {
  number = suc a.number;
  instance = a.instance;
  at = a.at;
  path_is = a.path_is;
  made_is = a.made_is;
  place = a.place;
  has = a.has;
  position = a.position;
}

stands : (is : List Instance) (n : ℕ) (r : PlacedRule) → rule_at is n ≡ Some r → StandsAt is n r
stands [] n r e = absurd cc
stands (i ∷ is) n r e = by (rule_here n i.path i.made) refl (stands is n r) e where
  by : (o : Option PlacedRule) → rule_here n i.path i.made ≡ o → (rule_at is n ≡ Some r → StandsAt is n r)
      → or_else o (rule_at is n) ≡ Some r → StandsAt (i ∷ is) n r
  by None here more f = stands_later i is n r (more f)
  by (Some q) here more f = stands_first i is n r i.made refl (here ∙ f)

rule_is : (is : List Instance) (n : ℕ) (r : PlacedRule) (x : Result Work Fault) (e : Element) (s : Source) → Shows e s → StandsAt is n r
    → rule_done (with_dot r.path r.rule.name) x ≡ Some s → IsRuleOf is n e
rule_is is n r (Err f) e s shows at done = absurd cc
rule_is is n r (Ok w) e s shows at done =
    let is = sym (same_Some _ s done) in
    record {
      standing = r;
      at = at;
      name = shows.name ∙ ap (λ (z : Source). z.name) is;
      part = shows.part ∙ ap (λ (z : Source). z.role) is;
      ports = shows.ports ∙ ap (λ (z : Source). z.ports) is;
    }

rule_with : (h : TreeData) (n : ℕ) (r : PlacedRule) (text : Option Rule) (e : Element) (s : Source) → Shows e s → StandsAt h.instances n r
    → carried (standing_text h r text) ≡ Some s → IsRuleOf h.instances n e
rule_with h n r None e s shows at done = absurd cc
rule_with h n r (Some text) e s shows at done = rule_is h.instances n r _ e s shows at done

rule_there : (h : TreeData) (n : ℕ) (o : Option PlacedRule) (e : Element) (s : Source) → Shows e s → rule_at h.instances n ≡ o
    → rule_source h o ≡ Some s → IsRuleOf h.instances n e
rule_there h n None e s shows at done = absurd cc
rule_there h n (Some r) e s shows at done =
    rule_with h n r (rule_in (slice_get h.typed.modules r.built.«module») r.rule.rule) e s shows (stands h.instances n r at) done

-- ---- both

module _ (h : TreeData) (t : IsTree h) where
  pub top_made : made_of (slice_get h.instances 0) ≡ Some (made.Module t.built)
  top_made = ap made_of t.top.first

  shown : (n : ℕ) (e : Element) (s : Source) → Shows e s → source_at h n ≡ Some s → IsOf h t.built n e
  unfolding source_at
  shown n e s shows at = by (nat_lt n (length (top_methods h))) refl at where
    by : (c : Bool) → nat_lt n (length (top_methods h)) ≡ c
        → (if c then top_source h n (made_of (slice_get h.instances 0)) else rule_source h (rule_at h.instances n)) ≡ Some s → IsOf h t.built n e
    by true below f =
        let m = subst (λ (o : Option Made). top_source h n o ≡ Some s) top_made f in
        a_method (ltb-true n (length (top_methods h)) below)
        (method_there h t.built n (slice_get t.built.methods n) (slice_get (top_methods h) n) e s shows refl refl m)
    by false above f =
        a_rule (ltb-false n (length (top_methods h)) above) (rule_there h n (rule_at h.instances n) e s shows refl f)

  pub element_is : (es : List Element) → AreOutlined h es → (n : ℕ) (e : Element) → slice_get es n ≡ Some e → IsOf h t.built n e
  element_is es o n e at =
      let s = o.each n e at in
      shown n e s.0 (record { name = s.2; part = s.3; ports = s.4 }) s.1
