-- The flat bodies of a tree are a design.
use Rattle.std.proofs.Common.{◌≡◌, ◌∙◌, ℕ, zero, suc, ◌+◌, ◌<◌, Bool, true, false, List, [], ◌∷◌, ◌++◌, map, length, Option, Some, None, refl, sym, ap, subst, arith, length-append}
use Rattle.std.specs.Prelude.{slice_get, nat_lt, option_map, if◌then◌else◌}
use Rattle.std.specs.List.{list_all}
use Rattle.std.proofs.Math.Logic.{∥∥₁_elim, ∥∥₁_prop}
use Rattle.std.proofs.lemmas.Bool.{lt-ltb}
use Rattle.bsv_types.specs.declared.modules.Module.{Module}
use Rattle.bsv_types.specs.Names.{countable}
use Rattle.bsv_design.specs.declared.design.Design.{Design}
use Rattle.bsv_design.specs.declared.design.NamedPart.{NamedPart}
use Rattle.bsv_design.specs.declared.element.Element.{Element}
use Rattle.bsv_tree.specs.declared.source.Source.{Source}
use Rattle.bsv_design.specs.declared.attributes.Assert.{Assert}
use Rattle.bsv_tree.specs.declared.tree.Instance.{Instance}
use Rattle.bsv_design.specs.declared.attributes.Pair.{Pair}
use Rattle.bsv_tree.specs.declared.whole.Tree.{Tree}
use Rattle.bsv_design.specs.design.Designs.{DesignData, IsElement, IsDesign}
use Rattle.bsv_design.specs.scheme.Schemes.{design_scheme, AreAlike}
use Rattle.bsv_tree.specs.meaning.Schemes.{tree_scheme}
use Rattle.bsv_design.specs.scheme.Seen.{design_data}
use Rattle.bsv_tree.specs.tree.Seen.{tree_data}
use Rattle.bsv_tree.specs.carrying.Sources.{source_at, element_at}
use Rattle.bsv_tree.specs.tree.Elements.{element_count, parts_among}
use Rattle.bsv_design.specs.scheme.Traces.{body_trace}
use Rattle.bsv_tree.specs.tree.Trees.{TreeData, IsTree}
use Rattle.bsv_body.specs.declared.body.Body.{Body}
use Rattle.bsv_body.specs.Bodies.{IsBody}
use Rattle.bsv_inline.specs.Flattening.{kinds, IsFlat, AreFlat, IsFlatElement, AreFlatElements, KeepsWidths, top_name}
use Rattle.bsv_inline.specs.Placed.{element, call_fits}
use Rattle.bsv_inline.proofs.Alike.{alike}
use Rattle.bsv_inline.proofs.Flattened.{flat_at, exclusive, decided}
use Rattle.bsv_inline.proofs.Outlined.{AreOutlined, KeepsNames}
use Rattle.bsv_inline.proofs.OutlinedDesigns.{is_design}
use Rattle.bsv_inline.proofs.OutlinedNames.{keeps_names}
use Rattle.bsv_inline.proofs.SameTrace.{IsElementOf, same_trace, acts_where_fits}

-- ---- one element

below : (h : TreeData) (n : ℕ) (s : Source) → n < element_count h → source_at h n ≡ Some s → element_at h n ≡ Some s
below h n s l is = ap (λ b. if b then source_at h n else None) (lt-ltb n (element_count h) l) ∙ is

above : (h : TreeData) (n : ℕ) (s : Source) → element_at h n ≡ Some s → source_at h n ≡ Some s
above h n s is = by (nat_lt n (element_count h)) is where
  by : (b : Bool) → (if b then source_at h n else None) ≡ Some s → source_at h n ≡ Some s
  by true e = e
  by false e = absurd cc

kinds_are : (h : TreeData) (parts : List NamedPart) → parts ≡ parts_among h.instances → map (λ p. p.kind) parts ≡ kinds h
kinds_are h parts among = ap (λ (ps : List NamedPart). map (λ p. p.kind) ps) among

stands : (h : TreeData) (s : Source) (b : Body) (e : Element) → e ≡ element h.typed.modules h.instances s.name s.role s.ports b → IsElementOf h.typed.modules h.instances b e
stands h s b e made = record {
  nodes = ap (λ (x : Element). x.nodes) made;
  calls = ap (λ (x : Element). x.calls) made;
  conditions = ap (λ (x : Element). x.conditions) made;
  result = ap (λ (x : Element). x.result) made;
}

-- the element of a source, of a body that does what its steps do
flat_of : (h : TreeData) (n count : ℕ) (s : Source) (b : Body) (parts : List NamedPart) (e : Element)
    → n < element_count h → source_at h n ≡ Some s → count ≡ length s.ports → parts ≡ parts_among h.instances
    → IsBody count s.steps s.gives b → list_all (call_fits (map (λ p. p.kind) parts) h.instances) b.calls ≡ true
    → e ≡ element h.typed.modules h.instances s.name s.role s.ports b → IsFlat h n e
flat_of h n count s b parts e l at many among body right made = record {
  source = s;
  at = below h n s l at;
  name = ap (λ (x : Element). x.name) made;
  role = ap (λ (x : Element). x.role) made;
  arguments = ap (λ (x : Element). x.arguments) made;
  trace = λ r ws long. ap (λ ks. body_trace ks e r ws) (sym (kinds_are h parts among))
      ∙ same_trace h.typed.modules h.instances (map (λ p. p.kind) parts) count s.steps s.gives b e body (stands h s b e made)
      (acts_where_fits (map (λ p. p.kind) parts) h.instances b.calls right) r ws (long ∙ sym many);
}

pub laid_flat : (h : TreeData) (n count : ℕ) (s : Source) (b : Body) (parts : List NamedPart) (e : Element) (ms : List Module) (is : List Instance)
    → n < element_count h → source_at h n ≡ Some s → count ≡ length s.ports → parts ≡ parts_among h.instances → ms ≡ h.typed.modules → is ≡ h.instances
    → IsBody count s.steps s.gives b → list_all (call_fits (map (λ p. p.kind) parts) is) b.calls ≡ true
    → e ≡ element ms is s.name s.role s.ports b → IsFlat h n e
laid_flat h n count s b parts e ms is l at many among modules instances body right made =
    let made_here : e ≡ element h.typed.modules is s.name s.role s.ports b = made ∙ ap (λ (x : List Module). element x is s.name s.role s.ports b) modules in
    flat_of h n count s b parts e l at many among body
    (subst (λ (x : List Instance). list_all (call_fits (map (λ p. p.kind) parts) x) b.calls ≡ true) instances right)
    (made_here ∙ ap (λ (x : List Instance). element h.typed.modules x s.name s.role s.ports b) instances)

-- ---- one more

more_from : (h : TreeData) (es : List Element) (e : Element) (k : ℕ) → AreFlatElements h k es → IsFlatElement h (k + length es) e → AreFlatElements h k (es ++ e ∷ [])
more_from h [] e k f g = let at : k + 0 ≡ k = omega arith in (subst (λ j. IsFlatElement h j e) at g, tt)
more_from h (x ∷ es) e k f g =
    let at : k + suc (length es) ≡ k + 1 + length es = omega arith in
    (f.0, more_from h es e (k + 1) f.1 (subst (λ j. IsFlatElement h j e) at g))

pub laid_more : (h : TreeData) (es all : List Element) (e : Element) (n : ℕ) → AreFlatElements h 0 es → n ≡ length es → IsFlatElement h n e → all ≡ es ++ e ∷ []
    → AreFlatElements h 0 all × (n + 1 ≡ length all)
laid_more h es all e n f at g is =
    let from : n ≡ 0 + length es = omega (arith, at) in
    let long : length (es ++ e ∷ []) ≡ length es + 1 = omega (arith, length-append es (e ∷ [])) in (
      subst (AreFlatElements h 0) (sym is) (more_from h es e 0 f (subst (λ i. IsFlatElement h i e) from g)),
      ap (λ k. k + 1) at ∙ sym long ∙ ap (λ (xs : List Element). length xs) (sym is),
    )

-- ---- all elements

flat_all : (h : TreeData) (es : List Element) (k : ℕ) → AreFlatElements h k es → AreFlat h k es
flat_all h [] k l = tt
flat_all h (e ∷ es) k l = (l.0.flat, flat_all h es (k + 1) l.1)

keeps_from : (h : TreeData) (es : List Element) (k : ℕ) → AreFlatElements h k es → (n : ℕ) (e : Element) → slice_get es n ≡ Some e → KeepsWidths h e
keeps_from h [] k l n e is = absurd cc
keeps_from h (x ∷ es) k l zero e is = let it : x ≡ e = cc in subst (KeepsWidths h) it l.0.keeps
keeps_from h (x ∷ es) k l (suc n) e is = keeps_from h es (k + 1) l.1 n e is

outlined : (h : TreeData) (es : List Element) → AreFlatElements h 0 es → length es ≡ element_count h → AreOutlined h es
outlined h es l long = record {
  as_many = long;
  each = λ n e is. let f = flat_at h es (flat_all h es 0 l) n e is in (f.source, above h n f.source f.at, f.name, f.role, f.arguments);
}

is_element : (h : TreeData) (es : List Element) → AreFlatElements h 0 es → KeepsNames h es → (n : ℕ) (e : Element) → slice_get es n ≡ Some e → IsElement (kinds h) e
is_element h es l names n e is =
    let f = flat_at h es (flat_all h es 0 l) n e is in
    let k = keeps_from h es 0 l n e is in
    record {
      fits = k.fits;
      nodes = k.nodes;
      calls = k.calls;
      arguments = names.arguments n e is;
      rule = names.rule n e is;
      value = k.value;
      exclusive = exclusive h n e f;
      decided = decided h n e f;
    }

record IsTop (h : TreeData) (name : List ℕ) : Type 0 where
  «module» : Module
  at : slice_get h.typed.modules h.top ≡ Some «module»
  named : «module».name ≡ name

of_top : (h : TreeData) (name : List ℕ) (o : Option Module) → slice_get h.typed.modules h.top ≡ o → option_map (λ m. m.name) o ≡ Some name
    → IsTop h name
of_top h name (Some m) at is = let it : m.name ≡ name = cc in record { «module» = m; at = at; named = it }
of_top h name None at is = absurd cc

of_tree : (h : TreeData) → IsTree h → (name : List ℕ) (es : List Element) (ps : List NamedPart) (pairs : List Pair) (asserts : List Assert)
    → AreFlatElements h 0 es → length es ≡ element_count h → countable es ≡ true → countable ps ≡ true
    → top_name h ≡ Some name → ps ≡ parts_among h.instances → pairs ≡ h.pairs → asserts ≡ h.asserts
    → IsDesign (record { name = name; elements = es; parts = ps; pairs = pairs; asserts = asserts })
of_tree h t name es ps pairs asserts l long few_elements few_parts top parts p a =
    let names = keeps_names h t es (outlined h es l long) in
    let m = of_top h name (slice_get h.typed.modules h.top) refl top in
    let few : countable (parts_among h.instances) ≡ true = ap (λ (xs : List NamedPart). countable xs) (sym parts) ∙ few_parts in
    let d = is_design h m.«module» es names m.at few_elements few (is_element h es l names) in
    let one = subst (λ (x : List ℕ). IsDesign (record { name = x; elements = es; parts = parts_among h.instances; pairs = h.pairs; asserts = h.asserts })) m.named d in
    let two = subst (λ (x : List NamedPart). IsDesign (record { name = name; elements = es; parts = x; pairs = h.pairs; asserts = h.asserts })) (sym parts) one in
    let three = subst (λ (x : List Pair). IsDesign (record { name = name; elements = es; parts = ps; pairs = x; asserts = h.asserts })) (sym p) two in
    subst (λ (x : List Assert). IsDesign (record { name = name; elements = es; parts = ps; pairs = pairs; asserts = x })) (sym a) three

pub designed : (t : Tree) (name : List ℕ) (es : List Element) (ps : List NamedPart) (pairs : List Pair) (asserts : List Assert)
    → AreFlatElements (tree_data t) 0 es → length es ≡ element_count (tree_data t) → countable es ≡ true → countable ps ≡ true
    → top_name (tree_data t) ≡ Some name → ps ≡ parts_among t.instances → pairs ≡ t.pairs → asserts ≡ t.asserts
    → ∥ IsDesign (record { name = name; elements = es; parts = ps; pairs = pairs; asserts = asserts }) ∥₁
designed t name es ps pairs asserts l long few_elements few_parts top parts p a =
    ∥∥₁_elim t.right ∥∥₁_prop (λ right. ∣ of_tree (tree_data t) right name es ps pairs asserts l long few_elements few_parts top parts p a ∣₁)

alike_of : (t : Tree) (b : DesignData) → AreFlatElements (tree_data t) 0 b.elements → length b.elements ≡ element_count (tree_data t)
    → b.parts ≡ parts_among t.instances → b.pairs ≡ t.pairs → b.asserts ≡ t.asserts → AreAlike (tree_scheme (tree_data t)) (design_scheme b)
alike_of t b l long parts pairs asserts = alike (tree_data t) b parts (flat_all (tree_data t) b.elements 0 l) long pairs asserts

pub is_alike : (t : Tree) (d : Design) (es : List Element) (ps : List NamedPart) (pairs : List Pair) (asserts : List Assert)
    → AreFlatElements (tree_data t) 0 es → length es ≡ element_count (tree_data t) → ps ≡ parts_among t.instances → pairs ≡ t.pairs → asserts ≡ t.asserts
    → d.elements ≡ es → d.parts ≡ ps → d.pairs ≡ pairs → d.asserts ≡ asserts → AreAlike (tree_scheme (tree_data t)) (design_scheme (design_data d))
is_alike t d es ps pairs asserts l long parts p a elements_is parts_is pairs_is asserts_is =
    alike_of t (design_data d) (subst (AreFlatElements (tree_data t) 0) (sym elements_is) l) (ap (λ (xs : List Element). length xs) elements_is ∙ long)
    (parts_is ∙ parts) (pairs_is ∙ p) (asserts_is ∙ a)
