-- A design of flat bodies is the scheme of its tree.
use Rattle.std.proofs.Common.{◌≡◌, ◌∙◌, ℕ, suc, ◌+◌, ◌<◌, ◌≤◌, ◌⊎◌, inl, inr, Bool, true, false, List, [], ◌∷◌, ◌++◌, map, length, Some, None, refl, sym, ap, arith, append_assoc, append-nil}
use Rattle.std.specs.Prelude.{slice_get, nat_lt, if◌then◌else◌}
use Rattle.std.proofs.lemmas.Bool.{ltb-true, cases_lt}
use Rattle.std.proofs.lemmas.Option.{slice_get_past}
use Rattle.bsv_lemmas.proofs.Places.{item_there, mapped_at}
use Rattle.bsv_bits.specs.Words.{Bits}
use Rattle.bsv_design.specs.declared.element.Element.{Element}
use Rattle.bsv_design.specs.declared.design.NamedPart.{NamedPart}
use Rattle.bsv_design.specs.design.Bodies.{Answers}
use Rattle.bsv_design.specs.design.Designs.{DesignData}
use Rattle.bsv_design.specs.scheme.Relations.{no_answers}
use Rattle.bsv_design.specs.scheme.Schemes.{Outline, outline, calls_of, trace_of, kinds_of, ports_of, filled, design_scheme, AreAlike}
use Rattle.bsv_design.specs.scheme.Traces.{Site, Trace, body_trace}
use Rattle.bsv_inline.specs.Flattening.{kinds, IsFlat, AreFlat}
use Rattle.bsv_inline.proofs.Flattened.{flat_at, targets_of}
use Rattle.bsv_design.specs.declared.element.Port.{Port}
use Rattle.bsv_tree.specs.tree.Elements.{element_count, element_text, parts_among, text_at}
use Rattle.bsv_tree.specs.tree.Trees.{TreeData}
use Rattle.bsv_tree.specs.meaning.Schemes.{text_outline, text_trace, outline_at, outlines_below, trace_at, uses_at, tree_scheme}
use Rattle.bsv_tree.proofs.meaning.Sources.{Means, source_means}

module _ (h : TreeData) (n : ℕ) (e : Element) (f : IsFlat h n e) where
  -- the text that the element was carried out of
  of_text : Means h n f.source
  of_text = source_means h n f.source f.at

  outline_is : outline e ≡ text_outline of_text.text
  outline_is =
      ap (λ (x : List ℕ). let o : Outline = record { name = x; role = e.role; ports = e.arguments } in o) f.name
      ∙ ap (λ x. let o : Outline = record { name = f.source.name; role = x; ports = e.arguments } in o) f.role
      ∙ ap (λ x. let o : Outline = record { name = f.source.name; role = f.source.role; ports = x } in o) f.arguments
      ∙ sym of_text.outline

  ports_are : (text_outline of_text.text).ports ≡ f.source.ports
  ports_are = ap (λ (o : Outline). o.ports) of_text.outline

  -- the body does what the text means
  means_is : (r : Answers) (ws : List Bits) → length ws ≡ length f.source.ports → text_trace of_text.text r ws ≡ body_trace (kinds h) e r ws
  means_is r ws many = sym (of_text.trace r ws many) ∙ sym (f.trace r ws many)

outlines_from : (h : TreeData) (es : List Element) (k : ℕ) → AreFlat h k es → outlines_below h (k + length es) ≡ outlines_below h k ++ map outline es
outlines_from h [] k f = (let at : k + 0 ≡ k = omega arith in ap (outlines_below h) at) ∙ sym (append-nil (outlines_below h k))
outlines_from h (e ∷ es) k f =
    let at : k + suc (length es) ≡ k + 1 + length es = omega arith in
    let next : k + 1 ≡ suc k = omega arith in
    let one : outline_at (element_text h k) ≡ outline e ∷ [] = ap outline_at (of_text h k e f.0).is ∙ ap (λ o. o ∷ []) (sym (outline_is h k e f.0)) in
    ap (outlines_below h) at ∙ outlines_from h es (k + 1) f.1
    ∙ ap (λ j. outlines_below h j ++ map outline es) next
    ∙ ap (λ os. (outlines_below h k ++ os) ++ map outline es) one
    ∙ append_assoc (outlines_below h k) (outline e ∷ []) (map outline es)

filled_long : (ps : List Port) → length (filled ps []) ≡ length ps
filled_long [] = refl
filled_long (p ∷ ps) = ap suc (filled_long ps)

module _ (h : TreeData) (b : DesignData) (parts : b.parts ≡ parts_among h.instances) (flat : AreFlat h 0 b.elements) (long : length b.elements ≡ element_count h) where
  kinds_is : kinds_of b ≡ kinds h
  kinds_is = ap (λ (ps : List NamedPart). map (λ p. p.kind) ps) parts

  elements_is : outlines_below h (element_count h) ≡ map outline b.elements
  elements_is =
      let at : length b.elements ≡ 0 + length b.elements = omega arith in
      ap (outlines_below h) (sym long ∙ at) ∙ outlines_from h b.elements 0 flat

  none_past : (n : ℕ) → length b.elements ≤ n → element_text h n ≡ None
  none_past n l = by (nat_lt n (element_count h)) refl where
    by : (c : Bool) → nat_lt n (element_count h) ≡ c → (if c then text_at h n else None) ≡ None
    by true is = absurd (let m : n < element_count h = ltb-true n (element_count h) is in omega (arith, m, l, long))
    by false is = refl

  uses_are_at : (n : ℕ) (e : Element) → slice_get b.elements n ≡ Some e → uses_at (element_text h n) ≡ calls_of (slice_get b.elements n)
  uses_are_at n e is =
      let f = flat_at h b.elements flat n e is in
      let ports = (text_outline (of_text h n e f).text).ports in
      let ws = filled ports [] in
      let many : length ws ≡ length f.source.ports = filled_long ports ∙ ap (λ (ps : List Port). length ps) (ports_are h n e f) in
      ap uses_at (of_text h n e f).is
      ∙ ap (λ (t : Trace). map (λ (s : Site). s.target) t.sites) (means_is h n e f no_answers ws many)
      ∙ targets_of (kinds h) e no_answers ws
      ∙ ap calls_of (sym is)

  uses_are : (n : ℕ) → uses_at (element_text h n) ≡ calls_of (slice_get b.elements n)
  uses_are n = by (cases_lt n (length b.elements)) where
    by : (n < length b.elements) ⊎ (length b.elements ≤ n) → uses_at (element_text h n) ≡ calls_of (slice_get b.elements n)
    by (inl l) = let x = item_there b.elements n l in uses_are_at n x.0 x.1
    by (inr l) = ap uses_at (none_past n l) ∙ ap calls_of (sym (slice_get_past b.elements n l))

  -- the arguments of an element
  ports_at : (n : ℕ) (e : Element) → slice_get b.elements n ≡ Some e → ports_of (slice_get (outlines_below h (element_count h)) n) ≡ e.arguments
  ports_at n e is = ap (λ os. ports_of (slice_get os n)) elements_is ∙ ap ports_of (mapped_at outline b.elements n e is)

  abbrev Same : ℕ → Answers → List Bits → Type 0
  Same n r ws = trace_at (element_text h n) r ws ≡ trace_of (kinds_of b) (slice_get b.elements n) r ws

  trace_is : (n : ℕ) (e : Element) → slice_get b.elements n ≡ Some e → (r : Answers) (ws : List Bits)
      → length ws ≡ length (ports_of (slice_get (outlines_below h (element_count h)) n)) → Same n r ws
  trace_is n e is r ws many =
      let f = flat_at h b.elements flat n e is in
      let as_many : length ws ≡ length f.source.ports = many ∙ ap (λ (ps : List Port). length ps) (ports_at n e is ∙ f.arguments) in
      ap (λ o. trace_at o r ws) (of_text h n e f).is ∙ means_is h n e f r ws as_many
      ∙ ap (λ ks. body_trace ks e r ws) (sym kinds_is)
      ∙ ap (λ o. trace_of (kinds_of b) o r ws) (sym is)

  traces_are : (n : ℕ) (r : Answers) (ws : List Bits) → length ws ≡ length (ports_of (slice_get (outlines_below h (element_count h)) n)) → Same n r ws
  traces_are n r ws many = by (cases_lt n (length b.elements)) where
    by : (n < length b.elements) ⊎ (length b.elements ≤ n) → Same n r ws
    by (inl l) = let x = item_there b.elements n l in trace_is n x.0 x.1 r ws many
    by (inr l) =
        ap (λ o. trace_at o r ws) (none_past n l) ∙ ap (λ o. trace_of (kinds_of b) o r ws) (sym (slice_get_past b.elements n l))

  pub alike : b.pairs ≡ h.pairs → b.asserts ≡ h.asserts → AreAlike (tree_scheme h) (design_scheme b)
  unfolding tree_scheme design_scheme
  alike pairs asserts = record {
    kinds = sym kinds_is;
    elements = elements_is;
    pairs = sym pairs;
    asserts = sym asserts;
    uses = uses_are;
    traces = traces_are;
  }
