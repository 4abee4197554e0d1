-- Flat bodies, one by one.
use Rattle.std.proofs.Common.{◌≡◌, ◌∙◌, ℕ, zero, suc, ◌+◌, List, [], ◌∷◌, ◌++◌, map, length, Some, sym, ap, subst, arith}
use Rattle.std.specs.Prelude.{slice_get}
use Rattle.bsv_bits.specs.Words.{Bits}
use Rattle.bsv_design.specs.declared.element.Element.{Element}
use Rattle.bsv_design.specs.declared.kind.Kind.{Kind}
use Rattle.bsv_design.specs.design.Bodies.{Answers, target, words}
use Rattle.bsv_design.specs.design.Branches.{AreExclusive, AgreeOnTaken, AreSameWhereTaken}
use Rattle.bsv_design.specs.scheme.Traces.{Site, Trace, body_trace}
use Rattle.bsv_tree.specs.carrying.Sources.{step_trace}
use Rattle.bsv_tree.specs.tree.Trees.{TreeData}
use Rattle.bsv_inline.specs.Flattening.{kinds, IsFlat, AreFlat}
use Rattle.bsv_inline.proofs.StepsExclusive.{are_exclusive}
use Rattle.bsv_inline.proofs.StepsDecided.{taken_decide}
use Rattle.bsv_design.proofs.Elements.{site_targets}

pub flat_from : (h : TreeData) (es : List Element) (k : ℕ) → AreFlat h k es → (n : ℕ) (e : Element) → slice_get es n ≡ Some e → IsFlat h (k + n) e
flat_from h [] k f n e is = absurd cc
flat_from h (x ∷ es) k f zero e is =
    let it : x ≡ e = cc in
    let at : k ≡ k + 0 = omega arith in
    subst (λ j. IsFlat h j e) at (subst (IsFlat h k) it f.0)
flat_from h (x ∷ es) k f (suc n) e is =
    let at : k + 1 + n ≡ k + suc n = omega arith in
    subst (λ j. IsFlat h j e) at (flat_from h es (k + 1) f.1 n e is)

pub flat_at : (h : TreeData) (es : List Element) → AreFlat h 0 es → (n : ℕ) (e : Element) → slice_get es n ≡ Some e → IsFlat h n e
flat_at h es f n e is = let at : 0 + n ≡ n = omega arith in subst (λ j. IsFlat h j e) at (flat_from h es 0 f n e is)

-- one more
flat_more_from : (h : TreeData) (es : List Element) (e : Element) (k : ℕ) → AreFlat h k es → IsFlat h (k + length es) e → AreFlat h k (es ++ e ∷ [])
flat_more_from h [] e k f g = let at : k + 0 ≡ k = omega arith in (subst (λ j. IsFlat h j e) at g, tt)
flat_more_from h (x ∷ es) e k f g =
    let at : k + suc (length es) ≡ k + 1 + length es = omega arith in
    (f.0, flat_more_from h es e (k + 1) f.1 (subst (λ j. IsFlat h j e) at g))

pub flat_more : (h : TreeData) (es : List Element) (e : Element) → AreFlat h 0 es → IsFlat h (length es) e → AreFlat h 0 (es ++ e ∷ [])
flat_more h es e f g = let at : length es ≡ 0 + length es = omega arith in flat_more_from h es e 0 f (subst (λ j. IsFlat h j e) at g)

-- ---- what holds of each

module _ (h : TreeData) (n : ℕ) (e : Element) (f : IsFlat h n e) where
  as_many : (ws : List Bits) → length ws ≡ length e.arguments → length ws ≡ length f.source.ports
  as_many ws long = long ∙ ap (λ (ps : List _). length ps) f.arguments

  pub exclusive : (r : Answers) (ws : List Bits) → length ws ≡ length e.arguments → AreExclusive (body_trace (kinds h) e r ws).sites
  exclusive r ws long =
      subst (λ (t : Trace). AreExclusive t.sites) (sym (f.trace r ws (as_many ws long)))
      (are_exclusive h.typed.modules h.instances f.source.steps f.source.gives r ws)

  pub decided : (q r : Answers) (ws : List Bits) → length ws ≡ length e.arguments → AgreeOnTaken q r (body_trace (kinds h) e q ws).sites
      → AreSameWhereTaken (body_trace (kinds h) e q ws) (body_trace (kinds h) e r ws)
  decided q r ws long agree =
      let one = f.trace q ws (as_many ws long) in
      let two = f.trace r ws (as_many ws long) in
      let same = taken_decide h.typed.modules h.instances f.source.steps f.source.gives q r ws (subst (λ (t : Trace). AgreeOnTaken q r t.sites) one agree) in
      let steps : Trace = step_trace h.typed.modules h.instances f.source.steps f.source.gives q ws in
      subst (λ (t : Trace). AreSameWhereTaken t (body_trace (kinds h) e r ws)) (sym one)
      (subst (λ (t : Trace). AreSameWhereTaken steps t) (sym two) same)

-- ---- calls

pub targets_of : (ks : List Kind) (e : Element) (r : Answers) (ws : List Bits) → map (λ (s : Site). s.target) (body_trace ks e r ws).sites ≡ map target e.calls
unfolding body_trace
targets_of ks e r ws = site_targets ks (words e r ws) e.calls
