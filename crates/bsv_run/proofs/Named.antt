-- The names of elements, and what a design has as a scheme.
use Rattle.std.proofs.Common.{◌≡◌, ℕ, zero, suc, List, [], ◌∷◌, map, refl, sym, ap, ◌∙◌, subst}
use Rattle.std.specs.Prelude.{slice_get}
use Rattle.std.proofs.Math.Path.{fun_ext}
use Rattle.bsv_prim.specs.declared.part.Part.{Part}
use Rattle.bsv_design.specs.declared.design.Design.{Design}
use Rattle.bsv_design.specs.declared.element.Element.{Element}
use Rattle.bsv_design.specs.declared.fired.Fired.{Fired}
use Rattle.bsv_design.specs.scheme.Schemes.{Asking, Outline, design_scheme, kinds_of, outline}
use Rattle.bsv_design.specs.scheme.Seen.{design_data}
use Rattle.bsv_trace.specs.Lines.{AsksFor}
use Rattle.bsv_trace.specs.Texts.{clock_text, name_at}
use Rattle.bsv_clock.specs.Subjects.{element_name, outline_name}

texts_same : (es : List Element) (n : ℕ) → name_at es n ≡ outline_name (slice_get (map outline es) n)
texts_same [] n = refl
texts_same (e ∷ es) zero = refl
texts_same (e ∷ es) (suc n) = texts_same es n

module _ (d : Design) where
  pub outlines_are : map outline d.elements ≡ (design_scheme (design_data d)).elements
  unfolding design_scheme
  outlines_are = refl

  pub kinds_are : kinds_of (design_data d) ≡ (design_scheme (design_data d)).kinds
  unfolding design_scheme
  kinds_are = refl

  pub names_are : (n : ℕ) → name_at d.elements n ≡ element_name (design_scheme (design_data d)) n
  names_are n = texts_same d.elements n ∙ ap (λ (os : List Outline). outline_name (slice_get os n)) outlines_are

  -- the lines of a clock
  pub clock_same : (number : ℕ) (fired : Fired) (parts : List Part) → clock_text (name_at d.elements) number fired d.parts parts
      ≡ clock_text (element_name (design_scheme (design_data d))) number fired d.parts parts
  clock_same number fired parts = ap (λ (named : ℕ → List ℕ). clock_text named number fired d.parts parts) (fun_ext names_are)

  -- what a line asks for
  pub asks_here : (said line : List ℕ) (q : Asking) → said ≡ line → AsksFor (map outline d.elements) said q → AsksFor (design_scheme (design_data d)).elements line q
  asks_here said line q same h =
      subst (λ (os : List Outline). AsksFor os line q) outlines_are (subst (λ (t : List ℕ). AsksFor (map outline d.elements) t q) same h)

  pub asks_there : (said line : List ℕ) (q : Asking) → said ≡ line → AsksFor (design_scheme (design_data d)).elements line q → AsksFor (map outline d.elements) said q
  asks_there said line q same h =
      subst (λ (t : List ℕ). AsksFor (map outline d.elements) t q) (sym same) (subst (λ (os : List Outline). AsksFor os line q) (sym outlines_are) h)
