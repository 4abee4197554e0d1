-- The methods of the top among the elements, their outlines, and requests that fit them.
use Rattle.std.proofs.Common.{◌≡◌, ◌∙◌, suc, ◌≤◌, Bool, true, false, cond, List, [], ◌∷◌, map, length, take, refl, ap, arith}
use Rattle.std.proofs.lemmas.List.{length-map}
use Rattle.std.proofs.lemmas.Simd.{map-map}
use Rattle.bsv_bits.specs.Words.{Bits}
use Rattle.bsv_design.specs.declared.element.Element.{Element}
use Rattle.bsv_design.specs.design.Roles.{is_rule}
use Rattle.bsv_design.specs.scheme.Schemes.{Asking, Outline, outline}
use Rattle.bsv_design.specs.scheme.States.{methods_in, nothing_asked, zeros, FitMethods, AskingFits}
use Rattle.bsv_trace.specs.Lines.{methods_among, nothing_of}
use Rattle.bsv_trace.specs.Reading.{HasPlaces}
use Rattle.bsv_design.proofs.Elements.{length-words}

pub fit_places : (ms : List Element) (asked : List Bool) (args : List (List Bits)) → FitMethods ms asked args → HasPlaces (map outline ms) (record { asked = asked; args = args })
fit_places [] [] [] fit = record { asked = refl; args = refl }
fit_places [] [] (ws ∷ args) fit = absurd fit
fit_places [] (a ∷ asked) args fit = absurd fit
fit_places (e ∷ es) [] args fit = absurd fit
fit_places (e ∷ es) (a ∷ asked) [] fit = absurd fit
fit_places (e ∷ es) (a ∷ asked) (ws ∷ args) fit =
    let others = fit_places es asked args fit.1 in
    record {
      asked = ap suc others.asked;
      args = ap (λ n. n ∷ map (λ ws. length ws) args) (length-words e.arguments ws fit.0) ∙ ap (λ ns. length e.arguments ∷ ns) others.args;
    }

-- ---- outlines

by_role : (e : Element) (es : List Element) (r : Bool) → methods_among (map outline es) ≡ map outline (methods_in es)
    → cond r [] (outline e ∷ methods_among (map outline es)) ≡ map outline (cond r [] (e ∷ methods_in es))
by_role e es true others = refl
by_role e es false others = ap (λ os. outline e ∷ os) others

-- the methods among the outlines are the outlines of the methods
pub methods_outlined : (es : List Element) → methods_among (map outline es) ≡ map outline (methods_in es)
methods_outlined [] = refl
methods_outlined (e ∷ es) = by_role e es (is_rule e.role) (methods_outlined es)

pub nothing_outlined : (es : List Element) → nothing_of (map outline (methods_in es)) ≡ nothing_asked es
nothing_outlined es =
    let ms = methods_in es in
    ap (λ asked. record { asked = asked; args = map (λ (o : Outline). zeros o.ports) (map outline ms) }) (map-map (λ o. false) outline ms)
    ∙ ap (λ args. record { asked = map (λ (e : Element). false) ms; args = args }) (map-map (λ (o : Outline). zeros o.ports) outline ms)

-- ---- the methods are the front of the elements

front : (e : Element) (es : List Element) (r : Bool) → take (length (methods_in es)) es ≡ methods_in es → take (length (cond r [] (e ∷ methods_in es))) (e ∷ es) ≡ cond r [] (e ∷ methods_in es)
front e es true others = refl
front e es false others = ap (λ ms. e ∷ ms) others

pub methods_front : (es : List Element) → take (length (methods_in es)) es ≡ methods_in es
methods_front [] = refl
methods_front (e ∷ es) = front e es (is_rule e.role) (methods_front es)

fewer : (e : Element) (es : List Element) (r : Bool) → length (methods_in es) ≤ length es → length (cond r [] (e ∷ methods_in es)) ≤ length (e ∷ es)
fewer e es true others = omega arith
fewer e es false others = omega arith

pub methods_fewer : (es : List Element) → length (methods_in es) ≤ length es
methods_fewer [] = omega arith
methods_fewer (e ∷ es) = fewer e es (is_rule e.role) (methods_fewer es)

module _ (es : List Element) (q : Asking) (fit : AskingFits es q) where
  pub asking_places : HasPlaces (map outline (methods_in es)) q
  asking_places = fit_places (methods_in es) q.asked q.args fit

  counted : length q.asked ≡ length (methods_in es)
  counted = asking_places.asked ∙ length-map (methods_in es) outline

  pub asked_fewer : length q.asked ≤ length es
  asked_fewer = omega (arith, counted, methods_fewer es)

  pub asked_front : take (length q.asked) es ≡ methods_in es
  asked_front = ap (λ n. take n es) counted ∙ methods_front es
