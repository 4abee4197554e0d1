-- The calls of the elements of a design name methods of parts.
use Rattle.std.proofs.Common.{◌≡◌, ◌∙◌, ℕ, ◌&&◌, true, List, [], ◌∷◌, Some, None, refl, ap, IsTrue}
use Rattle.std.specs.Prelude.{slice_get, Option}
use Rattle.std.specs.List.{list_all}
use Rattle.std.proofs.Math.Logic.{∥∥₁_elim}
use Rattle.std.proofs.Math.Bool.{Bool-set}
use Rattle.std.proofs.lemmas.Bool.{and_parts}
use Rattle.bsv_design.specs.declared.design.Design.{Design}
use Rattle.bsv_design.specs.declared.element.Call.{Call}
use Rattle.bsv_design.specs.declared.element.Element.{Element}
use Rattle.bsv_design.specs.declared.kind.Kind.{Kind}
use Rattle.bsv_design.specs.design.Designs.{IsDesign}
use Rattle.bsv_design.specs.scheme.Schemes.{kinds_of}
use Rattle.bsv_design.specs.scheme.Seen.{design_data}
use Rattle.bsv_design.specs.design.Widths.{has_method, call_named, call_fits, method_fits, has_width}

fits_names : (k : Option Kind) (ws : List ℕ) (c : Call) → method_fits k ws c ≡ true → has_method k c.method ≡ true
fits_names None ws c h = h
fits_names (Some k) ws c h = (and_parts _ _ h).0

fit_named : (ks : List Kind) (ws : List ℕ) (cs : List Call) → list_all (call_fits ks ws) cs ≡ true → list_all (call_named ks) cs ≡ true
fit_named ks ws [] h = refl
fit_named ks ws (c ∷ cs) h =
    let fits = and_parts (call_fits ks ws c) (list_all (call_fits ks ws) cs) h in
    let method = and_parts (has_width (slice_get ws c.taken) 1) (method_fits (slice_get ks c.part) ws c) fits.0 in
    let here : call_named ks c ≡ true = fits_names (slice_get ks c.part) ws c method.1 in
    ap (λ b. b && list_all (call_named ks) cs) here ∙ fit_named ks ws cs fits.1

pub calls_named : (d : Design) (n : ℕ) (e : Element) → slice_get d.elements n ≡ Some e → IsTrue (list_all (call_named (kinds_of (design_data d))) e.calls)
calls_named d n e at =
    ∥∥₁_elim d.right (Bool-set _ _) (λ (right : IsDesign (design_data d)). fit_named _ _ e.calls (right.elements n e at).fits.calls)
