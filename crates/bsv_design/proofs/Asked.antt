-- Requests: the widths of arguments, and that nothing is asked at first.
use Rattle.std.proofs.Common.{◌≡◌, ◌∙◌, ℕ, zero, suc, ◌≤◌, Bool, true, false, cond, ◌&&◌, List, [], ◌∷◌, map, Some, refl, sym, ap, subst, IsTrue}
use Rattle.std.specs.Prelude.{slice_get, nat_le}
use Rattle.std.specs.List.{list_all}
use Rattle.std.proofs.Math.Logic.{∥∥₁_elim}
use Rattle.std.proofs.Math.Bool.{Bool-set}
use Rattle.std.proofs.lemmas.Bool.{leb-true}
use Rattle.bsv_lemmas.proofs.Truths.{both_right, both_left}
use Rattle.bsv_bits.proofs.Modulo.{IsWord_zero}
use Rattle.bsv_design.specs.declared.design.Design.{Design}
use Rattle.bsv_design.specs.declared.element.Element.{Element}
use Rattle.bsv_design.specs.declared.element.Port.{Port}
use Rattle.bsv_design.specs.design.Designs.{DesignData, IsDesign}
use Rattle.bsv_design.specs.design.Roles.{is_rule}
use Rattle.bsv_design.specs.scheme.Seen.{design_data}
use Rattle.bsv_design.specs.scheme.Schemes.{Asking}
use Rattle.bsv_design.specs.scheme.States.{methods_in, AskingFits, nothing_asked, AreWordsOf, FitMethods, zeros}
use Rattle.bsv_design.specs.design.Widths.{port_fits}

abbrev pub fit_ports : Element → Bool
fit_ports e = list_all port_fits e.arguments

all_from : (es : List Element) → ((n : ℕ) (e : Element) → slice_get es n ≡ Some e → fit_ports e ≡ true) → list_all fit_ports es ≡ true
all_from [] h = refl
all_from (e ∷ es) h = ap (λ b. b && list_all fit_ports es) (h 0 e refl) ∙ all_from es (λ n. h (suc n))

of_design : (b : DesignData) → IsDesign b → list_all fit_ports b.elements ≡ true
of_design b d = all_from b.elements (λ n e at. (d.elements n e at).fits.ports)

pub ports_right : (d : Design) → IsTrue (list_all fit_ports d.elements)
ports_right d = ∥∥₁_elim d.right (Bool-set _ _) (of_design (design_data d))

-- ---- one port

pub port_at : (ps : List Port) (k : ℕ) (p : Port) → IsTrue (list_all port_fits ps) → slice_get ps k ≡ Some p → IsTrue (port_fits p)
port_at [] k p h e = absurd cc
port_at (x ∷ ps) zero p h e = let it : x ≡ p = cc in subst (λ y. IsTrue (port_fits y)) it (both_left (port_fits x) _ h)
port_at (x ∷ ps) (suc k) p h e = port_at ps k p (both_right (port_fits x) _ h) e

pub some_width : (p : Port) → IsTrue (port_fits p) → 1 ≤ p.width
some_width p h = leb-true _ _ (both_left (nat_le 1 p.width) (nat_le p.width 128) h)

pub most_width : (p : Port) → IsTrue (port_fits p) → p.width ≤ 128
most_width p h = leb-true _ _ (both_right (nat_le 1 p.width) (nat_le p.width 128) h)

-- ---- nothing is asked

zero_words : (ps : List Port) → IsTrue (list_all port_fits ps) → AreWordsOf ps (zeros ps)
zero_words [] h = tt
zero_words (p ∷ ps) h =
    let here : IsTrue (port_fits p) = both_left (port_fits p) _ h in
    (record { word = IsWord_zero p.width (some_width p here) (most_width p here); same_width = refl }, zero_words ps (both_right (port_fits p) _ h))

next : (e : Element) (es : List Element) (r : Bool) → AreWordsOf e.arguments (zeros e.arguments)
    → FitMethods (methods_in es) (map (λ e. false) (methods_in es)) (map (λ e. zeros e.arguments) (methods_in es))
    → FitMethods (cond r [] (e ∷ methods_in es)) (map (λ e. false) (cond r [] (e ∷ methods_in es))) (map (λ e. zeros e.arguments) (cond r [] (e ∷ methods_in es)))
next e es true here others = tt
next e es false here others = (here, others)

pub zeros_fit : (es : List Element) → IsTrue (list_all fit_ports es) → FitMethods (methods_in es) (map (λ e. false) (methods_in es)) (map (λ e. zeros e.arguments) (methods_in es))
zeros_fit [] h = tt
zeros_fit (e ∷ es) h = next e es (is_rule e.role) (zero_words e.arguments (both_left (fit_ports e) _ h)) (zeros_fit es (both_right (fit_ports e) _ h))

pub nothing_fits : (d : Design) (q : Asking) → q ≡ nothing_asked d.elements → AskingFits d.elements q
nothing_fits d q is = subst (AskingFits d.elements) (sym is) (zeros_fit d.elements (ports_right d))
