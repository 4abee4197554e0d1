-- A result port is as wide as what its method gives.
use Rattle.std.proofs.Common.{◌≡◌, ◌∙◌, ℕ, zero, suc, ◌+◌, Bool, true, false, not, ◌||◌, List, [], ◌∷◌, Option, Some, None, option_map, sym, ap, subst, arith}
use Rattle.std.specs.Prelude.{cond, slice_get}
use Rattle.std.proofs.lemmas.Bool.{and_parts}
use Rattle.std.proofs.lemmas.Option.{same_Some, slice_get-map}
use Rattle.bsv_bits.specs.Words.{Bits}
use Rattle.bsv_prim.specs.Table.{IsWordOf}
use Rattle.bsv_design.specs.declared.element.Element.{Element}
use Rattle.bsv_design.specs.declared.kind.Kind.{Kind}
use Rattle.bsv_design.specs.design.Bodies.{at, words}
use Rattle.bsv_design.specs.design.Designs.{DesignData, HasWidths, IsDesign}
use Rattle.bsv_design.specs.design.Roles.{gives_value}
use Rattle.bsv_design.specs.design.Widths.{has_width}
use Rattle.bsv_design.specs.scheme.Schemes.{Scheme, Outline, AreAlike, Asking, Look, answers, design_scheme, given, kinds_of, outline, ports_of, seen, trace_of, value}
use Rattle.bsv_design.specs.scheme.States.{AreWordsOf, FitLook, methods_in}
use Rattle.bsv_design.specs.scheme.Traces.{body_trace}
use Rattle.bsv_guard.specs.Fitting.{HaveWidths, RequestFits}
use Rattle.bsv_guard.proofs.Alike.{alike}
use Rattle.bsv_guard.proofs.BodyFits.{width_is, word_there}
use Rattle.bsv_guard.proofs.DesignFits.{element_words}
use Rattle.bsv_guard.proofs.Fits.{answers_fit}
use Rattle.bsv_net.specs.declared.net_data.NetData.{NetData}
use Rattle.bsv_vtext.specs.declared.tree.VMethod.{VMethod}
use Rattle.bsv_vgen.specs.declared.known.Known.{Known}
use Rattle.bsv_vgen.specs.Modules.{methods_from, own_width, result_fits, result_of, results_fit, result_width, width_in}
use Rattle.bsv_vgen.proofs.Methods.{among_all, ports_are}

-- ---- what the net was asked

fit_at : (known : List Known) (c : NetData) (ks : List Kind) (es : List Element) (n i : ℕ) (e : Element) → slice_get es i ≡ Some e
    → results_fit known c ks n es ≡ true → result_fits known c ks (n + i) e ≡ true
unfolding results_fit
fit_at known c ks [] n i e there fit = absurd (let h : ⊥ = cc in h)
fit_at known c ks (x ∷ es) n zero e there fit =
    let place : n ≡ n + 0 = omega arith in
    subst (λ (k : ℕ). result_fits known c ks k e ≡ true) place
    (subst (λ (y : Element). result_fits known c ks n y ≡ true) (same_Some x e there) (and_parts (result_fits known c ks n x) (results_fit known c ks (n + 1) es) fit).0)
fit_at known c ks (x ∷ es) n (suc i) e there fit =
    let place : n + 1 + i ≡ n + suc i = omega arith in
    subst (λ (k : ℕ). result_fits known c ks k e ≡ true) place
    (fit_at known c ks es (n + 1) i e there (and_parts (result_fits known c ks n x) (results_fit known c ks (n + 1) es) fit).1)

-- where there is a port, it has the width that the method's own body has
own_is : (own : Option ℕ) (width u : ℕ) (gives : Bool) → cond gives (Some width) None ≡ Some u → (not gives || has_width own width) ≡ true → own ≡ Some u
own_is own width u true port fit = width_is own width fit ∙ port
own_is own width u false port fit = absurd (let h : ⊥ = cc in h)

-- ---- what a method gives

module _ (b : DesignData) (right : IsDesign b) (n : ℕ) (e : Element) (there : slice_get b.elements n ≡ Some e) (u : ℕ)
    (own : own_width (kinds_of b) e ≡ Some u) (q : Asking) (look : Look) (requests : RequestFits (design_scheme b) q n) (fit : FitLook (kinds_of b) look)
    (w : Bits) (gave : value (design_scheme b) q n look ≡ Some w) where
  abbrev ks : List Kind
  ks = kinds_of b

  abbrev vs : List Bits
  vs = words e (answers ks look) (given (design_scheme b) q n)

  fits : HasWidths ks e
  fits = (right.elements n e there).fits

  given_fits : AreWordsOf e.arguments (given (design_scheme b) q n)
  unfolding design_scheme
  given_fits =
      subst (λ (o : Option Outline). AreWordsOf (ports_of o) (given (design_scheme b) q n)) (slice_get-map outline b.elements n ∙ ap (option_map outline) there) requests

  have : HaveWidths fits.widths vs
  unfolding fits
  have = element_words ks e (right.elements n e there) (answers ks look) (given (design_scheme b) q n) given_fits (answers_fit ks look fit)

  value_is : option_map (at vs) e.result ≡ Some w
  unfolding value seen design_scheme body_trace
  value_is =
      sym (ap (λ (o : Option Element). (trace_of ks o (answers ks look) (given (design_scheme b) q n)).result) there) ∙ gave

  pub word_has : IsWordOf u w
  word_has = of e.result value_is (sym (ap (λ (us : Option (List ℕ)). width_in us e.result) fits.nodes) ∙ own)
    where
      of : (o : Option ℕ) → option_map (at vs) o ≡ Some w → width_in (Some fits.widths) o ≡ Some u → IsWordOf u w
      of None is wide = absurd (let h : ⊥ = cc in h)
      of (Some k) is wide = subst (IsWordOf u) (same_Some (at vs k) w is) (word_there fits.widths vs have k u wide)

-- ---- the ports

module _ (b : DesignData) (right : IsDesign b) (known : List Known) (c : NetData) (fit : results_fit known c (kinds_of b) 0 (methods_in b.elements) ≡ true)
    (S : Scheme) (al : AreAlike S (design_scheme b)) where
  abbrev T : Scheme
  T = design_scheme b

  abbrev GivesWidth : ℕ → ℕ → Type 0
  GivesWidth n u = (q : Asking) (look : Look) (w : Bits) → RequestFits S q n → FitLook S.kinds look → value S q n look ≡ Some w → IsWordOf u w

  requests_too : (q : Asking) (n : ℕ) → RequestFits S q n → RequestFits T q n
  requests_too q n h =
      subst (λ (os : List Outline). AreWordsOf (ports_of (slice_get os n)) (given T q n)) al.elements
      (subst (AreWordsOf (ports_of (slice_get S.elements n))) ((alike S T al).given_same q n) h)

  look_too : (look : Look) → FitLook S.kinds look → FitLook (kinds_of b) look
  unfolding design_scheme
  look_too look h = subst (λ (ks : List Kind). FitLook ks look) al.kinds h

  pub port_width : (n : ℕ) (m : VMethod) (u : ℕ) → slice_get (methods_from known c 0 (methods_in b.elements)) n ≡ Some m → m.result ≡ Some u → GivesWidth n u
  port_width n m u at_n port q look w requests looks gave =
      let own = ports_are known c (methods_in b.elements) 0 n m at_n in
      let e = own.element in
      let place : 0 + n ≡ n = omega arith in
      let fits = fit_at known c (kinds_of b) (methods_in b.elements) 0 n e own.at fit in
      let port_is : result_width known c (0 + n) e ≡ Some u = sym (ap (λ (x : VMethod). x.result) own.is) ∙ port in
      let wide = own_is (own_width (kinds_of b) e) (result_of known c (0 + n)).width u (gives_value e.role) port_is fits in
      word_has b right n e (among_all b.elements n e own.at).0 u wide q look (requests_too q n requests) (look_too look looks)
      w (sym ((alike S T al).value_same q n look) ∙ gave)
