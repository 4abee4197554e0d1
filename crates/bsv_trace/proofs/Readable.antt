-- The outlines of a design can be read, and the requests of a line fit the design.
use Rattle.std.proofs.Common.{◌≡◌, ◌∙◌, ℕ, zero, suc, ◌≤◌, ◌<◌, ◌^◌, ◌==◌, Bool, true, false, cond, ◌&&◌, not, IsTrue, List, [], ◌∷◌, map, slice_get, slice_set, Some, refl, sym, ap, subst, arith}
use Rattle.std.specs.List.{list_all}
use Rattle.std.proofs.Math.Logic.{∥∥₁_elim}
use Rattle.std.proofs.Math.Bool.{Bool-set}
use Rattle.std.proofs.Math.Nat.{ℕ_set}
use Rattle.std.proofs.lemmas.Bool.Decides.{nat_tests}
use Rattle.bsv_lemmas.proofs.Truths.{both_right, both_left}
use Rattle.bsv_ast.specs.Names.{is_word, is_lower}
use Rattle.bsv_ast.proofs.Names.{lower_words}
use Rattle.bsv_bits.specs.Words.{Bits}
use Rattle.bsv_design.specs.declared.design.Design.{Design}
use Rattle.bsv_design.specs.declared.element.Element.{Element}
use Rattle.bsv_design.specs.declared.element.Port.{Port}
use Rattle.bsv_design.specs.declared.element.Role.{Role}
use Rattle.bsv_design.specs.declared.element.Role.TheVariants as role
use Rattle.bsv_design.specs.design.Designs.{DesignData, IsDesign, IsNamed}
use Rattle.bsv_design.specs.design.Roles.{is_rule}
use Rattle.bsv_design.specs.scheme.Schemes.{Asking, Outline, outline}
use Rattle.bsv_design.specs.scheme.Seen.{design_data}
use Rattle.bsv_design.specs.scheme.States.{methods_in, nothing_asked, AreWordsOf, FitMethods, AskingFits}
use Rattle.bsv_design.specs.design.Widths.{port_fits}
use Rattle.bsv_trace.specs.Lines.{AreArguments, MethodCall, AreCalls, IsMethod, AreMethods, AsksFor, methods_among, in_name, nothing_of, asked_with, asked_with_all}
use Rattle.bsv_trace.specs.Reading.{ports_fit}
use Rattle.bsv_trace.proofs.Methods.{methods_outlined, nothing_outlined}

-- ---- a method is an element that is no rule

record MethodAt (es : List Element) (n : ℕ) (o : Outline) : Type 0 where
  element : Element
  at : slice_get es n ≡ Some element
  is : outline element ≡ o
  acts : is_rule element.role ≡ false

method_at : (es : List Element) (n : ℕ) (o : Outline) → IsMethod (map outline es) n o → MethodAt es n o
method_at [] n o h = absurd cc
method_at (e ∷ es) n o h = by (is_rule e.role) refl n h (λ m. method_at es m o)
  where
    by : (r : Bool) → is_rule e.role ≡ r → (n : ℕ) → slice_get (cond r [] (outline e ∷ methods_among (map outline es))) n ≡ Some o → ((m : ℕ) → IsMethod (map outline es) m o → MethodAt es m o)
        → MethodAt (e ∷ es) n o
    by true r n h others = absurd cc
    by false r zero h others = let same : outline e ≡ o = cc in record { element = e; at = refl; is = same; acts = r }
    by false r (suc n) h others = let m = others n h in record { element = m.element; at = m.at; is = m.is; acts = m.acts }

-- ---- a Lower name has no bracket

-- a byte that passes a test is none that does not
differs : (p : ℕ → Bool) (b : ℕ) → p b ≡ true → p 40 ≡ false → in_name b ≡ true
differs p b passes fails = by (b == 40) refl
  where
    by : (t : Bool) → (b == 40) ≡ t → not t ≡ true
    by false test = refl
    by true test =
        let same : b ≡ 40 = grind (arith, nat_tests, test) in
        let wrong : true ≡ false = sym passes ∙ ap p same ∙ fails in
        absurd cc

words_in_name : (bytes : List ℕ) → list_all is_word bytes ≡ true → list_all in_name bytes ≡ true
words_in_name [] each = refl
words_in_name (b ∷ bytes) each =
    ap (λ t. t && list_all in_name bytes) (differs is_word b (both_left (is_word b) _ each) refl) ∙ words_in_name bytes (both_right (is_word b) _ each)

lower_in_name : (text : List ℕ) → IsTrue (is_lower text) → IsTrue (list_all in_name text)
lower_in_name text lower = words_in_name text (lower_words text lower)

method_name : (r : Role) (text : List ℕ) → is_rule r ≡ false → IsNamed r text → IsTrue (list_all in_name text)
method_name role.Rule text acts named = absurd cc
method_name role.Value text acts named = lower_in_name text named
method_name role.Action text acts named = lower_in_name text named
method_name role.ActionValue text acts named = lower_in_name text named

-- ---- designs

pub design_methods : (b : DesignData) → IsDesign b → AreMethods (map outline b.elements)
design_methods b d = record {
  apart = λ m n o p at_o at_p same.
      let first = method_at b.elements m o at_o in
      let second = method_at b.elements n p at_p in
      d.apart m n first.element second.element first.at second.at (ap (λ (x : Outline). x.name) first.is ∙ same ∙ sym (ap (λ (x : Outline). x.name) second.is));
  names = λ n o at.
      let m = method_at b.elements n o at in
      subst (λ (x : Outline). IsTrue (list_all in_name x.name)) m.is (method_name m.element.role m.element.name m.acts (d.named n m.element m.at));
  ports = λ n o at.
      let m = method_at b.elements n o at in
      subst (λ (x : Outline). IsTrue (list_all port_fits x.ports)) m.is (d.elements n m.element m.at).fits.ports;
}

pub readable : (d : Design) → AreMethods (map outline d.elements)
readable d = ∥∥₁_elim d.right (hlevel (Bool-set, ℕ_set)) (design_methods (design_data d))

-- the arguments of each of these have 1 to 128 bits
abbrev PortsFit : List Outline → Type 0
PortsFit os = (n : ℕ) (o : Outline) → slice_get os n ≡ Some o → IsTrue (list_all port_fits o.ports)

all_ports : (ms : List Element) → PortsFit (map outline ms) → list_all ports_fit ms ≡ true
all_ports [] h = refl
all_ports (e ∷ es) h = ap (λ b. b && list_all ports_fit es) (h 0 (outline e) refl) ∙ all_ports es (λ n. h (suc n))

design_ports : (es : List Element) → AreMethods (map outline es) → PortsFit (map outline (methods_in es))
design_ports es right = subst PortsFit (methods_outlined es) right.ports

pub methods_fit : (es : List Element) → AreMethods (map outline es) → IsTrue (list_all ports_fit (methods_in es))
methods_fit es right = all_ports (methods_in es) (design_ports es right)

-- ---- the requests of a line fit

words_fit : (ps : List Port) (texts : List (List ℕ)) (ws : List Bits) → IsTrue (list_all port_fits ps) → AreArguments ps texts ws → AreWordsOf ps ws
words_fit [] [] [] fits each = tt
words_fit [] [] (w ∷ ws) fits each = absurd each
words_fit [] (t ∷ texts) ws fits each = absurd each
words_fit (p ∷ ps) [] ws fits each = absurd each
words_fit (p ∷ ps) (t ∷ texts) [] fits each = absurd each
words_fit (p ∷ ps) (t ∷ texts) (w ∷ ws) fits each =
    let here : port_fits p ≡ true = both_left (port_fits p) _ fits in
    let some : 1 ≤ p.width = grind (arith, nat_tests, here) in
    let most : p.width ≤ 128 = grind (arith, nat_tests, here) in
    let same = each.0.width in
    let below = subst (λ (n : ℕ). w.value < 2 ^ n) (sym same) each.0.below in
    (record { word = record { some = omega (arith, same); most = omega (arith, same); below = below }; same_width = same }, words_fit ps texts ws (both_right (port_fits p) _ fits) each.1)

call_fits : (ms : List Element) (asked : List Bool) (args : List (List Bits)) (n : ℕ) (o : Outline) (ws : List Bits) → FitMethods ms asked args → slice_get (map outline ms) n ≡ Some o → AreWordsOf o.ports ws
    → FitMethods ms (slice_set asked n true) (slice_set args n ws)
call_fits [] asked args n o ws fit at words = absurd cc
call_fits (m ∷ ms) [] args n o ws fit at words = absurd fit
call_fits (m ∷ ms) (a ∷ asked) [] n o ws fit at words = absurd fit
call_fits (m ∷ ms) (a ∷ asked) (old ∷ args) zero o ws fit at words =
    let same : outline m ≡ o = cc in
    (subst (λ (x : Outline). AreWordsOf x.ports ws) (sym same) words, fit.1)
call_fits (m ∷ ms) (a ∷ asked) (old ∷ args) (suc n) o ws fit at words = (fit.0, call_fits ms asked args n o ws fit.1 at words)

all_fit : (ms : List Element) (q : Asking) (texts : List (List ℕ)) (cs : List MethodCall) → PortsFit (map outline ms) → FitMethods ms q.asked q.args → AreCalls (map outline ms) texts cs
    → FitMethods ms (asked_with_all cs q).asked (asked_with_all cs q).args
all_fit ms q [] [] ports fit each = fit
all_fit ms q [] (c ∷ cs) ports fit each = absurd each
all_fit ms q (t ∷ texts) [] ports fit each = absurd each
all_fit ms q (t ∷ texts) (c ∷ cs) ports fit each =
    let is = each.0 in
    let words = words_fit is.outline.ports is.pieces c.words (ports c.method is.outline is.at) is.arguments in
    all_fit ms (asked_with c q) texts cs ports (call_fits ms q.asked q.args c.method is.outline c.words fit is.at words) each.1

pub line_fits : (es : List Element) (line : List ℕ) (q : Asking) → AreMethods (map outline es) → AskingFits es (nothing_asked es) → AsksFor (map outline es) line q → AskingFits es q
line_fits es line q right fit asks =
    let same = methods_outlined es in
    let each = subst (λ (os : List Outline). AreCalls os asks.pieces asks.calls) same asks.each in
    let is : q ≡ asked_with_all asks.calls (nothing_asked es) = asks.asking ∙ ap (λ os. asked_with_all asks.calls (nothing_of os)) same ∙ ap (asked_with_all asks.calls) (nothing_outlined es) in
    subst (AskingFits es) (sym is) (all_fit (methods_in es) (nothing_asked es) asks.pieces asks.calls (design_ports es right) fit each)
