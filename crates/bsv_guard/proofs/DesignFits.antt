-- The calls of a design fit where its arguments and the answers do, and requests give words of their widths.
use Rattle.std.proofs.Common.{◌≡◌, ◌∙◌, ℕ, zero, suc, ◌<◌, Bool, true, false, cond, List, [], ◌∷◌, length, map, Option, Some, None, refl, sym, ap, subst}
use Rattle.std.specs.Prelude.{slice_get, option_map, IsTrue, nat_lt}
use Rattle.std.specs.List.{list_all}
use Rattle.std.proofs.lemmas.Bool.{and_parts, ltb-true}
use Rattle.std.proofs.lemmas.Option.{slice_get-map}
use Rattle.bsv_lemmas.proofs.Places.{item_there}
use Rattle.bsv_bits.specs.Words.{Bits, IsWord}
use Rattle.bsv_bits.proofs.Modulo.{IsWord_zero}
use Rattle.bsv_design.specs.declared.element.Call.{Call}
use Rattle.bsv_design.specs.declared.element.Element.{Element}
use Rattle.bsv_design.specs.declared.element.Port.{Port}
use Rattle.bsv_design.specs.declared.kind.Kind.{Kind}
use Rattle.bsv_design.specs.design.Bodies.{Target, target, Answers, at, words}
use Rattle.bsv_design.specs.design.Designs.{DesignData, IsElement, IsDesign}
use Rattle.bsv_design.specs.parts.Kinds.{kind_table}
use Rattle.bsv_design.specs.design.Roles.{is_rule, gives_value}
use Rattle.bsv_design.specs.scheme.Schemes.{Asking, outline, ports_of, filled, if_asked, given, answers, Look, calls_of, trace_of, kinds_of, design_scheme}
use Rattle.bsv_design.specs.scheme.States.{FitLook, AreWordsOf, FitMethods, AskingFits, methods_in}
use Rattle.bsv_design.specs.scheme.Traces.{Site, kind_at, site_at, body_trace}
use Rattle.bsv_design.specs.design.Widths.{widths_from, has_width, method_fits, call_fits, port_fits, result_fits}
use Rattle.bsv_design.proofs.Asked.{some_width, most_width}
use Rattle.bsv_guard.specs.Fitting.{HaveWidths, IsMethodOf, IsFitCall, AnswersFit, RequestFits, IsFitting, DesignFits}
use Rattle.bsv_guard.proofs.BodyFits.{words_fit, word_there, call_fit}
use Rattle.bsv_guard.proofs.Fits.{answers_fit}
use Rattle.bsv_guard.proofs.Lists.{holds_at_all, item_of}

-- ---- one element

-- what is asked of a scheme, of one element
record RunsInWidths (ks : List Kind) (o : Option Element) : Type 0 where
  methods : (k : ℕ) (t : Target) → slice_get (calls_of o) k ≡ Some t → IsMethodOf (kind_at ks t) t.method
  calls_fit : (r : Answers) (ws : List Bits) → AreWordsOf (ports_of (option_map outline o)) ws → AnswersFit ks r
      → (k : ℕ) (x : Site) → slice_get (trace_of ks o r ws).sites k ≡ Some x → IsFitCall (kind_at ks x.target) x.target.method x.arguments
  result_fits : (r : Answers) (ws : List Bits) → AreWordsOf (ports_of (option_map outline o)) ws → AnswersFit ks r
      → (w : Bits) → (trace_of ks o r ws).result ≡ Some w → IsWord w

nothing_runs : (ks : List Kind) → RunsInWidths ks None
nothing_runs ks = record {
  methods = λ k t e. absurd (let n : ⊥ = cc in n);
  calls_fit = λ r ws h f k x e. absurd (let n : ⊥ = cc in n);
  result_fits = λ r ws h f w e. absurd (let n : ⊥ = cc in n);
}

method_there : (o : Option Kind) (us : List ℕ) (c : Call) → method_fits o us c ≡ true → IsMethodOf o c.method
method_there None us c h = absurd (let n : ⊥ = cc in n)
method_there (Some kind) us c h = ltb-true c.method (kind_table kind).methods (and_parts (nat_lt c.method (kind_table kind).methods) _ h).0

result_there : (us : List ℕ) (b : Bool) (k : ℕ) → result_fits us b (Some k) ≡ true → k < length us
result_there us true k h = ltb-true k (length us) h
result_there us false k h = absurd (let n : ⊥ = cc in n)

result_is : (us : List ℕ) (vs : List Bits) (b : Bool) (o : Option ℕ) → HaveWidths us vs → result_fits us b o ≡ true → (w : Bits) → option_map (at vs) o ≡ Some w → IsWord w
result_is us vs b None have h w e = absurd (let n : ⊥ = cc in n)
result_is us vs b (Some k) have h w e =
    let same : at vs k ≡ w = cc in
    let width = item_there us k (result_there us b k h) in
    subst IsWord same (word_there us vs have k width.0 width.1).word

module _ (ks : List Kind) (e : Element) (is : IsElement ks e) where
  pub element_words : (r : Answers) (ws : List Bits) → AreWordsOf e.arguments ws → AnswersFit ks r → HaveWidths is.fits.widths (words e r ws)
  element_words r ws h f = words_fit ks e.arguments e.calls ws h r f e.nodes is.fits.widths is.fits.nodes

  own_fits : (k : ℕ) (c : Call) → slice_get e.calls k ≡ Some c → method_fits (slice_get ks c.part) is.fits.widths c ≡ true
  own_fits k c g = (and_parts (has_width (slice_get is.fits.widths c.taken) 1) (method_fits (slice_get ks c.part) is.fits.widths c) (holds_at_all (call_fits ks is.fits.widths) e.calls is.fits.calls k c g)).1

  site_fits : (ws : List Bits) → HaveWidths is.fits.widths ws → (k : ℕ) (x : Site) → slice_get (map (site_at ks ws) e.calls) k ≡ Some x → IsFitCall (kind_at ks x.target) x.target.method x.arguments
  site_fits ws have k x g =
      let i = item_of (site_at ks ws) e.calls k x g in
      subst (λ (y : Site). IsFitCall (kind_at ks y.target) y.target.method y.arguments) i.gives
      (call_fit is.fits.widths ws have (slice_get ks i.item.part) i.item (own_fits k i.item i.is))

  body_runs : RunsInWidths ks (Some e)
  unfolding body_trace
  body_runs = record {
    methods = λ k t g.
        (let i = item_of target e.calls k t g in
        subst (λ (u : Target). IsMethodOf (kind_at ks u) u.method) i.gives (method_there (slice_get ks i.item.part) is.fits.widths i.item (own_fits k i.item i.is)));
    calls_fit = λ r ws h f. site_fits (words e r ws) (element_words r ws h f);
    result_fits = λ r ws h f. result_is is.fits.widths (words e r ws) (gives_value e.role) e.result (element_words r ws h f) is.fits.result;
  }

-- ---- the whole

each_runs : (b : DesignData) → IsDesign b → (n : ℕ) → RunsInWidths (kinds_of b) (slice_get b.elements n)
each_runs b is n = of (slice_get b.elements n) refl
  where
    of : (o : Option Element) → slice_get b.elements n ≡ o → RunsInWidths (kinds_of b) o
    of None e = nothing_runs (kinds_of b)
    of (Some x) e = body_runs (kinds_of b) x (is.elements n x e)

ports_there : (b : DesignData) (n : ℕ) (ws : List Bits) → AreWordsOf (ports_of (slice_get (map outline b.elements) n)) ws → AreWordsOf (ports_of (option_map outline (slice_get b.elements n))) ws
ports_there b n ws h = subst (λ o. AreWordsOf (ports_of o) ws) (slice_get-map outline b.elements n) h

pub design_is_fitting : (b : DesignData) → IsDesign b → IsFitting (design_scheme b)
unfolding design_scheme
design_is_fitting b is = record {
  methods = λ n t u. (each_runs b is n).methods u.index t u.is;
  calls_fit = λ n r ws h. (each_runs b is n).calls_fit r ws (ports_there b n ws h);
  result_fits = λ n r ws h. (each_runs b is n).result_fits r ws (ports_there b n ws h);
}

-- ---- requests

filled_zeros : (ps : List Port) → IsTrue (list_all port_fits ps) → AreWordsOf ps (filled ps [])
filled_zeros [] h = tt
filled_zeros (p ∷ ps) h =
    let parts = and_parts (port_fits p) (list_all port_fits ps) h in
    (record { word = IsWord_zero p.width (some_width p parts.0) (most_width p parts.0); same_width = refl }, filled_zeros ps parts.1)

filled_words : (ps : List Port) (ws : List Bits) → AreWordsOf ps ws → AreWordsOf ps (filled ps ws)
filled_words [] [] h = tt
filled_words [] (w ∷ ws) h = absurd h
filled_words (p ∷ ps) [] h = absurd h
filled_words (p ∷ ps) (w ∷ ws) h = (h.0, filled_words ps ws h.1)

asked_words : (ps : List Port) (a : Bool) (ws : List Bits) → IsTrue (list_all port_fits ps) → AreWordsOf ps ws → AreWordsOf ps (filled ps (if_asked (Some a) (Some ws)))
asked_words ps true ws h k = filled_words ps ws k
asked_words ps false ws h k = filled_zeros ps h

-- the words of each element among these, as they are asked
request_among : (es : List Element) (asked : List Bool) (args : List (List Bits)) → FitMethods (methods_in es) asked args
    → (n : ℕ) (e : Element) → slice_get es n ≡ Some e → IsTrue (list_all port_fits e.arguments) → AreWordsOf e.arguments (filled e.arguments (if_asked (slice_get asked n) (slice_get args n)))
request_among [] asked args h n e g ports = absurd (let x : ⊥ = cc in x)
request_among (x ∷ es) asked args h n e g ports = cases (is_rule x.role) asked args h (λ os ws k m j. request_among es os ws k m e j ports) n g
  where
    cases : (rule : Bool) (asked : List Bool) (args : List (List Bits)) → FitMethods (cond rule [] (x ∷ methods_in es)) asked args
        → ((os : List Bool) (ws : List (List Bits)) → FitMethods (methods_in es) os ws → (m : ℕ) → slice_get es m ≡ Some e → AreWordsOf e.arguments (filled e.arguments (if_asked (slice_get os m) (slice_get ws m))))
        → (n : ℕ) → slice_get (x ∷ es) n ≡ Some e → AreWordsOf e.arguments (filled e.arguments (if_asked (slice_get asked n) (slice_get args n)))
    cases true [] [] h more n g = filled_zeros e.arguments ports
    cases true [] (ws ∷ args) h more n g = absurd h
    cases true (a ∷ asked) args h more n g = absurd h
    cases false [] args h more n g = absurd h
    cases false (a ∷ asked) [] h more n g = absurd h
    cases false (a ∷ asked) (ws ∷ args) h more zero g =
        let same : x ≡ e = cc in
        asked_words e.arguments a ws ports (subst (λ (y : Element). AreWordsOf y.arguments ws) same h.0)
    cases false (a ∷ asked) (ws ∷ args) h more (suc n) g = more asked args h.1 n g

-- requests that fit a design give each element words of its widths
pub request_fits : (b : DesignData) → IsDesign b → (q : Asking) → AskingFits b.elements q → (n : ℕ) → RequestFits (design_scheme b) q n
unfolding design_scheme given
request_fits b is q fit n =
    subst (λ o. AreWordsOf (ports_of o) (filled (ports_of o) (if_asked (slice_get q.asked n) (slice_get q.args n)))) (sym (slice_get-map outline b.elements n))
    (of (slice_get b.elements n) refl)
  where
    of : (o : Option Element) → slice_get b.elements n ≡ o → AreWordsOf (ports_of (option_map outline o)) (filled (ports_of (option_map outline o)) (if_asked (slice_get q.asked n) (slice_get q.args n)))
    of None e = tt
    of (Some x) e = request_among b.elements q.asked q.args fit n x e (is.elements n x e).fits.ports

nodes_fit : (b : DesignData) → IsDesign b → (n : ℕ) (e : Element) → slice_get b.elements n ≡ Some e → (q : Asking) → AskingFits b.elements q → (a : Look) → FitLook (kinds_of b) a
    → (widths : List ℕ) → widths_from e.arguments (kinds_of b) e.calls [] e.nodes ≡ Some widths → HaveWidths widths (words e (answers (kinds_of b) a) (given (design_scheme b) q n))
unfolding design_scheme
nodes_fit b is n e here q fit a look widths w =
    let ports : slice_get (map outline b.elements) n ≡ Some (outline e) = slice_get-map outline b.elements n ∙ ap (option_map outline) here in
    words_fit (kinds_of b) e.arguments e.calls (given (design_scheme b) q n) (subst (λ o. AreWordsOf (ports_of o) (given (design_scheme b) q n)) ports (request_fits b is q fit n))
    (answers (kinds_of b) a) (answers_fit (kinds_of b) a look) e.nodes widths w

pub design_fits : (b : DesignData) → IsDesign b → DesignFits b
design_fits b is = record { requests = request_fits b is; nodes = nodes_fit b is }
