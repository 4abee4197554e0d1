-- A design of one rule that reads a wire is one, for the tests.
use Rattle.std.proofs.Common.{◌≡◌, ℕ, zero, suc, ◌&&◌, ◌==◌, List, [], ◌∷◌, Some, None, refl, subst, sym, ap, true, nat_lt}
use Rattle.std.specs.Prelude.{codes, slice_get}
use Rattle.std.proofs.lemmas.Option.{same_Some}
use Rattle.bsv_ast.specs.Names.{is_lower, is_keyword, grammar_words, reserved_words}
use Rattle.bsv_bits.specs.Words.{Bits, bit}
use Rattle.bsv_design.specs.declared.design.NamedPart.{NamedPart}
use Rattle.bsv_design.specs.declared.element.Element.{Element}
use Rattle.bsv_design.specs.declared.element.Role.TheVariants.{Rule}
use Rattle.bsv_design.specs.declared.kind.Kind.{Kind}
use Rattle.bsv_design.specs.declared.node.Node.TheVariants.{Constant}
use Rattle.bsv_design.specs.declared.attributes.Assert.{Assert}
use Rattle.bsv_design.specs.declared.attributes.Pair.{Pair}
use Rattle.bsv_design.specs.design.Bodies.{Answers, words, words_after}
use Rattle.bsv_design.specs.design.Branches.{AreExclusive, AreSameWhereTaken, apart}
use Rattle.bsv_design.specs.design.Designs.{HasWidths, IsDesign, IsDotted, IsElement, IsNamed}
use Rattle.bsv_design.specs.parts.Kinds.{kind_table}
use Rattle.bsv_design.specs.scheme.Traces.{body_trace, site_at}
use Rattle.bsv_design.specs.design.Widths.{widths_from}

abbrev pub reading : Element
reading = record {
  name = codes "r";
  role = Rule;
  arguments = [];
  nodes = Constant (bit true) ∷ [];
  conditions = [];
  calls = record { part = 0; method = 1; taken = 0; branches = []; args = [] } ∷ [];
  result = None;
}

lower_top : is_lower (codes "top") ≡ true
unfolding is_lower is_keyword grammar_words reserved_words
lower_top = refl

lower_r : is_lower (codes "r") ≡ true
unfolding is_lower is_keyword grammar_words reserved_words
lower_r = refl

lower_w : is_lower (codes "w") ≡ true
unfolding is_lower is_keyword grammar_words reserved_words
lower_w = refl

dotted : (name : List ℕ) → is_lower name ≡ true → IsDotted name
dotted name h = record { first = name; rest = []; lower = ap (λ b. b && true) h; is = refl }

-- ---- the rule

record IsReadable (k : Kind) : Type 0 where
  methods : (kind_table k).methods ≡ 2
  arity : (kind_table k).arity 1 ≡ 0

call_is_fit : (methods arity : ℕ) → methods ≡ 2 → arity ≡ 0 → ((nat_lt 1 methods && (0 == arity)) && true) ≡ true
call_is_fit methods arity two none =
    subst (λ m. ((nat_lt 1 m && (0 == arity)) && true) ≡ true) (sym two) (subst (λ a. ((0 == a) && true) ≡ true) (sym none) refl)

widths : (k : Kind) → IsReadable k → HasWidths (k ∷ []) reading
unfolding widths_from
widths k h = record {
  widths = 1 ∷ [];
  nodes = refl;
  calls = call_is_fit (kind_table k).methods ((kind_table k).arity 1) h.methods h.arity;
  conditions = refl;
  result = refl;
  ports = refl;
}

only : {A : Type 0} (x y : A) (n : ℕ) (P : A → Type 0) → slice_get (x ∷ []) n ≡ Some y → P x → P y
only x y zero P at h = subst P (same_Some x y at) h
only x y (suc n) P at h = absurd cc

exclusive : (k : Kind) (r : Answers) (ws : List Bits) → AreExclusive (body_trace (k ∷ []) reading r ws).sites
unfolding body_trace
exclusive k r ws = λ i j x y first second differ a b.
    let none : x.branches ≡ [] = only (site_at (k ∷ []) (words reading r ws) (record { part = 0; method = 1; taken = 0; branches = []; args = [] })) x i (λ z. z.branches ≡ []) first refl in
    let no : apart [] y.branches ≡ true = subst (λ bs. apart bs y.branches ≡ true) none differ in
    absurd cc

decided : (k : Kind) (q r : Answers) (ws : List Bits) → AreSameWhereTaken (body_trace (k ∷ []) reading q ws) (body_trace (k ∷ []) reading r ws)
unfolding body_trace words_after
decided k q r ws = record {
  sites = (record { target = refl; action = refl; branches = refl; taken = refl; arguments = λ h. refl }, tt);
  demands = tt;
  result = refl;
}

is_element : (k : Kind) → IsReadable k → IsElement (k ∷ []) reading
is_element k h = record {
  fits = widths k h;
  nodes = refl;
  calls = refl;
  arguments = refl;
  rule = λ e. refl;
  value = λ e. absurd cc;
  exclusive = λ r ws long. exclusive k r ws;
  decided = λ q r ws long same. decided k q r ws;
}

-- ---- the design

one_place : {A : Type 0} (x y z : A) (m n : ℕ) → slice_get (x ∷ []) m ≡ Some y → slice_get (x ∷ []) n ≡ Some z → m ≡ n
one_place x y z zero zero h k = refl
one_place x y z zero (suc n) h k = absurd cc
one_place x y z (suc m) n h k = absurd cc

is_design : (name : List ℕ) (p : NamedPart) → name ≡ codes "top" → p.path ≡ codes "w" → (kind_table p.kind).methods ≡ 2 → (kind_table p.kind).arity 1 ≡ 0
    → IsDesign (record { name = name; elements = reading ∷ []; parts = p ∷ []; pairs = []; asserts = [] })
is_design name p named path methods arity = record {
  name = subst (λ n. is_lower n ≡ true) (sym named) lower_top;
  few_elements = refl;
  few_parts = refl;
  elements = λ n e at. only reading e n (IsElement (p.kind ∷ [])) at (is_element p.kind (record { methods = methods; arity = arity }));
  named = λ n e at. only reading e n (λ d. IsNamed d.role d.name) at (dotted (codes "r") lower_r);
  apart = λ m n d e first second same. one_place reading d e m n first second;
  paths = λ n q at. only p q n (λ x. IsDotted x.path) at (subst IsDotted (sym path) (dotted (codes "w") lower_w));
  parts_apart = λ m n q r first second same. one_place p q r m n first second;
  methods_first = λ m n d e first second before rule. only reading e n (λ x. x.role ≡ Rule) second refl;
  pairs = λ k q at. absurd cc;
  asserts = λ k a at. absurd cc;
}

-- the same, of lists that are equal to those
pub sample : (name : List ℕ) (p : NamedPart) (es : List Element) (ps : List NamedPart) (prs : List Pair) (marks : List Assert)
    → name ≡ codes "top" → p.path ≡ codes "w" → (kind_table p.kind).methods ≡ 2 → (kind_table p.kind).arity 1 ≡ 0
    → es ≡ reading ∷ [] → ps ≡ p ∷ [] → prs ≡ [] → marks ≡ [] → IsDesign (record { name = name; elements = es; parts = ps; pairs = prs; asserts = marks })
sample name p es ps prs marks named path methods arity es_are ps_are prs_are marks_are =
    let with_es = subst (λ (xs : List Element). IsDesign (record { name = name; elements = xs; parts = p ∷ []; pairs = []; asserts = [] })) (sym es_are) (is_design name p named path methods arity) in
    let with_ps = subst (λ (xs : List NamedPart). IsDesign (record { name = name; elements = es; parts = xs; pairs = []; asserts = [] })) (sym ps_are) with_es in
    let with_prs = subst (λ (xs : List Pair). IsDesign (record { name = name; elements = es; parts = ps; pairs = xs; asserts = [] })) (sym prs_are) with_ps in
    subst (λ (xs : List Assert). IsDesign (record { name = name; elements = es; parts = ps; pairs = prs; asserts = xs })) (sym marks_are) with_prs
