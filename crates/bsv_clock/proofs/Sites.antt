-- Where an element looks at parts that give words of their widths wherever they are open, the arguments of all its calls
-- have their widths, also at those that are closed.
use Rattle.std.proofs.Common.{◌≡◌, ◌∙◌, ℕ, ◌^◌, Bool, true, false, cond, ◌&&◌, List, Option, Some, None, refl, sym, ap, subst, arith, ltb-true}
use Rattle.std.specs.Prelude.{slice_get, nat_le, nat_lt, nat_eq}
use Rattle.std.proofs.lemmas.Bool.{and_parts, and_from, eq-eqb, le-leb, lt-ltb}
use Rattle.std.proofs.lemmas.Bool.Decides.{nat_tests}
use Rattle.bsv_lemmas.proofs.Places.{mapped_at}
use Rattle.bsv_bits.specs.Words.{Bits, zero_word}
use Rattle.bsv_prim.specs.declared.part.Part.{Part}
use Rattle.bsv_prim.specs.Table.{IsWordOf}
use Rattle.bsv_design.specs.declared.kind.Kind.{Kind}
use Rattle.bsv_design.specs.design.Bodies.{Target, Answers}
use Rattle.bsv_design.specs.parts.Kinds.{kind_table, kind_laws}
use Rattle.bsv_design.specs.scheme.Schemes.{Scheme, Asking, Look, is_open, guard_of, result_of, no_result, answers, given, ready}
use Rattle.bsv_design.specs.scheme.Traces.{Site, Trace, acts, kind_at}
use Rattle.bsv_guard.specs.ElementLaws.{IsUse, ActsAlike}
use Rattle.bsv_guard.specs.Fitting.{IsFitCall, IsFitAnswer, AnswersFit, RequestFits, IsFitting, StaysOpenWhereFit}
use Rattle.bsv_guard.specs.Sound.{IsSound}
use Rattle.bsv_guard.proofs.Extends.{under, is_use, extends_at}
use Rattle.bsv_guard.proofs.Given.{given_arguments}
use Rattle.bsv_guard.proofs.Fits.{nothing_fits}

-- ---- words of a width

is_word_of : ℕ → Bits → Bool
is_word_of width w = nat_eq w.width width && nat_le 1 w.width && nat_le w.width 128 && nat_lt w.value (2 ^ w.width)

of_test : (width : ℕ) (w : Bits) → is_word_of width w ≡ true → IsWordOf width w
unfolding is_word_of
of_test width w h =
    let a = and_parts (nat_eq w.width width && nat_le 1 w.width && nat_le w.width 128) (nat_lt w.value (2 ^ w.width)) h in
    let b = and_parts (nat_eq w.width width && nat_le 1 w.width) (nat_le w.width 128) a.0 in
    let c = and_parts (nat_eq w.width width) (nat_le 1 w.width) b.0 in
    record {
      word = record {
        some = grind (arith, nat_tests, c.1);
        most = grind (arith, nat_tests, b.1);
        below = ltb-true w.value (2 ^ w.width) a.1;
      };
      same_width = grind (arith, nat_tests, c.0);
    }

test_of : (width : ℕ) (w : Bits) → IsWordOf width w → is_word_of width w ≡ true
unfolding is_word_of
test_of width w h =
    and_from (nat_eq w.width width && nat_le 1 w.width && nat_le w.width 128) (nat_lt w.value (2 ^ w.width))
    (and_from (nat_eq w.width width && nat_le 1 w.width) (nat_le w.width 128)
    (and_from (nat_eq w.width width) (nat_le 1 w.width) (eq-eqb w.width width h.same_width) (le-leb 1 w.width h.word.some))
    (le-leb w.width 128 h.word.most))
    (lt-ltb w.value (2 ^ w.width) h.word.below)

-- the word where it has the width, or else 0
abbrev fitted : Option Kind → ℕ → Bits → Bits
fitted None m w = w
fitted (Some kind) m w = cond (is_word_of ((kind_table kind).result_width m) w) w (zero_word ((kind_table kind).result_width m))

fitted_fits : (o : Option Kind) (m : ℕ) (args : List Bits) (w : Bits) → IsFitCall o m args → IsFitAnswer o m (fitted o m w)
fitted_fits None m args w f = absurd f
fitted_fits (Some kind) m args w f = λ read. cases read (is_word_of ((kind_table kind).result_width m) w) refl
  where
    cases : (kind_table kind).is_action m ≡ false → (b : Bool) → is_word_of ((kind_table kind).result_width m) w ≡ b
        → IsWordOf ((kind_table kind).result_width m) (cond b w (zero_word ((kind_table kind).result_width m)))
    cases read true e = of_test ((kind_table kind).result_width m) w e
    cases read false e = nothing_fits (kind_table kind) (kind_laws kind) (record { method = m; args = args }) f read

fitted_is : (o : Option Kind) (m : ℕ) (w : Bits) → ((kind : Kind) → o ≡ Some kind → IsWordOf ((kind_table kind).result_width m) w) → fitted o m w ≡ w
fitted_is None m w h = refl
fitted_is (Some kind) m w h =
    ap (λ (b : Bool). cond b w (zero_word ((kind_table kind).result_width m))) (test_of ((kind_table kind).result_width m) w (h kind refl))

-- ---- one element under a look

-- what an open method gives that the element uses has its width
abbrev pub GivesWords : Scheme → ℕ → Look → Type 0
GivesWords S n a =
    (t : Target) → IsUse S n t → is_open S.kinds a t ≡ true → acts (kind_at S.kinds t) t.method ≡ false → (arguments : List Bits)
    → IsFitCall (kind_at S.kinds t) t.method arguments → IsFitAnswer (kind_at S.kinds t) t.method (result_of (kind_at S.kinds t) t.method (a t) arguments)

module _ (S : Scheme) (ok : IsSound S) (fits : IsFitting S) (q : Asking) (n : ℕ) (a : Look) (request : RequestFits S q n) (gives : GivesWords S n a) where
  fit_answers : Answers
  fit_answers k t args = fitted (kind_at S.kinds t) t.method (answers S.kinds a k t args)

  fit_answers_fit : AnswersFit S.kinds fit_answers
  unfolding fit_answers
  fit_answers_fit k t args f = fitted_fits (kind_at S.kinds t) t.method args (answers S.kinds a k t args) f

  abbrev fit_run : Trace
  fit_run = S.trace n fit_answers (given S q n)

  fit_sites : (k : ℕ) (x : Site) → slice_get fit_run.sites k ≡ Some x → IsFitCall (kind_at S.kinds x.target) x.target.method x.arguments
  fit_sites = fits.calls_fit n fit_answers (given S q n) request fit_answers_fit

  use_there : (k : ℕ) (x : Site) → slice_get fit_run.sites k ≡ Some x → IsUse S n x.target
  use_there k x e = record {
    index = k;
    is = ap (λ (ts : List Target). slice_get ts k) (sym (ok.uses n fit_answers (given S q n) (given_arguments S q n)))
        ∙ mapped_at (λ (y : Site). y.target) fit_run.sites k x e;
  }

  read_there : (k : ℕ) (x : Site) → slice_get fit_run.sites k ≡ Some x → x.action ≡ false → acts (kind_at S.kinds x.target) x.target.method ≡ false
  read_there k x e read = sym (ok.actions n fit_answers (given S q n) (given_arguments S q n) k x e) ∙ read

  answered : (o : Option Kind) (m : ℕ) (p : Part) (args : List Bits) → acts o m ≡ false → IsFitCall o m args
      → (guard_of o m p ≡ true → IsFitAnswer o m (result_of o m p args))
      → (kind : Kind) → o ≡ Some kind → IsWordOf ((kind_table kind).result_width m) (cond (guard_of o m p) (result_of o m p args) (no_result o m))
  answered None m p args read f h kind e = absurd f
  answered (Some own) m p args read f h kind e =
      subst (λ (k : Kind). IsWordOf ((kind_table k).result_width m) (cond ((kind_table own).guard m p) ((kind_table own).result m p args) (zero_word ((kind_table own).result_width m)))) (some_same e)
      (cases ((kind_table own).guard m p) refl)
    where
      some_same : Some own ≡ Some kind → own ≡ kind
      some_same e = cc

      cases : (b : Bool) → (kind_table own).guard m p ≡ b → IsWordOf ((kind_table own).result_width m) (cond b ((kind_table own).result m p args) (zero_word ((kind_table own).result_width m)))
      cases true g = h g read
      cases false g = nothing_fits (kind_table own) (kind_laws own) (record { method = m; args = args }) f read

  same_run : fit_run ≡ under S ok q n a
  unfolding fit_answers answers
  same_run =
      ok.local n fit_answers (answers S.kinds a) (given S q n) (given_arguments S q n)
      (λ k x e read.
      fitted_is (kind_at S.kinds x.target) x.target.method (answers S.kinds a k x.target x.arguments)
      (answered (kind_at S.kinds x.target) x.target.method (a x.target) x.arguments (read_there k x e read) (fit_sites k x e)
      (λ o. gives x.target (use_there k x e) o (read_there k x e read) x.arguments (fit_sites k x e))))

  pub sites_fit : (k : ℕ) (x : Site) → slice_get (under S ok q n a).sites k ≡ Some x → IsFitCall (kind_at S.kinds x.target) x.target.method x.arguments
  sites_fit = subst (λ (t : Trace). (k : ℕ) (x : Site) → slice_get t.sites k ≡ Some x → IsFitCall (kind_at S.kinds x.target) x.target.method x.arguments) same_run fit_sites

  -- an element that is ready does the same where each of its methods that is open stays so
  pub extends_here : (g : Bool) (b : Look) → ((t : Target) → IsUse S n t → is_open S.kinds a t ≡ true → StaysOpenWhereFit S.kinds a b t) → ready g S q n a ≡ true → ActsAlike g S q n a b
  extends_here g b h r =
      extends_at S ok q n g a b
      (λ k x e o.
      let stay = h x.target (is_use S ok q n a k x e) o in
      (stay.guard, λ read. stay.result (sym (ok.actions n (answers S.kinds a) (given S q n) (given_arguments S q n) k x e) ∙ read) x.arguments (sites_fit k x e))) r
