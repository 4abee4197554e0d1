-- Where the parts fit at which an element looks, all is of its width.
use Rattle.std.proofs.Common.{◌≡◌, ◌∙◌, ℕ, zero, suc, ◌<◌, ◌≤◌, Bool, true, false, cond, List, [], ◌∷◌, length, Option, Some, None, refl, sym, ap, subst, arith}
use Rattle.std.specs.Prelude.{slice_get}
use Rattle.bsv_bits.specs.Words.{Bits, IsWord, zero_word}
use Rattle.bsv_bits.proofs.Modulo.{IsWord_zero}
use Rattle.bsv_prim.specs.Table.{word_at, Table, Call, CallFits, IsWordOf}
use Rattle.bsv_prim.specs.Laws.{Laws}
use Rattle.bsv_prim.specs.declared.part.Part.{Part}
use Rattle.bsv_design.specs.declared.kind.Kind.{Kind}
use Rattle.bsv_design.specs.design.Bodies.{Target}
use Rattle.bsv_design.specs.parts.Kinds.{kind_table, kind_laws}
use Rattle.bsv_design.specs.scheme.Schemes.{Scheme, Asking, Look, Called, is_open, guard_of, result_of, no_result, answers, given, seen, ready, calls, value, taken_actions}
use Rattle.bsv_design.specs.scheme.States.{FitLook}
use Rattle.bsv_design.specs.scheme.Traces.{Site, kind_at}
use Rattle.bsv_guard.specs.Sound.{IsSound}
use Rattle.bsv_guard.specs.ElementLaws.{IsUse, ActsAlike}
use Rattle.bsv_guard.specs.Fitting.{IsMethodOf, IsFitCall, IsFitAnswer, AnswersFit, RequestFits, IsFitting, StaysOpenWhereFit, FittingLaws}
use Rattle.bsv_guard.proofs.Extends.{under, is_use, extends_at}
use Rattle.bsv_guard.proofs.Given.{given_arguments}
use Rattle.bsv_guard.proofs.Lists.{all_at}
use Rattle.bsv_guard.proofs.Made.{all_made}

-- 0 fits where a method is closed
pub nothing_fits : (t : Table) → Laws t → (c : Call) → CallFits t c → t.is_action c.method ≡ false → IsWordOf (t.result_width c.method) (zero_word (t.result_width c.method))
nothing_fits t laws c f read =
    let some = laws.widths.result t.opening c laws.fit.opening f read in
    record {
      word = IsWord_zero (t.result_width c.method) (subst (λ (n : ℕ). 1 ≤ n) some.same_width some.word.some) (subst (λ (n : ℕ). n ≤ 128) some.same_width some.word.most);
      same_width = refl;
    }

answer_fits : (o : Option Kind) (m : ℕ) (p : Part) (args : List Bits) → ((kind : Kind) → o ≡ Some kind → (kind_table kind).Fits p) → IsFitCall o m args
    → IsFitAnswer o m (cond (guard_of o m p) (result_of o m p args) (no_result o m))
answer_fits None m p args fit f = absurd f
answer_fits (Some kind) m p args fit f = λ read. cases read (guard_of (Some kind) m p)
  where
    cases : (kind_table kind).is_action m ≡ false → (b : Bool) → IsWordOf ((kind_table kind).result_width m) (cond b ((kind_table kind).result m p args) (zero_word ((kind_table kind).result_width m)))
    cases read true = (kind_laws kind).widths.result p (record { method = m; args = args }) (fit kind refl) f read
    cases read false = nothing_fits (kind_table kind) (kind_laws kind) (record { method = m; args = args }) f read

pub answers_fit : (ks : List Kind) (a : Look) → FitLook ks a → AnswersFit ks (answers ks a)
unfolding answers
answers_fit ks a fit k t args f = answer_fits (kind_at ks t) t.method (a t) args (λ kind e. fit t.part t.method kind e) f

-- ---- arguments that fit

-- so many words that are 0, of these widths
zero_words : (ℕ → ℕ) → ℕ → List Bits
zero_words w zero = []
zero_words w (suc n) = zero_word (w zero) ∷ zero_words (λ k. w (suc k)) n

length-zero_words : (w : ℕ → ℕ) (n : ℕ) → length (zero_words w n) ≡ n
unfolding zero_words
length-zero_words w zero = refl
length-zero_words w (suc n) = ap suc (length-zero_words (λ k. w (suc k)) n)

zero_there : (w : ℕ → ℕ) (n j : ℕ) → j < n → word_at (zero_words w n) j ≡ zero_word (w j)
unfolding zero_words
zero_there w zero j l = absurd (omega arith)
zero_there w (suc n) zero l = refl
zero_there w (suc n) (suc j) l = zero_there (λ k. w (suc k)) n j (omega arith)

zeros_fit : (o : Option Kind) (m : ℕ) → IsMethodOf o m → (arguments : List Bits) × IsFitCall o m arguments
zeros_fit None m h = absurd h
zeros_fit (Some kind) m h =
    let t = kind_table kind in (
      zero_words (t.argument_width m) (t.arity m),
      record {
        method = h;
        args = record {
          arity = length-zero_words (t.argument_width m) (t.arity m);
          widths = λ j l.
              (let most = (kind_laws kind).widths.argument m j h l in
              subst (IsWordOf ((kind_table kind).argument_width m j)) (sym (zero_there ((kind_table kind).argument_width m) ((kind_table kind).arity m) j l))
              (record { word = IsWord_zero ((kind_table kind).argument_width m j) most.0 most.1; same_width = refl }));
        };
      },
    )

module _ (S : Scheme) (ok : IsSound S) (fits : IsFitting S) (q : Asking) (n : ℕ) (a : Look) (request : RequestFits S q n) (fit : FitLook S.kinds a) where
  site_fits : (k : ℕ) (x : Site) → slice_get (under S ok q n a).sites k ≡ Some x → IsFitCall (kind_at S.kinds x.target) x.target.method x.arguments
  site_fits = fits.calls_fit n (answers S.kinds a) (given S q n) request (answers_fit S.kinds a fit)

  made_fit : (k : ℕ) (c : Called) → slice_get (calls S q n a) k ≡ Some c → IsFitCall (kind_at S.kinds c.target) c.target.method c.arguments
  unfolding seen calls
  made_fit =
      all_at (λ c. IsFitCall (kind_at S.kinds c.target) c.target.method c.arguments) (taken_actions (under S ok q n a).sites)
      (all_made (λ c. IsFitCall (kind_at S.kinds c.target) c.target.method c.arguments) (under S ok q n a).sites (λ k x m. site_fits k x m.0))

  value_fits : (w : Bits) → value S q n a ≡ Some w → IsWord w
  unfolding seen value
  value_fits = fits.result_fits n (answers S.kinds a) (given S q n) request (answers_fit S.kinds a fit)

  extends_fit : (g : Bool) (b : Look) → ((t : Target) → IsUse S n t → is_open S.kinds a t ≡ true → StaysOpenWhereFit S.kinds a b t) → ready g S q n a ≡ true → ActsAlike g S q n a b
  extends_fit g b h r =
      extends_at S ok q n g a b
      (λ k x e o.
      let stay = h x.target (is_use S ok q n a k x e) o in
      (stay.guard, λ read. stay.result (sym (ok.actions n (answers S.kinds a) (given S q n) (given_arguments S q n) k x e) ∙ read) x.arguments (site_fits k x e))) r

pub fitting_keeps : (S : Scheme) → IsSound S → IsFitting S → FittingLaws S
fitting_keeps S ok fits = record {
  answers_fit = λ a fit. answers_fit S.kinds a fit;
  callable = λ n t u. zeros_fit (kind_at S.kinds t) t.method (fits.methods n t u);
  made_fit = λ q n a request fit. made_fit S ok fits q n a request fit;
  value_fits = λ q n a request fit. value_fits S ok fits q n a request fit;
  extends_fit = λ g q n a b request fit. extends_fit S ok fits q n a request fit g b;
}
