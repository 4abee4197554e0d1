-- What is asked of a scheme holds of each scheme that is alike.
use Rattle.std.proofs.Common.{◌≡◌, ◌∙◌, ℕ, List, length, sym, ap, subst}
use Rattle.std.specs.Prelude.{map, slice_get, Some}
use Rattle.bsv_bits.specs.Words.{Bits}
use Rattle.bsv_design.specs.declared.kind.Kind.{Kind}
use Rattle.bsv_design.specs.design.Bodies.{Target, Answers}
use Rattle.bsv_design.specs.design.Branches.{AreExclusive, AgreeOnTaken, AreSameWhereTaken}
use Rattle.bsv_design.specs.scheme.Schemes.{Scheme, Outline, AreArgumentsOf, AreAlike, ports_of}
use Rattle.bsv_design.specs.scheme.States.{AreWordsOf}
use Rattle.bsv_design.specs.scheme.Traces.{Site, Trace, acts, kind_at}
use Rattle.bsv_guard.specs.Sound.{IsSound, AreSamePlaces, AgreeOnReads}
use Rattle.bsv_guard.specs.Fitting.{AnswersFit, IsMethodOf, IsFitCall, IsFitting}
use Rattle.bsv_design.proofs.Elements.{length-words}

module _ (S T : Scheme) (al : AreAlike S T) where
  there : (n : ℕ) (ws : List Bits) → AreArgumentsOf T n ws → AreArgumentsOf S n ws
  there n ws = subst (λ (es : List Outline). length ws ≡ length (ports_of (slice_get es n))) (sym al.elements)

  same : (n : ℕ) (r : Answers) (ws : List Bits) → AreArgumentsOf T n ws → S.trace n r ws ≡ T.trace n r ws
  same n r ws f = al.traces n r ws (there n ws f)

  sites_same : (n : ℕ) (r : Answers) (ws : List Bits) → AreArgumentsOf T n ws → (T.trace n r ws).sites ≡ (S.trace n r ws).sites
  sites_same n r ws f = ap (λ (t : Trace). t.sites) (sym (same n r ws f))

  site_there : (n : ℕ) (r : Answers) (ws : List Bits) → AreArgumentsOf T n ws → (k : ℕ) (x : Site) → slice_get (T.trace n r ws).sites k ≡ Some x → slice_get (S.trace n r ws).sites k ≡ Some x
  site_there n r ws f k x e = ap (λ (xs : List Site). slice_get xs k) (sym (sites_same n r ws f)) ∙ e

  pub sound_alike : IsSound S → IsSound T
  sound_alike ok = record {
    uses = λ n r ws f. ap (λ (xs : List Site). map (λ (x : Site). x.target) xs) (sites_same n r ws f) ∙ ok.uses n r ws (there n ws f) ∙ al.uses n;
    places = λ n q r vs ws f g.
        subst (λ (t : Trace). AreSamePlaces t (T.trace n r ws)) (same n q vs f)
        (subst (AreSamePlaces (S.trace n q vs)) (same n r ws g) (ok.places n q r vs ws (there n vs f) (there n ws g)));
    exclusive = λ n r ws f. subst AreExclusive (sym (sites_same n r ws f)) (ok.exclusive n r ws (there n ws f));
    decided = λ n q r ws f h.
        subst (λ (t : Trace). AreSameWhereTaken t (T.trace n r ws)) (same n q ws f)
        (subst (AreSameWhereTaken (S.trace n q ws)) (same n r ws f) (ok.decided n q r ws (there n ws f) (subst (AgreeOnTaken q r) (sites_same n q ws f) h)));
    local = λ n q r ws f h.
        sym (same n q ws f) ∙ ok.local n q r ws (there n ws f) (subst (AgreeOnReads q r) (sites_same n q ws f) h) ∙ same n r ws f;
    actions = λ n r ws f k x e.
        ok.actions n r ws (there n ws f) k x (site_there n r ws f k x e) ∙ ap (λ (ks : List Kind). acts (kind_at ks x.target) x.target.method) al.kinds;
    values = λ n o e v r ws f k x g.
        ok.values n o (ap (λ (es : List Outline). slice_get es n) al.elements ∙ e) v r ws (there n ws f) k x (site_there n r ws f k x g);
  }

  words_there : (n : ℕ) (ws : List Bits) → AreWordsOf (ports_of (slice_get T.elements n)) ws → AreWordsOf (ports_of (slice_get S.elements n)) ws
  words_there n ws = subst (λ (es : List Outline). AreWordsOf (ports_of (slice_get es n)) ws) (sym al.elements)

  arguments_there : (n : ℕ) (ws : List Bits) → AreWordsOf (ports_of (slice_get T.elements n)) ws → AreArgumentsOf T n ws
  arguments_there n ws h = length-words (ports_of (slice_get T.elements n)) ws h

  pub fitting_alike : IsFitting S → IsFitting T
  fitting_alike ok = record {
    methods = λ n t u.
        subst (λ (ks : List Kind). IsMethodOf (kind_at ks t) t.method) al.kinds
        (ok.methods n t (record { index = u.index; is = ap (λ (ts : List Target). slice_get ts u.index) (al.uses n) ∙ u.is }));
    calls_fit = λ n r ws h f k x e.
        subst (λ (ks : List Kind). IsFitCall (kind_at ks x.target) x.target.method x.arguments) al.kinds
        (ok.calls_fit n r ws (words_there n ws h) (subst (λ (ks : List Kind). AnswersFit ks r) (sym al.kinds) f) k x (site_there n r ws (arguments_there n ws h) k x e));
    result_fits = λ n r ws h f w e.
        ok.result_fits n r ws (words_there n ws h) (subst (λ (ks : List Kind). AnswersFit ks r) (sym al.kinds) f) w
        (ap (λ (t : Trace). t.result) (same n r ws (arguments_there n ws h)) ∙ e);
  }
