-- The law of steadiness.
use Rattle.std.proofs.Common.{◌≡◌, ◌∙◌, ℕ, Bool, true, false, List, [], ◌∷◌, Option, Some, None, refl, sym, ap, subst}
use Rattle.bsv_bits.specs.Words.{Bits}
use Rattle.bsv_prim.specs.Calls as prim
use Rattle.bsv_prim.specs.Calls.{IsReady}
use Rattle.bsv_prim.specs.Table.{Call, CallFits}
use Rattle.bsv_prim.specs.declared.part.Part.{Part}
use Rattle.bsv_design.specs.declared.kind.Kind.{Kind}
use Rattle.bsv_design.specs.design.Bodies.{Target}
use Rattle.bsv_design.specs.parts.Kinds.{kind_table, kind_laws}
use Rattle.bsv_design.specs.scheme.Schemes.{Scheme, Asking, Called, Look, is_open, guard_of, result_of, ready}
use Rattle.bsv_design.specs.scheme.Serial.{Serial}
use Rattle.bsv_design.specs.scheme.States.{FitsKinds, emptied, part_at, plain}
use Rattle.bsv_design.specs.scheme.Traces.{acts, kind_at}
use Rattle.bsv_guard.specs.ElementLaws.{IsUse, ActsAlike}
use Rattle.bsv_guard.specs.Fitting.{FittingLaws, IsFitCall, IsFitAnswer, IsMethodOf, RequestFits, StaysOpenWhereFit}
use Rattle.bsv_guard.specs.Turns.{calls_on}
use Rattle.bsv_guard.proofs.Fits.{fitting_keeps}
use Rattle.bsv_guard.proofs.Keeps.{sound_keeps}
use Rattle.bsv_clock.specs.Grounds.{IsLawful}
use Rattle.bsv_clock.specs.Looks.{look_after, clock_look, calls_in_turn, seen_by}
use Rattle.bsv_clock.specs.Steadiness.{AllGo, GoInOrder, IsSteady, LooksDecide}
use Rattle.bsv_clock.proofs.CallLists.{seen_on}
use Rattle.bsv_clock.proofs.InTurn.{turns, run_fits, run_part, run_orderly, run_before}
use Rattle.bsv_clock.proofs.Sites.{GivesWords, extends_here}
use Rattle.bsv_guard.proofs.Turns.{fits_at}

-- ---- parts

pub emptied_fits : (ks : List Kind) (ps : List Part) → FitsKinds ks ps → FitsKinds ks (emptied ks ps)
emptied_fits [] [] h = tt
emptied_fits [] (p ∷ ps) h = absurd h
emptied_fits (k ∷ ks) [] h = absurd h
emptied_fits (k ∷ ks) (p ∷ ps) h = ((kind_laws k).fit.emptied p h.0, emptied_fits ks ps h.1)

module _ (S : Scheme) (ok : IsLawful S) (g : Bool) (q : Asking) (requests : (n : ℕ) → RequestFits S q n) where
  abbrev pub fits : FittingLaws S
  fits = fitting_keeps S ok.sound ok.fitting

  -- the part at which a method looks after a run
  pub looked_at : (ps : List Part) → FitsKinds S.kinds ps → (cs : List Called) (t : Target) (kind : Kind) → kind_at S.kinds t ≡ Some kind
      → look_after S.kinds ps cs t ≡ prim.look (kind_table kind) t.method (part_at ps t.part) (calls_on t.part cs)
  unfolding look_after
  looked_at ps h cs t kind is =
      (turns S ok g q requests).each_part ps h (seen_by S.kinds t cs) t.part kind is
      ∙ ap (prim.after_calls (kind_table kind) (part_at ps t.part)) (seen_on S.kinds t kind is cs)

  module _ (ps end : List Part) (ns : List ℕ) (n : ℕ) (parts : FitsKinds S.kinds ps) (serial : Serial g S q ps ns end) (go : GoInOrder S ns) (all : AllGo S ns n) where
    abbrev here : Look
    here = look_after S.kinds ps (calls_in_turn S q ps ns)

    end_fits : FitsKinds S.kinds end
    end_fits = run_fits S ok g q requests parts serial

    -- a method that is open after just the calls that it sees is open after all, and gives the same
    module _ (t : Target) (u : IsUse S n t) (kind : Kind) (is : kind_at S.kinds t ≡ Some kind) where
      abbrev done : List Call
      done = calls_on t.part (calls_in_turn S q ps ns)

      abbrev before : Part
      before = part_at ps t.part

      looks : here t ≡ prim.look (kind_table kind) t.method before done
      looks = looked_at ps parts (calls_in_turn S q ps ns) t kind is

      stands : plain end t ≡ prim.after_calls (kind_table kind) before done
      stands = run_part S ok g q requests t.part kind is parts serial

      abbrev call_with : List Bits → Call
      call_with args = record { method = t.method; args = args }

      fits_call : (args : List Bits) → IsFitCall (kind_at S.kinds t) t.method args → CallFits (kind_table kind) (call_with args)
      fits_call args = subst (λ (o : Option Kind). IsFitCall o t.method args) is

      open_there : is_open S.kinds here t ≡ true → (kind_table kind).guard t.method (prim.look (kind_table kind) t.method before done) ≡ true
      open_there o = ap ((kind_table kind).guard t.method) (sym looks) ∙ sym (ap (λ (k : Option Kind). guard_of k t.method (here t)) is) ∙ o

      guard_stays : (args : List Bits) → IsFitCall (kind_at S.kinds t) t.method args → is_open S.kinds here t ≡ true → is_open S.kinds (plain end) t ≡ true
      guard_stays args f o =
          ap (λ (k : Option Kind). guard_of k t.method (plain end t)) is
          ∙ ap ((kind_table kind).guard t.method) stands
          ∙ (kind_laws kind).look.ready before done (call_with args) (fits_at S.kinds ps parts t.part kind is)
          (run_orderly S ok g q requests t.part kind is parts serial go) (fits_call args f)
          (run_before S ok g q requests t.part kind is ns n all ps t u refl (call_with args) refl) (open_there o)

      result_stays : (args : List Bits) → IsFitCall (kind_at S.kinds t) t.method args → acts (kind_at S.kinds t) t.method ≡ false → is_open S.kinds here t ≡ true
          → result_of (kind_at S.kinds t) t.method (here t) args ≡ result_of (kind_at S.kinds t) t.method (plain end t) args
      result_stays args f read o =
          ap (λ (k : Option Kind). result_of k t.method (here t) args) is
          ∙ ap (λ (p : Part). (kind_table kind).result t.method p args) looks
          ∙ sym ((kind_laws kind).look.result before done (call_with args) (fits_at S.kinds ps parts t.part kind is)
          (run_orderly S ok g q requests t.part kind is parts serial go) (fits_call args f)
          (run_before S ok g q requests t.part kind is ns n all ps t u refl (call_with args) refl) (sym (ap (λ (k : Option Kind). acts k t.method) is) ∙ read) (open_there o))
          ∙ ap (λ (p : Part). (kind_table kind).result t.method p args) (sym stands)
          ∙ ap (λ (k : Option Kind). result_of k t.method (plain end t) args) (sym is)

      gives_word : (args : List Bits) → IsFitCall (kind_at S.kinds t) t.method args → acts (kind_at S.kinds t) t.method ≡ false → is_open S.kinds here t ≡ true
          → IsFitAnswer (kind_at S.kinds t) t.method (result_of (kind_at S.kinds t) t.method (here t) args)
      gives_word args f read o =
          subst (IsFitAnswer (kind_at S.kinds t) t.method) (sym (result_stays args f read o))
          (subst (λ (k : Option Kind). IsFitAnswer k t.method (result_of k t.method (plain end t) args)) (sym is)
          (λ r. (kind_laws kind).widths.result (plain end t) (call_with args) (fits_at S.kinds end end_fits t.part kind is) (fits_call args f) r))

    kind_of : (t : Target) → IsUse S n t → (kind : Kind) × (kind_at S.kinds t ≡ Some kind)
    kind_of t u = cases (kind_at S.kinds t) refl (ok.fitting.methods n t u)
      where
        cases : (o : Option Kind) → kind_at S.kinds t ≡ o → IsMethodOf o t.method → (kind : Kind) × (kind_at S.kinds t ≡ Some kind)
        cases None e m = absurd m
        cases (Some kind) e m = (kind, e)

    gives_words : GivesWords S n here
    gives_words t u o read args f = let k = kind_of t u in gives_word t u k.0 k.1 args f read o

    stays : (t : Target) → IsUse S n t → is_open S.kinds here t ≡ true → StaysOpenWhereFit S.kinds here (plain end) t
    stays t u o =
        let k = kind_of t u in
        let some = fits.callable n t u in
        record {
          guard = guard_stays t u k.0 k.1 some.0 some.1 o;
          result = λ read args f. result_stays t u k.0 k.1 args f read o;
        }

    pub does_the_same : ready g S q n here ≡ true → ActsAlike g S q n here (plain end)
    does_the_same r = extends_here S ok.sound ok.fitting q n here (requests n) gives_words g (plain end) stays r

pub steady_scheme : (aggressive : Bool) (S : Scheme) → IsLawful S → IsSteady aggressive S
unfolding clock_look
steady_scheme g S ok q s end fired n fit serial go all r =
    does_the_same S ok g q fit.requests (emptied S.kinds s) end fired n (emptied_fits S.kinds s fit.parts) serial go all r

pub looks_decide : (aggressive : Bool) (S : Scheme) → IsLawful S → LooksDecide aggressive S
looks_decide g S ok q n a b h = (sound_keeps S ok.sound).local g q n a b h
