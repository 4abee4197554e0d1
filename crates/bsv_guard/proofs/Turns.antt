-- The calls of an element that is run whole, part by part.
use Rattle.std.proofs.Common.{◌≡◌, ◌∙◌, ℕ, zero, suc, ◌<◌, Bool, true, false, cond, List, [], ◌∷◌, length, Option, Some, refl, sym, ap, subst, arith}
use Rattle.std.specs.Prelude.{slice_get, slice_set, ◌==◌}
use Rattle.std.specs.List.{AllByRecursion}
use Rattle.std.proofs.lemmas.Bool.{eqb-true, eqb-false}
use Rattle.std.proofs.lemmas.Option.{slice_get_within}
use Rattle.std.proofs.lemmas.List.{length-set}
use Rattle.bsv_lemmas.proofs.Places.{all_from}
use Rattle.bsv_prim.proofs.Elements.{element_in_turn}
use Rattle.bsv_prim.proofs.Orderly.{fits_after}
use Rattle.bsv_prim.specs.Calls.{IsReady, IsOrderly}
use Rattle.bsv_prim.specs.Calls as prim
use Rattle.bsv_prim.specs.Elements.{IsByRank, AreByRank}
use Rattle.bsv_prim.specs.Table.{Table, Call, CallFits}
use Rattle.bsv_prim.specs.declared.part.Part.{Part}
use Rattle.bsv_design.specs.declared.kind.Kind.{Kind}
use Rattle.bsv_design.specs.parts.Kinds.{kind_table, kind_laws}
use Rattle.bsv_design.specs.scheme.Schemes.{Scheme, Asking, Called, guard_of, calls}
use Rattle.bsv_design.specs.scheme.Serial.{calls_made, run_whole}
use Rattle.bsv_design.specs.scheme.States.{FitsKinds, FitLook, part_at, plain, applied, after_call, after_calls}
use Rattle.bsv_design.specs.scheme.Traces.{kind_at}
use Rattle.bsv_guard.specs.Sound.{IsSound}
use Rattle.bsv_guard.specs.ElementLaws.{ElementLaws, call_of}
use Rattle.bsv_guard.specs.Fitting.{IsFitting, IsFitCall, FittingLaws}
use Rattle.bsv_guard.specs.Turns.{calls_on, IsTurn, TurnLaws}
use Rattle.bsv_guard.proofs.Fits.{fitting_keeps}
use Rattle.bsv_guard.proofs.Keeps.{sound_keeps}
use Rattle.bsv_guard.proofs.Ranks.{all_by_rank}

-- ---- parts of kinds

pub length-parts : (ks : List Kind) (ps : List Part) → FitsKinds ks ps → length ps ≡ length ks
length-parts [] [] h = refl
length-parts [] (p ∷ ps) h = absurd h
length-parts (k ∷ ks) [] h = absurd h
length-parts (k ∷ ks) (p ∷ ps) h = ap suc (length-parts ks ps h.1)

pub fits_at : (ks : List Kind) (ps : List Part) → FitsKinds ks ps → (i : ℕ) (kind : Kind) → slice_get ks i ≡ Some kind → (kind_table kind).Fits (part_at ps i)
fits_at [] ps h i kind e = absurd (let n : ⊥ = cc in n)
fits_at (k ∷ ks) [] h i kind e = absurd h
fits_at (k ∷ ks) (p ∷ ps) h zero kind e = let same : k ≡ kind = cc in subst (λ (x : Kind). (kind_table x).Fits p) same h.0
fits_at (k ∷ ks) (p ∷ ps) h (suc i) kind e = fits_at ks ps h.1 i kind e

all_fit : (ks : List Kind) (ps : List Part) → length ps ≡ length ks → ((i : ℕ) (kind : Kind) → slice_get ks i ≡ Some kind → (kind_table kind).Fits (part_at ps i)) → FitsKinds ks ps
all_fit [] [] long h = tt
all_fit [] (p ∷ ps) long h = absurd (let n : ⊥ = omega arith in n)
all_fit (k ∷ ks) [] long h = absurd (let n : ⊥ = omega arith in n)
all_fit (k ∷ ks) (p ∷ ps) long h = (h zero k refl, all_fit ks ps (omega arith) (λ i kind e. h (suc i) kind e))

-- ---- one part

put_there : (ps : List Part) (i : ℕ) (p : Part) → i < length ps → part_at (slice_set ps i p) i ≡ p
put_there [] i p l = absurd (omega arith)
put_there (x ∷ ps) zero p l = refl
put_there (x ∷ ps) (suc i) p l = put_there ps i p (omega arith)

put_elsewhere : (ps : List Part) (j i : ℕ) (p : Part) → (j ≡ i → ⊥) → part_at (slice_set ps j p) i ≡ part_at ps i
put_elsewhere [] j i p other = refl
put_elsewhere (x ∷ ps) zero zero p other = absurd (other refl)
put_elsewhere (x ∷ ps) zero (suc i) p other = refl
put_elsewhere (x ∷ ps) (suc j) zero p other = refl
put_elsewhere (x ∷ ps) (suc j) (suc i) p other = put_elsewhere ps j i p (λ e. other (ap suc e))

length-after : (ks : List Kind) (ps : List Part) (cs : List Called) → length (after_calls ks ps cs) ≡ length ps
unfolding after_call
length-after ks ps [] = refl
length-after ks ps (c ∷ cs) =
    length-after ks (after_call ks ps c) cs
    ∙ length-set ps c.target.part (applied (kind_at ks c.target) c.target.method (part_at ps c.target.part) c.arguments)

module _ (ks : List Kind) (i : ℕ) (kind : Kind) (is : slice_get ks i ≡ Some kind) where
  called_there : (ps : List Part) (c : Called) → i < length ps → c.target.part ≡ i → part_at (after_call ks ps c) i ≡ prim.after_call (kind_table kind) (part_at ps i) (call_of c)
  unfolding after_call
  called_there ps c l e =
      subst (λ (j : ℕ). part_at (slice_set ps j (applied (slice_get ks j) c.target.method (part_at ps j) c.arguments)) i ≡ (kind_table kind).apply c.target.method (part_at ps i) c.arguments) (sym e)
      (put_there ps i (applied (slice_get ks i) c.target.method (part_at ps i) c.arguments) l
      ∙ ap (λ (o : Option Kind). applied o c.target.method (part_at ps i) c.arguments) is)

  called_elsewhere : (ps : List Part) (c : Called) → (c.target.part ≡ i → ⊥) → part_at (after_call ks ps c) i ≡ part_at ps i
  unfolding after_call
  called_elsewhere ps c other = put_elsewhere ps c.target.part i (applied (kind_at ks c.target) c.target.method (part_at ps c.target.part) c.arguments) other

  as_long : (ps : List Part) (c : Called) → i < length ps → i < length (after_call ks ps c)
  as_long ps c l = let e : length (after_call ks ps c) ≡ length ps = length-after ks ps (c ∷ []) in omega arith

  part_after : (ps : List Part) (cs : List Called) → i < length ps → part_at (after_calls ks ps cs) i ≡ prim.after_calls (kind_table kind) (part_at ps i) (calls_on i cs)
  part_after ps [] l = refl
  part_after ps (c ∷ cs) l = cases (c.target.part == i) refl (part_after (after_call ks ps c) cs (as_long ps c l))
    where
      cases : (b : Bool) → (c.target.part == i) ≡ b → part_at (after_calls ks (after_call ks ps c) cs) i ≡ prim.after_calls (kind_table kind) (part_at (after_call ks ps c) i) (calls_on i cs)
          → part_at (after_calls ks (after_call ks ps c) cs) i ≡ prim.after_calls (kind_table kind) (part_at ps i) (cond b (call_of c ∷ calls_on i cs) (calls_on i cs))
      cases true e rest = rest ∙ ap (λ (p : Part). prim.after_calls (kind_table kind) p (calls_on i cs)) (called_there ps c l (eqb-true c.target.part i e))
      cases false e rest = rest ∙ ap (λ (p : Part). prim.after_calls (kind_table kind) p (calls_on i cs)) (called_elsewhere ps c (eqb-false c.target.part i e))

-- ---- the calls on a part

pub all_on : (P : Call → Type 0) (i : ℕ) (cs : List Called) → AllByRecursion (λ c. c.target.part ≡ i → P (call_of c)) cs → AllByRecursion P (calls_on i cs)
all_on P i [] h = tt
all_on P i (c ∷ cs) h = cases (c.target.part == i) refl (all_on P i cs h.1)
  where
    cases : (b : Bool) → (c.target.part == i) ≡ b → AllByRecursion P (calls_on i cs) → AllByRecursion P (cond b (call_of c ∷ calls_on i cs) (calls_on i cs))
    cases true e rest = (h.0 (eqb-true c.target.part i e), rest)
    cases false e rest = rest

ranks_on : (t : Table) (p : ℕ) (cs : List Called)
    → ((i j : ℕ) (c d : Called) → i < j → slice_get cs i ≡ Some c → slice_get cs j ≡ Some d → c.target.part ≡ p → d.target.part ≡ p → IsByRank t (call_of c) (call_of d))
    → AreByRank t (calls_on p cs)
ranks_on t p [] h = tt
ranks_on t p (c ∷ cs) h = cases (c.target.part == p) refl (ranks_on t p cs (λ i j d e l x y u v. h (suc i) (suc j) d e (omega arith) x y u v))
  where
    cases : (b : Bool) → (c.target.part == p) ≡ b → AreByRank t (calls_on p cs) → AreByRank t (cond b (call_of c ∷ calls_on p cs) (calls_on p cs))
    cases true e rest =
        (all_on (IsByRank t (call_of c)) p cs (all_from (λ d. d.target.part ≡ p → IsByRank t (call_of c) (call_of d)) cs (λ k d x u. h zero (suc k) c d (omega arith) refl x (eqb-true c.target.part p e) u)), rest)
    cases false e rest = rest

-- ---- one turn

module _ (S : Scheme) (laws : ElementLaws S) (fits : FittingLaws S) where
  plain_fits : (ps : List Part) → FitsKinds S.kinds ps → FitLook S.kinds (plain ps)
  plain_fits ps h n m k e = fits_at S.kinds ps h n k e

  within_parts : (ps : List Part) → FitsKinds S.kinds ps → (i : ℕ) (kind : Kind) → slice_get S.kinds i ≡ Some kind → i < length ps
  within_parts ps h i kind e = let long = length-parts S.kinds ps h in let l = slice_get_within S.kinds i kind e in omega arith

  each_part : (ps : List Part) → FitsKinds S.kinds ps → (cs : List Called) (i : ℕ) (kind : Kind) → slice_get S.kinds i ≡ Some kind
      → part_at (after_calls S.kinds ps cs) i ≡ prim.after_calls (kind_table kind) (part_at ps i) (calls_on i cs)
  each_part ps h cs i kind e = part_after S.kinds i kind e ps cs (within_parts ps h i kind e)

  module _ (g : Bool) (q : Asking) (n : ℕ) (ps : List Part) (turn : IsTurn g S q n ps) (i : ℕ) (kind : Kind) (is : slice_get S.kinds i ≡ Some kind) where
    -- a fact of the calls of the element, of those on the part by rank
    of_made : (P : Call → Type 0) → ((k : ℕ) (c : Called) → slice_get (calls S q n (plain ps)) k ≡ Some c → c.target.part ≡ i → P (call_of c)) → AllByRecursion P (calls_on i (calls_made S q n ps))
    of_made P h =
        all_on P i (calls_made S q n ps)
        (all_by_rank S.kinds (λ c. c.target.part ≡ i → P (call_of c)) (calls S q n (plain ps)) (all_from (λ c. c.target.part ≡ i → P (call_of c)) (calls S q n (plain ps)) h))

    kind_there : (c : Called) → c.target.part ≡ i → kind_at S.kinds c.target ≡ Some kind
    kind_there c e = ap (slice_get S.kinds) e ∙ is

    all_calls_fit : AllByRecursion (CallFits (kind_table kind)) (calls_on i (calls_made S q n ps))
    all_calls_fit =
        of_made (CallFits (kind_table kind))
        (λ k c e p. subst (λ (o : Option Kind). IsFitCall o c.target.method c.arguments) (kind_there c p) (fits.made_fit q n (plain ps) turn.request (plain_fits ps turn.parts) k c e))

    all_ready : AllByRecursion (IsReady (kind_table kind) (part_at ps i)) (calls_on i (calls_made S q n ps))
    all_ready =
        of_made (IsReady (kind_table kind) (part_at ps i))
        (λ k c e p.
        subst (λ (o : Option Kind). guard_of o c.target.method (part_at ps i) ≡ true) (kind_there c p)
        (subst (λ (j : ℕ). guard_of (kind_at S.kinds c.target) c.target.method (part_at ps j) ≡ true) p (laws.open_calls g q n (plain ps) turn.is_ready k c e)))

    pub turn_orderly : IsOrderly (kind_table kind) (part_at ps i) (calls_on i (calls_made S q n ps))
    turn_orderly =
        element_in_turn (kind_table kind) (kind_laws kind) (part_at ps i) (calls_on i (calls_made S q n ps))
        (record {
          part = fits_at S.kinds ps turn.parts i kind is;
          calls = all_calls_fit;
          ready = all_ready;
          ranks = ranks_on (kind_table kind) i (calls_made S q n ps)
              (λ k j c d l x y u v. laws.on_part n turn.rule q (plain ps) k j c d kind l x y (u ∙ sym v) (kind_there c u));
        })

  still_fits : (g : Bool) (q : Asking) (n : ℕ) (ps : List Part) → IsTurn g S q n ps → FitsKinds S.kinds (run_whole S q n ps)
  unfolding run_whole
  still_fits g q n ps turn =
      all_fit S.kinds (after_calls S.kinds ps (calls_made S q n ps)) (length-after S.kinds ps (calls_made S q n ps) ∙ length-parts S.kinds ps turn.parts)
      (λ i kind e.
      subst (kind_table kind).Fits (sym (each_part ps turn.parts (calls_made S q n ps) i kind e))
      (fits_after (kind_table kind) (kind_laws kind) (part_at ps i) (calls_on i (calls_made S q n ps)) (fits_at S.kinds ps turn.parts i kind e) (turn_orderly g q n ps turn i kind e)))

  pub turns : TurnLaws S
  turns = record {
    plain_fits = plain_fits;
    each_part = each_part;
    in_turn = λ g q n ps turn i kind e. turn_orderly g q n ps turn i kind e;
    still_fits = still_fits;
  }

pub sound_turns : (S : Scheme) → IsSound S → IsFitting S → TurnLaws S
sound_turns S ok fits = turns S (sound_keeps S ok) (fitting_keeps S ok fits)
