-- Statements give what they mean: declarations, assignments, calls and blocks.
use Rattle.std.proofs.Common.{◌≡◌, ℕ, zero, suc, Bool, true, List, [], ◌∷◌, ◌++◌, length, take, Option, Some, None, Ok, refl, sym, ap, ◌∙◌, subst, append-nil}
use Rattle.std.specs.Prelude.{slice_get, slice_set}
use Rattle.bsv_lemmas.proofs.Choices.{same_ok}
use Rattle.bsv_fail.specs.Given.{◌>>=◌}
use Rattle.bsv_bits.specs.Words.{Bits}
use Rattle.bsv_tree.specs.declared.values.Value.{Value}
use Rattle.bsv_tree.specs.declared.values.Local.{Local}
use Rattle.bsv_tree.specs.declared.values.Work.{Work}
use Rattle.bsv_tree.specs.carrying.Frames as frames
use Rattle.bsv_tree.specs.carrying.Carrying as carrying
use Rattle.bsv_tree.specs.carrying.Carrying.{Carry, Acts}
use Rattle.bsv_tree.specs.meaning.Evaluation.{Results, Standing}
use Rattle.bsv_tree.specs.meaning.Values.{Value as Val, Variable, Variables, variable, assign}
use Rattle.bsv_tree.specs.meaning.Evaluation as evaluation
use Rattle.bsv_tree.specs.meaning.Evaluation.{yields}
use Rattle.bsv_tree.specs.meaning.Control as control
use Rattle.bsv_tree.specs.meaning.Control.{Means}
use Rattle.bsv_tree.proofs.meaning.Same.{Shows, Holds, AllHold, IsLong, Same, here, got, all_hold_within}
use Rattle.bsv_tree.proofs.meaning.Pieces.{bound, given, nothing_more}
use Rattle.bsv_tree.proofs.meaning.Operating.{V}
use Rattle.bsv_tree.proofs.meaning.Expressions.{Carries}

-- ---- variables

-- the variables are still there, and the Integers among them are the same
abbrev pub Kept : List Local → List Local → Type 0
Kept [] us = Unit {0}
Kept (v ∷ vs) (u ∷ us) = (u.integer ≡ v.integer) × Kept vs us
Kept (v ∷ vs) [] = ⊥

pub kept_all : (vs : List Local) → Kept vs vs
kept_all [] = tt
kept_all (v ∷ vs) = (refl, kept_all vs)

pub kept_then : (vs us ts : List Local) → Kept vs us → Kept us ts → Kept vs ts
kept_then [] us ts h k = tt
kept_then (v ∷ vs) (u ∷ us) (t ∷ ts) h k = (k.0 ∙ h.0, kept_then vs us ts h.1 k.1)
kept_then (v ∷ vs) [] ts h k = absurd h
kept_then (v ∷ vs) (u ∷ us) [] h k = absurd k

pub kept_more : (vs us more : List Local) → Kept vs us → Kept vs (us ++ more)
kept_more [] us more h = tt
kept_more (v ∷ vs) (u ∷ us) more h = (h.0, kept_more vs us more h.1)
kept_more (v ∷ vs) [] more h = absurd h

pub kept_fewer : (vs more us : List Local) → Kept (vs ++ more) us → Kept vs us
kept_fewer [] more us h = tt
kept_fewer (v ∷ vs) more (u ∷ us) h = (h.0, kept_fewer vs more us h.1)
kept_fewer (v ∷ vs) more [] h = absurd h

pub kept_take : (vs us : List Local) → Kept vs us → Kept vs (take (length vs) us)
kept_take [] us h = tt
kept_take (v ∷ vs) (u ∷ us) h = (h.0, kept_take vs us h.1)
kept_take (v ∷ vs) [] h = absurd h

kept_set : (x : Value) (vs : List Local) (at : ℕ) (o : Option Local) → slice_get vs at ≡ o → Kept vs (frames.assigned_with x vs at o)
kept_set x vs at None e = kept_all vs
kept_set x [] at (Some u) e = tt
kept_set x (v ∷ vs) zero (Some u) e = let it : v ≡ u = cc in (ap (λ (a : Local). a.integer) (sym it), kept_all vs)
kept_set x (v ∷ vs) (suc at) (Some u) e = (refl, kept_set x vs at (Some u) e)

pub kept_assign : (vs : List Local) (at : ℕ) (x : Value) → Kept vs (frames.assign vs at x)
unfolding frames.assign
kept_assign vs at x = kept_set x vs at (slice_get vs at) refl

pub hold_long : (W : List Bits) (vs : List Local) (us : Variables) → AllHold W vs us → length vs ≡ length us
hold_long W [] [] h = refl
hold_long W (v ∷ vs) (u ∷ us) h = ap suc (hold_long W vs us h.1)
hold_long W [] (u ∷ us) h = absurd h
hold_long W (v ∷ vs) [] h = absurd h

pub hold_append : (W : List Bits) (vs ts : List Local) (us xs : Variables) → AllHold W vs us → AllHold W ts xs → AllHold W (vs ++ ts) (us ++ xs)
hold_append W [] ts [] xs h k = k
hold_append W (v ∷ vs) ts (u ∷ us) xs h k = (h.0, hold_append W vs ts us xs h.1 k)
hold_append W [] ts (u ∷ us) xs h k = absurd h
hold_append W (v ∷ vs) ts [] xs h k = absurd h

pub hold_take : (W : List Bits) (n : ℕ) (vs : List Local) (us : Variables) → AllHold W vs us → AllHold W (take n vs) (take n us)
hold_take W zero vs us h = tt
hold_take W (suc n) [] [] h = tt
hold_take W (suc n) (v ∷ vs) (u ∷ us) h = (h.0, hold_take W n vs us h.1)
hold_take W (suc n) [] (u ∷ us) h = absurd h
hold_take W (suc n) (v ∷ vs) [] h = absurd h

pub hold_new : (W : List Bits) (x : Value) (y : Val) (b : Bool) → Shows W x y → Holds W (frames.variable x b) (variable y)
hold_new W x y b s = record { shows = λ e. s; lost = λ e. refl; assigned = refl }

hold_past : (W : List Bits) (u : Variable) (vs : List Local) (us : Variables) (at : ℕ) → AllHold W vs us → slice_get vs at ≡ None → AllHold W vs (slice_set us at u)
hold_past W u [] [] at h e = tt
hold_past W u (v ∷ vs) (a ∷ us) zero h e = absurd cc
hold_past W u (v ∷ vs) (a ∷ us) (suc at) h e = (h.0, hold_past W u vs us at h.1 e)
hold_past W u [] (a ∷ us) at h e = absurd h
hold_past W u (v ∷ vs) [] at h e = absurd h

hold_set : (W : List Bits) (x : Value) (y : Val) → Shows W x y → (vs : List Local) (us : Variables) (at : ℕ) (o : Option Local) → slice_get vs at ≡ o → AllHold W vs us
    → AllHold W (frames.assigned_with x vs at o) (assign us at y)
hold_set W x y s vs us at None e h = hold_past W (record { value = y; assigned = true }) vs us at h e
hold_set W x y s [] [] at (Some u) e h = tt
hold_set W x y s (v ∷ vs) (a ∷ us) zero (Some u) e h = (record { shows = λ e. s; lost = λ e. refl; assigned = refl }, h.1)
hold_set W x y s (v ∷ vs) (a ∷ us) (suc at) (Some u) e h = (h.0, hold_set W x y s vs us at (Some u) e h.1)
hold_set W x y s [] (a ∷ us) at (Some u) e h = absurd h
hold_set W x y s (v ∷ vs) [] at (Some u) e h = absurd h

pub hold_assign : (W : List Bits) (x : Value) (y : Val) → Shows W x y → (vs : List Local) (us : Variables) (at : ℕ) → AllHold W vs us → AllHold W (frames.assign vs at x) (assign us at y)
unfolding frames.assign
hold_assign W x y s vs us at h = hold_set W x y s vs us at (slice_get vs at) refl h

module _ (r : Results) where
  -- from any run, the variables after are those that are meant, and what was met is told
  pub record Does (a : Acts) (m : control.Acts) : Type 0 where
    pub kept : (vs : List Local) (w : Work) (ts : List Local) (v : Work) → a vs w ≡ Ok (ts, v) → Kept vs ts
    pub does : (p : Standing) (ws : List Bits) (n k : ℕ) (vs : List Local) (us : Variables) (w : Work) → IsLong r p ws n k w → AllHold (V r p ws n k w) vs us
        → (ts : List Local) (v : Work) → a vs w ≡ Ok (ts, v) → Same r p ws n k (λ W xs. AllHold W ts xs) w v (here r p ws n k w (m us))

  -- the same of runs whose words are such
  pub record DoesWhere (R : List Bits → Type 0) (a : Acts) (m : control.Acts) : Type 0 where
    pub kept : (vs : List Local) (w : Work) (ts : List Local) (v : Work) → a vs w ≡ Ok (ts, v) → Kept vs ts
    pub does : (p : Standing) (ws : List Bits) (n k : ℕ) (vs : List Local) (us : Variables) (w : Work) → IsLong r p ws n k w → R (V r p ws n k w) → AllHold (V r p ws n k w) vs us
        → (ts : List Local) (v : Work) → a vs w ≡ Ok (ts, v) → Same r p ws n k (λ W xs. AllHold W ts xs) w v (here r p ws n k w (m us))

  pub everywhere : (a : Acts) (m : control.Acts) → Does a m → DoesWhere (λ W. Unit {0}) a m
  everywhere a m h = record { kept = h.kept; does = λ p ws n k vs us w long on hold ts v e. h.does p ws n k vs us w long hold ts v e }

  abbrev pub AllDo : List Acts → List control.Acts → Type 0
  AllDo [] [] = Unit {0}
  AllDo (a ∷ as') (m ∷ ms) = Does a m × AllDo as' ms
  AllDo _ _ = ⊥

  pub run_does : (as' : List Acts) (ms : List control.Acts) → AllDo as' ms → Does (carrying.run as') (control.in_turn ms)
  unfolding carrying.run control.in_turn
  run_does [] [] h = record {
    kept = λ vs w ts v e. subst (λ (o : List Local × Work). Kept vs o.0) (same_ok (vs, w) (ts, v) e) (kept_all vs);
    does = λ p ws n k vs us w long hold ts v e.
        subst (λ (o : List Local × Work). Same r p ws n k (λ W xs. AllHold W o.0 xs) w o.1 (here r p ws n k w (yields us))) (same_ok (vs, w) (ts, v) e)
        (nothing_more r p ws n k (λ W xs. AllHold W vs xs) w long us hold);
  }
  run_does (a ∷ as') (m ∷ ms) h =
      let others = run_does as' ms h.1 in
      record {
        kept = λ vs w ts v e. let g = got (a vs w) (λ o. carrying.run as' o.0 o.1) (ts, v) e in kept_then vs g.0.0 ts (h.0.kept vs w g.0.0 g.0.1 g.1) (others.kept g.0.0 g.0.1 ts v g.2);
        does = λ p ws n k vs us w long hold ts v e.
            let g = got (a vs w) (λ o. carrying.run as' o.0 o.1) (ts, v) e in
            let first = h.0.does p ws n k vs us w long hold g.0.0 g.0.1 g.1 in
            bound r p ws n k (λ W xs. AllHold W g.0.0 xs) (λ W xs. AllHold W ts xs) w g.0.1 v (m us) (λ xs. control.in_turn ms xs) first
            (others.does p ws n k g.0.0 (here r p ws n k w (m us)).gives g.0.1 first.long first.gives ts v g.2);
      }
  run_does [] (m ∷ ms) h = absurd h
  run_does (a ∷ as') [] h = absurd h

  -- what it declares ends with it
  pub inside_does : (a : Acts) (m : control.Acts) → Does a m → Does (carrying.inside a) (λ us. control.scoped m [] us)
  unfolding carrying.inside
  inside_does a m h = record {
    kept = λ vs w ts v e.
        let g = got (a vs w) (λ o. Ok (take (length vs) o.0, o.1)) (ts, v) e in
        subst (λ (o : List Local × Work). Kept vs o.0) (same_ok (take (length vs) g.0.0, g.0.1) (ts, v) g.2) (kept_take vs g.0.0 (h.kept vs w g.0.0 g.0.1 g.1));
    does = λ p ws n k vs us w long hold ts v e.
        let g = got (a vs w) (λ o. Ok (take (length vs) o.0, o.1)) (ts, v) e in
        let first = h.does p ws n k vs us w long hold g.0.0 g.0.1 g.1 in
        subst (λ (o : List Local × Work). Same r p ws n k (λ W xs. AllHold W o.0 xs) w o.1 (here r p ws n k w (control.scoped m [] us))) (same_ok (take (length vs) g.0.0, g.0.1) (ts, v) g.2)
        (subst (λ xs. Same r p ws n k (λ W xs. AllHold W (take (length vs) g.0.0) xs) w g.0.1 (here r p ws n k w (evaluation.◌>>=◌ (m xs) (λ ys. yields (take (length us) ys))))) (sym (append-nil us))
        (given r p ws n k (λ W xs. AllHold W g.0.0 xs) (λ W xs. AllHold W (take (length vs) g.0.0) xs) w g.0.1 (m us) (take (length us)) first
        (subst (λ i. AllHold (V r p ws n k g.0.1) (take (length vs) g.0.0) (take i (here r p ws n k w (m us)).gives)) (hold_long (V r p ws n k w) vs us hold)
        (hold_take (V r p ws n k g.0.1) (length vs) g.0.0 (here r p ws n k w (m us)).gives first.gives))));
  }

  -- ---- a variable gets the value of an expression

  pub declares : (c : Carry) (m : Means) → Carries r c m → (b : Bool)
      → Does (λ vs w. c vs w >>= λ o. carrying.declared o.0 b vs o.1) (λ us. evaluation.◌>>=◌ (m us) (λ y. yields (us ++ variable y ∷ [])))
  unfolding Carries
  declares c m h b = record {
    kept = λ vs w ts v e.
        let g = got (c vs w) (λ o. carrying.declared o.0 b vs o.1) (ts, v) e in
        subst (λ (o : List Local × Work). Kept vs o.0) (same_ok (vs ++ frames.variable g.0.0 b ∷ [], g.0.1) (ts, v) g.2) (kept_more vs vs (frames.variable g.0.0 b ∷ []) (kept_all vs));
    does = λ p ws n k vs us w long hold ts v e.
        let g = got (c vs w) (λ o. carrying.declared o.0 b vs o.1) (ts, v) e in
        let first = h p ws n k vs us w long hold g.0.0 g.0.1 g.1 in
        subst (λ (o : List Local × Work). Same r p ws n k (λ W xs. AllHold W o.0 xs) w o.1 (here r p ws n k w (evaluation.◌>>=◌ (m us) (λ y. yields (us ++ variable y ∷ []))))) (same_ok (vs ++ frames.variable g.0.0 b ∷ [], g.0.1) (ts, v) g.2)
        (given r p ws n k (λ W y. Shows W g.0.0 y) (λ W xs. AllHold W (vs ++ frames.variable g.0.0 b ∷ []) xs) w g.0.1 (m us) (λ y. us ++ variable y ∷ []) first
        (hold_append (V r p ws n k g.0.1) vs (frames.variable g.0.0 b ∷ []) us (variable (here r p ws n k w (m us)).gives ∷ [])
        (all_hold_within (V r p ws n k w) (V r p ws n k g.0.1) first.adds.within vs us hold) (hold_new (V r p ws n k g.0.1) g.0.0 _ b first.gives, tt)));
  }

  pub assigns : (c : Carry) (m : Means) → Carries r c m → (at : ℕ)
      → Does (λ vs w. c vs w >>= λ o. Ok (frames.assign vs at o.0, o.1)) (λ us. evaluation.◌>>=◌ (m us) (λ y. yields (assign us at y)))
  unfolding Carries
  assigns c m h at = record {
    kept = λ vs w ts v e.
        let g = got (c vs w) (λ o. Ok (frames.assign vs at o.0, o.1)) (ts, v) e in
        subst (λ (o : List Local × Work). Kept vs o.0) (same_ok (frames.assign vs at g.0.0, g.0.1) (ts, v) g.2) (kept_assign vs at g.0.0);
    does = λ p ws n k vs us w long hold ts v e.
        let g = got (c vs w) (λ o. Ok (frames.assign vs at o.0, o.1)) (ts, v) e in
        let first = h p ws n k vs us w long hold g.0.0 g.0.1 g.1 in
        subst (λ (o : List Local × Work). Same r p ws n k (λ W xs. AllHold W o.0 xs) w o.1 (here r p ws n k w (evaluation.◌>>=◌ (m us) (λ y. yields (assign us at y))))) (same_ok (frames.assign vs at g.0.0, g.0.1) (ts, v) g.2)
        (given r p ws n k (λ W y. Shows W g.0.0 y) (λ W xs. AllHold W (frames.assign vs at g.0.0) xs) w g.0.1 (m us) (λ y. assign us at y) first
        (hold_assign (V r p ws n k g.0.1) g.0.0 _ first.gives vs us at (all_hold_within (V r p ws n k w) (V r p ws n k g.0.1) first.adds.within vs us hold)));
  }

  -- a call whose value is not wanted
  pub acts : (c : Carry) (m : Means) → Carries r c m → Does (λ vs w. c vs w >>= λ o. Ok (vs, o.1)) (λ us. evaluation.◌>>=◌ (m us) (λ y. yields us))
  unfolding Carries
  acts c m h = record {
    kept = λ vs w ts v e.
        let g = got (c vs w) (λ o. Ok (vs, o.1)) (ts, v) e in
        subst (λ (o : List Local × Work). Kept vs o.0) (same_ok (vs, g.0.1) (ts, v) g.2) (kept_all vs);
    does = λ p ws n k vs us w long hold ts v e.
        let g = got (c vs w) (λ o. Ok (vs, o.1)) (ts, v) e in
        let first = h p ws n k vs us w long hold g.0.0 g.0.1 g.1 in
        subst (λ (o : List Local × Work). Same r p ws n k (λ W xs. AllHold W o.0 xs) w o.1 (here r p ws n k w (evaluation.◌>>=◌ (m us) (λ y. yields us)))) (same_ok (vs, g.0.1) (ts, v) g.2)
        (given r p ws n k (λ W y. Shows W g.0.0 y) (λ W xs. AllHold W vs xs) w g.0.1 (m us) (λ y. us) first
        (all_hold_within (V r p ws n k w) (V r p ws n k g.0.1) first.adds.within vs us hold));
  }
