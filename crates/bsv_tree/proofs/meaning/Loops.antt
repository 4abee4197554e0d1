-- Loops give what they mean.
use Rattle.std.proofs.Common.{◌≡◌, ℕ, zero, suc, Bool, true, false, List, [], ◌∷◌, ◌++◌, length, take, Result, Ok, Err, refl, sym, ap, ◌∙◌, subst}
use Rattle.std.specs.Prelude.{if◌then◌else◌}
use Rattle.bsv_lemmas.proofs.Choices.{same_ok}
use Rattle.bsv_fail.specs.Given.{◌>>=◌}
use Rattle.bsv_bits.specs.Words.{Bits}
use Rattle.bsv_tree.specs.declared.values.Constant.{Constant}
use Rattle.bsv_tree.specs.declared.values.Count.{Count}
use Rattle.bsv_tree.specs.declared.values.Fault.{Fault}
use Rattle.bsv_tree.specs.declared.values.Fault.TheVariants as fault
use Rattle.bsv_tree.specs.declared.values.Local.{Local}
use Rattle.bsv_tree.specs.declared.values.Value.{Value}
use Rattle.bsv_tree.specs.declared.values.Value.TheVariants as value
use Rattle.bsv_tree.specs.declared.values.Work.{Work}
use Rattle.bsv_tree.specs.tree.Contexts.{Context}
use Rattle.bsv_tree.specs.carrying.Calls.{Caller}
use Rattle.bsv_tree.specs.carrying.Carrying as carrying
use Rattle.bsv_tree.specs.carrying.Carrying.{Carry, Acts}
use Rattle.bsv_tree.specs.carrying.Frames as frames
use Rattle.bsv_tree.specs.meaning.Evaluation.{Results, Standing}
use Rattle.bsv_tree.specs.carrying.Running.{in_turn}
use Rattle.bsv_tree.specs.carrying.Values as values
use Rattle.bsv_tree.specs.carrying.Working.{no_steps, at_count}
use Rattle.bsv_tree.specs.meaning.Values.{Value as Val, static, is_true, Variables, variable, assign}
use Rattle.bsv_tree.specs.meaning.Evaluation as evaluation
use Rattle.bsv_tree.specs.meaning.Evaluation.{Evaluation, yields}
use Rattle.bsv_tree.specs.meaning.Control as control
use Rattle.bsv_tree.specs.meaning.Control.{Means}
use Rattle.bsv_tree.proofs.meaning.Same.{Shows, AllHold, ran, IsLong, Same, here, got, all_hold_within}
use Rattle.bsv_tree.proofs.meaning.Pieces.{bound, given, nothing_more}
use Rattle.bsv_tree.proofs.meaning.Operating.{V}
use Rattle.bsv_tree.proofs.meaning.Expressions.{Carries}
use Rattle.bsv_tree.proofs.meaning.Statements.{Kept, Does, kept_all, kept_then, kept_assign, kept_fewer, kept_take, hold_long, hold_append, hold_new, hold_assign, hold_take, inside_does}

-- a condition that is asked whether there is a next turn is static
goes : (call : Caller) (site : Context) (test : Carry) (vs : List Local) (c : Count) (o : Bool × Count) → carrying.goes_on call site test vs c ≡ Ok o
    → (i : Constant) × (u : Work) × (test vs (no_steps c) ≡ Ok (value.Static i, u)) × (o.0 ≡ values.is_true (value.Static i)) × (o.1 ≡ carrying.after_arm c u.count)
unfolding carrying.goes_on
goes call site test vs c o e = by (test vs (no_steps c)) refl e where
  Goal : Type 0
  Goal = (i : Constant) × (u : Work) × (test vs (no_steps c) ≡ Ok (value.Static i, u)) × (o.0 ≡ values.is_true (value.Static i)) × (o.1 ≡ carrying.after_arm c u.count)

  at_value : (x : Value) (u : Work) → test vs (no_steps c) ≡ Ok (x, u) → carrying.goes_on call site (λ vs' w'. Ok (x, u)) vs c ≡ Ok o → Goal
  at_value (value.Static i) u f g =
      let it = same_ok (values.is_true (value.Static i), carrying.after_arm c u.count) o g in
      (i, u, f, ap (λ (q : Bool × Count). q.0) (sym it), ap (λ (q : Bool × Count). q.1) (sym it))
  at_value (value.Open a) u f g = absurd cc

  by : (q : Result (Value × Work) Fault) → test vs (no_steps c) ≡ q → carrying.goes_on call site (λ vs' w'. q) vs c ≡ Ok o → Goal
  by (Ok x) f g = at_value x.0 x.1 f g
  by (Err x) f g = absurd cc

module _ (r : Results) (call : Caller) (site : Context) (test : Carry) (mt : Means) (tests : Carries r test mt)
    (next : Carry) (mn : Means) (nexts : Carries r next mn) (at : ℕ) (a : Acts) (ma : control.Acts) (acts : Does r a ma) where
  turn_kept : (vs : List Local) (w : Work) (ts : List Local) (v : Work) → carrying.turn next at a vs w ≡ Ok (ts, v) → Kept vs ts
  unfolding carrying.turn
  turn_kept vs w ts v e =
      let g = got (carrying.inside a vs w) _ (ts, v) e in
      let l = got (next g.0.0 g.0.1) _ (ts, v) g.2 in
      kept_then vs g.0.0 ts ((inside_does r a ma acts).kept vs w g.0.0 g.0.1 g.1)
      (subst (λ (o : List Local × Work). Kept g.0.0 o.0) (same_ok (frames.assign g.0.0 at l.0.0, l.0.1) (ts, v) l.2) (kept_assign g.0.0 at l.0.0))

  turns_kept : (n : ℕ) (vs : List Local) (w : Work) (ts : List Local) (v : Work) → carrying.turns call site n test next at a vs w ≡ Ok (ts, v) → Kept vs ts
  unfolding carrying.turns
  turns_kept zero vs w ts v e =
      let g = got (carrying.goes_on call site test vs w.count) _ (ts, v) e in
      by g.0.0 g.0.1 (fault.Loop site.within) g.2 where
        by : (b : Bool) (d : Count) (f : Fault) → (if b then Err f else (let q : Result (List Local × Work) Fault = Ok (vs, at_count w d) in q)) ≡ Ok (ts, v) → Kept vs ts
        by true d f q = absurd cc
        by false d f q = subst (λ (o : List Local × Work). Kept vs o.0) (same_ok (vs, at_count w d) (ts, v) q) (kept_all vs)
  turns_kept (suc n) vs w ts v e =
      let g = got (carrying.goes_on call site test vs w.count) _ (ts, v) e in
      by g.0.0 g.0.1 g.2 (λ us u i. turns_kept n us u ts v i) where
        by : (b : Bool) (d : Count) → (if b then (carrying.turn next at a vs (at_count w d) >>= λ o. carrying.turns call site n test next at a o.0 o.1) else (let q : Result (List Local × Work) Fault = Ok (vs, at_count w d) in q)) ≡ Ok (ts, v)
            → ((us : List Local) (u : Work) → carrying.turns call site n test next at a us u ≡ Ok (ts, v) → Kept us ts) → Kept vs ts
        by true d q ih =
            let g = got (carrying.turn next at a vs (at_count w d)) (λ o. carrying.turns call site n test next at a o.0 o.1) (ts, v) q in
            kept_then vs g.0.0 ts (turn_kept vs (at_count w d) g.0.0 g.0.1 g.1) (ih g.0.0 g.0.1 g.2)
        by false d q ih = subst (λ (o : List Local × Work). Kept vs o.0) (same_ok (vs, at_count w d) (ts, v) q) (kept_all vs)

  module _ (p : Standing) (ws : List Bits) (n k : ℕ) where
    abbrev Vars : List Local → Work → Work → Evaluation Variables → Type 0
    Vars ts w v m = Same r p ws n k (λ W xs. AllHold W ts xs) w v (here r p ws n k w m)

    turns_do : (m : ℕ) (vs : List Local) (us : Variables) (w : Work) → IsLong r p ws n k w → AllHold (V r p ws n k w) vs us → (ts : List Local) (v : Work)
        → carrying.turns call site m test next at a vs w ≡ Ok (ts, v) → Vars ts w v (control.turns m mt mn at ma us)
    unfolding carrying.turns control.turns Carries in_turn carrying.turn
    turns_do zero vs us w long hold ts v e =
        let g = got (carrying.goes_on call site test vs w.count) _ (ts, v) e in
        let t = goes call site test vs w.count g.0 g.1 in
        by g.0.0 g.0.1 (ap (λ (o : Count). o.slots) t.4) (fault.Loop site.within) g.2 where
          by : (b : Bool) (d : Count) → d.slots ≡ w.count.slots → (f : Fault) → (if b then Err f else (let q : Result (List Local × Work) Fault = Ok (vs, at_count w d) in q)) ≡ Ok (ts, v) → Vars ts w v (yields us)
          by true d s f q = absurd cc
          by false d s f q =
              let it = nothing_more r p ws n k (λ W xs. AllHold W vs xs) (at_count w d) (long ∙ sym s) us hold in
              subst (λ (o : List Local × Work). Vars o.0 w o.1 (yields us)) (same_ok (vs, at_count w d) (ts, v) q) (record { adds = it.adds; long = it.long; gives = it.gives })
    turns_do (suc m) vs us w long hold ts v e =
        let g = got (carrying.goes_on call site test vs w.count) _ (ts, v) e in
        let t = goes call site test vs w.count g.0 g.1 in
        let first = tests p (V r p ws n k w) (ran r p ws n k w).choices (ran r p ws n k w).sites vs us (no_steps w.count) long hold (value.Static t.0) t.1 t.2 in
        subst (λ (y : Val). Vars ts w v (F y)) (sym first.gives)
        (by g.0.0 g.0.1 (ap (λ (o : Count). o.slots) t.4) t.0 t.3 g.2 (λ xs ys u l h i. turns_do m xs ys u l h ts v i)) where
          F : Val → Evaluation Variables
          F y = if is_true y then evaluation.◌>>=◌ (control.scoped ma [] us) (λ xs. evaluation.◌>>=◌ (mn xs) (λ x. control.turns m mt mn at ma (assign xs at x))) else yields us

          by : (b : Bool) (d : Count) → d.slots ≡ w.count.slots → (i : Constant) → b ≡ is_true (static i)
              → (if b then (carrying.turn next at a vs (at_count w d) >>= λ o. carrying.turns call site m test next at a o.0 o.1) else (let q : Result (List Local × Work) Fault = Ok (vs, at_count w d) in q)) ≡ Ok (ts, v)
              → ((xs : List Local) (ys : Variables) (u : Work) → IsLong r p ws n k u → AllHold (V r p ws n k u) xs ys → carrying.turns call site m test next at a xs u ≡ Ok (ts, v) → Vars ts u v (control.turns m mt mn at ma ys))
              → Vars ts w v (F (static i))
          by true d s i f q ih =
              let g = got (carrying.turn next at a vs (at_count w d)) (λ o. carrying.turns call site m test next at a o.0 o.1) (ts, v) q in
              let l = got (carrying.inside a vs (at_count w d)) _ g.0 g.1 in
              let o = got (next l.0.0 l.0.1) _ g.0 l.2 in
              let it = same_ok (frames.assign l.0.0 at o.0.0, o.0.1) g.0 o.2 in
              let one = (inside_does r a ma acts).does p ws n k vs us (at_count w d) (long ∙ sym s) hold l.0.0 l.0.1 l.1 in
              let xs = (here r p ws n k w (control.scoped ma [] us)).gives in
              let two = nexts p ws n k l.0.0 xs l.0.1 one.long one.gives o.0.0 o.0.1 o.1 in
              let y = (here r p ws n k l.0.1 (mn xs)).gives in
              let on = hold_assign (V r p ws n k o.0.1) o.0.0 y two.gives l.0.0 xs at (all_hold_within (V r p ws n k l.0.1) (V r p ws n k o.0.1) two.adds.within l.0.0 xs one.gives) in
              let three = ih (frames.assign l.0.0 at o.0.0) (assign xs at y) o.0.1 two.long on
              (subst (λ (z : List Local × Work). carrying.turns call site m test next at a z.0 z.1 ≡ Ok (ts, v)) (sym it) g.2) in
              subst (λ (is : Bool). Vars ts w v (if is then evaluation.◌>>=◌ (control.scoped ma [] us) (λ xs. evaluation.◌>>=◌ (mn xs) (λ x. control.turns m mt mn at ma (assign xs at x))) else yields us)) f
              (bound r p ws n k (λ W zs. AllHold W l.0.0 zs) (λ W zs. AllHold W ts zs) w l.0.1 v (control.scoped ma [] us) (λ xs. evaluation.◌>>=◌ (mn xs) (λ x. control.turns m mt mn at ma (assign xs at x)))
              (record { adds = one.adds; long = one.long; gives = one.gives })
              (bound r p ws n k (λ W x. Shows W o.0.0 x) (λ W zs. AllHold W ts zs) l.0.1 o.0.1 v (mn xs) (λ x. control.turns m mt mn at ma (assign xs at x)) two three))
          by false d s i f q ih =
              let it = nothing_more r p ws n k (λ W xs. AllHold W vs xs) (at_count w d) (long ∙ sym s) us hold in
              subst (λ (is : Bool). Vars ts w v (if is then evaluation.◌>>=◌ (control.scoped ma [] us) (λ xs. evaluation.◌>>=◌ (mn xs) (λ x. control.turns m mt mn at ma (assign xs at x))) else yields us)) f
              (subst (λ (o : List Local × Work). Vars o.0 w o.1 (yields us)) (same_ok (vs, at_count w d) (ts, v) q) (record { adds = it.adds; long = it.long; gives = it.gives }))

  -- the head of the loop, whose variable ends with it
  pub loop_does : (first : Carry) (mf : Means) → Carries r first mf → (n : ℕ)
      → Does r (λ vs w. first vs w >>= λ o. carrying.turns call site n test next at a (vs ++ frames.variable o.0 true ∷ []) o.1 >>= λ s. Ok (take (length vs) s.0, s.1))
      (λ us. evaluation.◌>>=◌ (mf us) (λ x. evaluation.◌>>=◌ (control.turns n mt mn at ma (us ++ variable x ∷ [])) (λ ys. yields (take (length us) ys))))
  unfolding Carries
  loop_does first mf h m = record {
    kept = λ vs w ts v e.
        let g = got (first vs w) _ (ts, v) e in
        let l = got (carrying.turns call site m test next at a (vs ++ frames.variable g.0.0 true ∷ []) g.0.1) (λ s. Ok (take (length vs) s.0, s.1)) (ts, v) g.2 in
        subst (λ (o : List Local × Work). Kept vs o.0) (same_ok (take (length vs) l.0.0, l.0.1) (ts, v) l.2)
        (kept_take vs l.0.0 (kept_fewer vs (frames.variable g.0.0 true ∷ []) l.0.0 (turns_kept m (vs ++ frames.variable g.0.0 true ∷ []) g.0.1 l.0.0 l.0.1 l.1)));
    does = λ p ws n k vs us w long hold ts v e.
        let g = got (first vs w) _ (ts, v) e in
        let l = got (carrying.turns call site m test next at a (vs ++ frames.variable g.0.0 true ∷ []) g.0.1) (λ s. Ok (take (length vs) s.0, s.1)) (ts, v) g.2 in
        let one = h p ws n k vs us w long hold g.0.0 g.0.1 g.1 in
        let x = (here r p ws n k w (mf us)).gives in
        let more = us ++ variable x ∷ [] in
        let two = turns_do p ws n k m (vs ++ frames.variable g.0.0 true ∷ []) more g.0.1 one.long
        (hold_append (V r p ws n k g.0.1) vs (frames.variable g.0.0 true ∷ []) us (variable x ∷ []) (all_hold_within (V r p ws n k w) (V r p ws n k g.0.1) one.adds.within vs us hold) (hold_new (V r p ws n k g.0.1) g.0.0 x true one.gives, tt))
        l.0.0 l.0.1 l.1 in
        let whole : Evaluation Variables = evaluation.◌>>=◌ (mf us) (λ x. evaluation.◌>>=◌ (control.turns m mt mn at ma (us ++ variable x ∷ [])) (λ ys. yields (take (length us) ys))) in
        subst (λ (o : List Local × Work). Same r p ws n k (λ W xs. AllHold W o.0 xs) w o.1 (here r p ws n k w whole)) (same_ok (take (length vs) l.0.0, l.0.1) (ts, v) l.2)
        (bound r p ws n k (λ W y. Shows W g.0.0 y) (λ W xs. AllHold W (take (length vs) l.0.0) xs) w g.0.1 l.0.1 (mf us) (λ x. evaluation.◌>>=◌ (control.turns m mt mn at ma (us ++ variable x ∷ [])) (λ ys. yields (take (length us) ys))) one
        (given r p ws n k (λ W xs. AllHold W l.0.0 xs) (λ W xs. AllHold W (take (length vs) l.0.0) xs) g.0.1 l.0.1 (control.turns m mt mn at ma more) (take (length us)) two
        (subst (λ i. AllHold (V r p ws n k l.0.1) (take (length vs) l.0.0) (take i (here r p ws n k g.0.1 (control.turns m mt mn at ma more)).gives)) (hold_long (V r p ws n k w) vs us hold)
        (hold_take (V r p ws n k l.0.1) (length vs) l.0.0 (here r p ws n k g.0.1 (control.turns m mt mn at ma more)).gives two.gives))));
  }
