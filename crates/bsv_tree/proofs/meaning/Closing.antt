-- The step of a choice that is not static, and the variables after it.
use Rattle.std.proofs.Common.{◌≡◌, ℕ, ◌+◌, Bool, true, false, ◌&&◌, List, [], ◌++◌, length, map, Ok, refl, sym, ap, ◌∙◌, subst, append-nil}
use Rattle.std.specs.Prelude.{slice_get}
use Rattle.bsv_lemmas.proofs.Choices.{same_ok}
use Rattle.bsv_bits.specs.Words.{Bits}
use Rattle.bsv_tree.specs.declared.values.Count.{Count}
use Rattle.bsv_tree.specs.declared.values.Local.{Local}
use Rattle.bsv_tree.specs.declared.values.Pending.{Pending}
use Rattle.bsv_tree.specs.declared.values.Work.{Work}
use Rattle.bsv_tree.specs.carrying.Arms as carried
use Rattle.bsv_tree.specs.carrying.Carrying.{Acts}
use Rattle.bsv_tree.specs.declared.steps.Choice.{roll-Choice}
use Rattle.bsv_tree.specs.declared.steps.Step.TheOpen.{Step-F}
use Rattle.bsv_tree.specs.meaning.Evaluation.{Results, Standing}
use Rattle.bsv_tree.specs.carrying.Running.{Happening, Run, run, arms_run, step_run, followed}
use Rattle.bsv_tree.specs.carrying.Working.{at_count, with_step}
use Rattle.bsv_tree.specs.meaning.Values.{Variables, restored}
use Rattle.bsv_tree.specs.meaning.Evaluation as evaluation
use Rattle.bsv_tree.specs.meaning.Evaluation.{Evaluation, yields, within}
use Rattle.bsv_tree.specs.meaning.Control as control
use Rattle.bsv_tree.proofs.meaning.Same.{AllHold, Same, IsLong, ran, here, got, within_append, all_hold_within}
use Rattle.bsv_tree.proofs.meaning.Pieces.{ran_more}
use Rattle.bsv_tree.proofs.meaning.Operating.{V}
use Rattle.bsv_tree.proofs.meaning.AfterChoice.{after_choice}
use Rattle.bsv_tree.proofs.meaning.Nodes.{alternative, choose_is, choice_is}
use Rattle.bsv_tree.proofs.meaning.Statements.{Does, hold_long}
use Rattle.bsv_tree.proofs.meaning.Joins.{AllPlain, Finishes}

and_true : (b : Bool) → (b && true) ≡ b
and_true true = refl
and_true false = refl

module _ (r : Results) (P : List Bits → Type 0) (vs : List Local) (us : Variables) where
  module _ (p : Standing) (ws : List Bits) (n k : ℕ) (w : Work) (long : IsLong r p ws n k w) (hold : AllHold (V r p ws n k w) vs us) (on : P (V r p ws n k w)) where
    -- from this work to a later one, the variables after it
    abbrev pub Vars : List Local → Work → Evaluation Variables → Type 0
    Vars ts v m = Same r p ws n k (λ W xs. AllHold W ts xs) w v (here r p ws n k w m)

    -- the step of the choice, whose arm may be the last one alone, and the variables after it
    pub closed_is : (ps : List Pending) (lv : List Local) (lw : Work) (M : ℕ → ℕ → Bool → Evaluation Variables)
        → ((given : List ℕ) (plain : AllPlain vs given) (number arm : ℕ) (left : Bool) → Finishes r vs us given plain P w.count.slots ps lw.steps lv number arm left (M number arm left))
        → (ts : List Local) (v : Work) → carried.close vs w ps lv lw ≡ Ok (ts, v)
        → Vars ts v (evaluation.◌>>=◌ (evaluation.choice λ i. M i 0 true) (λ xs. yields (restored us xs)))
    unfolding carried.close AllPlain
    closed_is ps lv lw M finishes ts v e =
        let W = V r p ws n k w in
        let N = (ran r p ws n k w).choices in
        let K = (ran r p ws n k w).sites in
        let d = M N 0 true p (N + 1) K in
        let first = finishes [] tt N 0 true p W (N + 1) K long hold on in
        let b : Count = record { weight = lw.count.weight; slots = w.count.slots } in
        let g = got (carried.joined_from ps lv [] [] vs b) _ (ts, v) e in
        let B = after_choice ps lv vs us d.gives first.flagged (hold_long W vs us hold) first.sized b g.0.0 g.0.1 g.0.2 g.1 in
        let second = finishes g.0.1 B.0 N 0 true p W (N + 1) K long hold on in
        let as' = map (carried.arm_of g.0.1) ps in
        let gives = map (carried.given_by lv) g.0.1 in
        let s = carried.choice_of false as' lw.steps gives in
        let h = arms_run (map run lw.steps) gives (map alternative as') N 0 (p.taken && true) r p W (N + 1) K in
        let run_is : run s r p W N K ≡ record h { words = W ++ h.words } =
        ap (λ (o : Run). o r p W N K) (choose_is (roll-Choice (record { nested = false; arms = as'; last = lw.steps; gives = gives })))
        ∙ ap (λ (o : Run). step_run (Step-F.Choose o) r p W N K) (choice_is false as' lw.steps gives)
        ∙ ap (λ (t : Bool). let o = arms_run (map run lw.steps) gives (map alternative as') N 0 t r p W (N + 1) K in record o { words = W ++ o.words }) (sym (and_true p.taken)) in
        let it : ran r p ws n k (with_step w s g.0.2) ≡ followed (ran r p ws n k w) (record h { words = W ++ h.words }) = ran_more r p ws n k w s g.0.2 ∙ ap (followed (ran r p ws n k w)) run_is in
        let after_it = B.2 W h.words long (all_hold_within W (W ++ h.words) (within_append W h.words) vs us hold) second.words in
        subst (λ (o : List Local × Work). Vars o.0 o.1 (evaluation.◌>>=◌ (evaluation.choice λ i. M i 0 true) (λ xs. yields (restored us xs)))) (same_ok (g.0.0, with_step w s g.0.2) (ts, v) g.2)
        (record {
          adds = record {
            within = λ i x j. ap (λ (o : Happening). slice_get o.words i) it ∙ within_append W h.words i x j;
            choices = ap (λ (o : Happening). o.choices) it ∙ second.choices;
            sites = ap (λ (o : Happening). o.sites) it ∙ second.sites;
            calls = ap (λ (o : Happening). o.calls) it ∙ ap (λ o. (ran r p ws n k w).calls ++ o) (second.calls ∙ sym (append-nil d.calls));
            needs = ap (λ (o : Happening). o.needs) it ∙ ap (λ o. (ran r p ws n k w).needs ++ o) (second.needs ∙ sym (append-nil d.needs));
          };
          long = ap (λ (o : Happening). length o.words) it ∙ after_it.1;
          gives = subst (λ (o : Happening). AllHold o.words g.0.0 (restored us d.gives)) (sym it) after_it.0;
        })

    -- statements alone, at a later count
    pub alone_is : (a : Acts) (m : control.Acts) → Does r a m → (c : Count) → c.slots ≡ w.count.slots → (ts : List Local) (v : Work) → a vs (at_count w c) ≡ Ok (ts, v) → Vars ts v (m us)
    alone_is a m h c s ts v e =
        let it = h.does p ws n k vs us (at_count w c) (long ∙ sym s) hold ts v e in
        record { adds = it.adds; long = it.long; gives = it.gives }
