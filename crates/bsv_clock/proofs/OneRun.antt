-- What happens in a clock is one, and so is a run.
use Rattle.std.proofs.Common.{◌≡◌, ◌∙◌, ℕ, ◌⊎◌, inl, inr, Bool, List, [], ◌∷◌, map, refl, sym, ap, ap₂, subst, arith}
use Rattle.std.specs.List.{AllByRecursion}
use Rattle.bsv_prim.specs.declared.part.Part.{Part}
use Rattle.bsv_design.specs.declared.fired.Fired.{Fired}
use Rattle.bsv_design.specs.declared.kind.Kind.{Kind}
use Rattle.bsv_design.specs.declared.schedule.Schedule.{Schedule}
use Rattle.bsv_design.specs.parts.Kinds.{kind_laws}
use Rattle.bsv_design.specs.scheme.Schemes.{Scheme, Asking}
use Rattle.bsv_design.specs.scheme.States.{FitsKinds, opening, emptied}
use Rattle.bsv_graph.specs.Orders.{IsOnce, IsBefore}
use Rattle.bsv_graph.proofs.OrderedLemmas.{place_before}
use Rattle.bsv_guard.specs.Fitting.{RequestFits}
use Rattle.bsv_schedule.specs.stopping.Firing.{StopsIn}
use Rattle.bsv_clock.specs.Events.{IsFirstStopper, Happens, TellAlike, stopped_in, blocked_in, results_in_turn}
use Rattle.bsv_clock.specs.Feeding.{IsFed}
use Rattle.bsv_clock.specs.Grounds.{BelongTogether, IsLawful, IsScheduleOf}
use Rattle.bsv_clock.specs.Runs.{Row, Continues, Runs, TellRunsAlike, AllFit}
use Rattle.bsv_clock.specs.Settling.{the_clock}
use Rattle.bsv_clock.specs.Steadiness.{IsSteady}
use Rattle.bsv_clock.proofs.Clocks.{one_fired, one_after, only_after}
use Rattle.bsv_clock.proofs.Stopping.{urgency_order}

-- ---- the first stopper is one

module _ (S : Scheme) (made : Schedule) (fired : List ℕ) (once : IsOnce made.urgency) where
  same_stopper : (x y : ℕ × ℕ) → IsFirstStopper S made fired x → IsFirstStopper S made fired y → x.0 ≡ y.0 → x.1 ≡ y.1
  same_stopper x y h k e = of (h.first y.1 k.fires (subst (StopsIn S made y.1) (sym e) k.stops)) (k.first x.1 h.fires (subst (StopsIn S made x.1) e h.stops))
    where
      of : (y.1 ≡ x.1) ⊎ IsBefore made.urgency x.1 y.1 → (x.1 ≡ y.1) ⊎ IsBefore made.urgency y.1 x.1 → x.1 ≡ y.1
      of (inl f) _ = sym f
      of (inr b) (inl f) = f
      of (inr b) (inr c) = absurd (let l = place_before made.urgency x.1 y.1 once b in let m = place_before made.urgency y.1 x.1 once c in omega arith)

  pub same_stoppers : (xs ys : List (ℕ × ℕ)) → map (λ p. p.0) xs ≡ map (λ p. p.0) ys → AllByRecursion (IsFirstStopper S made fired) xs → AllByRecursion (IsFirstStopper S made fired) ys → xs ≡ ys
  same_stoppers [] [] e h k = refl
  same_stoppers [] (y ∷ ys) e h k = absurd (let n : ⊥ = cc in n)
  same_stoppers (x ∷ xs) [] e h k = absurd (let n : ⊥ = cc in n)
  same_stoppers (x ∷ xs) (y ∷ ys) e h k =
      let first : x.0 ≡ y.0 = cc in
      let rest : map (λ (p : ℕ × ℕ). p.0) xs ≡ map (λ (p : ℕ × ℕ). p.0) ys = cc in
      ap₂ (λ (p : ℕ × ℕ) (ps : List (ℕ × ℕ)). p ∷ ps)
      (ap₂ (λ (a b : ℕ). let p : ℕ × ℕ = (a, b) in p) first (same_stopper x y h.0 k.0 first)) (same_stoppers xs ys rest h.1 k.1)

-- ---- parts at the opening

pub opening_fits : (ks : List Kind) → FitsKinds ks (opening ks)
opening_fits [] = tt
opening_fits (k ∷ ks) = ((kind_laws k).fit.opening, opening_fits ks)

module _ (g : Bool) (S : Scheme) (made : Schedule) (steady : IsSteady g S) where
  pub same_told : (q : Asking) (s : List Part) → BelongTogether S made q s → (fired others : Fired) (after end : List Part)
      → Happens g S made q s fired after → Happens g S made q s others end → TellAlike fired others
  same_told q s together fired others after end h k =
      let list = one_fired g S made q s together steady fired.list.items others.list.items after end h.clock k.clock in
      record {
        list = list;
        stopped = same_stoppers S made fired.list.items (urgency_order S made together.schedule).once fired.stopped.items others.stopped.items
            (h.stopped ∙ (ap (stopped_in g S made q s) list ∙ sym k.stopped)) h.stoppers
            (subst (λ (fs : List ℕ). AllByRecursion (IsFirstStopper S made fs) others.stopped.items) (sym list) k.stoppers);
        blocked = h.blocked ∙ (ap (blocked_in g S q s) list ∙ sym k.blocked);
        results = h.results ∙ (ap (results_in_turn S q (emptied S.kinds s)) list ∙ sym k.results);
      }

  -- ---- runs

  module _ (lawful : IsLawful S) (scheduled : IsScheduleOf S made)
      (fed : (q : Asking) (s : List Part) → BelongTogether S made q s → IsFed S made s (the_clock g S made q s)) where
    belong : (q : Asking) (s : List Part) → ((n : ℕ) → RequestFits S q n) → FitsKinds S.kinds s → BelongTogether S made q s
    belong q s requests parts = record { lawful = lawful; schedule = scheduled; fit = record { requests = requests; parts = parts } }

    -- the parts fit after a clock
    still_fits : (q : Asking) (s : List Part) → BelongTogether S made q s → (row : Row) → Happens g S made q s row.fired row.after → FitsKinds S.kinds row.after
    still_fits q s there row h = subst (FitsKinds S.kinds) (sym (only_after g S made q s there steady row.fired.list.items row.after h.clock)) (fed q s there).end_fits

    same_from : (s : List Part) → FitsKinds S.kinds s → (qs : List Asking) (rows others : List Row) → AllFit S qs
        → Continues g S made s qs rows → Continues g S made s qs others → TellRunsAlike rows others
    same_from s fits [] [] [] all h k = tt
    same_from s fits [] [] (other ∷ others) all h k = absurd k
    same_from s fits [] (row ∷ rows) others all h k = absurd h
    same_from s fits (q ∷ qs) [] others all h k = absurd h
    same_from s fits (q ∷ qs) (row ∷ rows) [] all h k = absurd k
    same_from s fits (q ∷ qs) (row ∷ rows) (other ∷ others) all h k =
        let there = belong q s all.0 fits in
        let after = one_after g S made q s there steady row.fired.list.items other.fired.list.items row.after other.after h.0.clock k.0.clock in (
          same_told q s there row.fired other.fired row.after other.after h.0 k.0,
          after,
          same_from row.after (still_fits q s there row h.0) qs rows others all.1 h.1 (subst (λ (end : List Part). Continues g S made end qs others) (sym after) k.1),
        )

    pub same_runs : (qs : List Asking) (rows others : List Row) → AllFit S qs → Runs g S made qs rows → Runs g S made qs others → TellRunsAlike rows others
    same_runs qs rows others all h k = same_from (opening S.kinds) (opening_fits S.kinds) qs rows others all h k
