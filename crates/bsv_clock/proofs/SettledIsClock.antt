-- Where each element does what is decided of it, that is a clock.
use Rattle.std.proofs.Common.{◌≡◌, ◌∙◌, ℕ, inl, inr, Bool, true, false, cond, not, ◌&&◌, List, ◌∷◌, Some, None, is_some, refl, sym, ap, subst}
use Rattle.std.specs.Prelude.{filter}
use Rattle.std.proofs.lemmas.Bool.{and_parts, and_from, not-true, both_ways, cases_Bool, false_from_ne_true}
use Rattle.bsv_prim.specs.declared.part.Part.{Part}
use Rattle.bsv_design.specs.declared.schedule.Schedule.{Schedule}
use Rattle.bsv_design.specs.design.Bodies.{Target}
use Rattle.bsv_design.specs.scheme.Schemes.{Scheme, Asking, Called, ready, calls}
use Rattle.bsv_design.specs.scheme.Serial.{Serial, by_rank}
use Rattle.bsv_design.specs.scheme.States.{emptied, after_calls}
use Rattle.bsv_schedule.specs.relating.Elements.{relating}
use Rattle.bsv_graph.specs.Orders.{In}
use Rattle.bsv_guard.specs.ElementLaws.{IsUse}
use Rattle.bsv_guard.proofs.Keeps.{sound_keeps}
use Rattle.bsv_schedule.specs.stopping.Firing.{StopsIn}
use Rattle.bsv_clock.specs.Clocks.{IsClock, is_in, may_fire, is_candidate}
use Rattle.bsv_clock.specs.Events.{results_in_turn, results_under}
use Rattle.bsv_clock.specs.Grounds.{IsLawful, IsScheduleOf, Fit}
use Rattle.bsv_clock.specs.Looks.{look_after, calls_in_turn, clock_look}
use Rattle.bsv_clock.specs.Settling.{Doing, IsSettled, deed, deeds, fires, look_of, is_stopped, decide, fired_in, end_of}
use Rattle.bsv_clock.specs.Steadiness.{IsSteady}
use Rattle.bsv_clock.proofs.Given.{CanBeRun}
use Rattle.bsv_clock.proofs.Members.{is_found, not_found, kept_in, in_kept}
use Rattle.bsv_clock.proofs.Settle.{may_within, settled_within}
use Rattle.bsv_clock.proofs.Sight.{deeds_append, deeds_same, look_cut, blind_deeds}
use Rattle.bsv_clock.proofs.Stopping.{ordered, execution_order, stopper, none_stops}
use Rattle.bsv_clock.proofs.Turns.{does, StandsAt, AreReady, HasCome, whole_walk}
use Rattle.bsv_schedule.proofs.RelationsLemmas.{filter_same}

some_if : {A : Type 0} (b : Bool) (x : A) → is_some (cond b (Some x) None) ≡ b
some_if true x = refl
some_if false x = refl

-- ---- an element that fires, and one that does not

pub record Fires (g : Bool) (S : Scheme) (made : Schedule) (q : Asking) (s : List Part) (D : Doing) (n : ℕ) : Type 0 where
  pub may : may_fire S q n ≡ true
  pub is_ready : ready g S q n (look_of S made s D) ≡ true
  pub free : is_stopped made D n ≡ false
  pub does : D n ≡ Some (by_rank S.kinds (calls S q n (look_of S made s D)))

module _ (g : Bool) (S : Scheme) (made : Schedule) (q : Asking) (s : List Part) (D : Doing) (settled : IsSettled g S made q s D) where
  abbrev passes : ℕ → Bool
  passes n = may_fire S q n && ready g S q n (look_of S made s D) && not (is_stopped made D n)

  abbrev makes : ℕ → List Called
  makes n = by_rank S.kinds (calls S q n (look_of S made s D))

  fires_where : (n : ℕ) → fires D n ≡ passes n
  unfolding decide
  fires_where n = ap is_some (settled n) ∙ some_if (passes n) (makes n)

  pub it_fires : (n : ℕ) → fires D n ≡ true → Fires g S made q s D n
  unfolding decide
  it_fires n h =
      let all = sym (fires_where n) ∙ h in
      let both = and_parts (may_fire S q n && ready g S q n (look_of S made s D)) (not (is_stopped made D n)) all in
      let parts = and_parts (may_fire S q n) (ready g S q n (look_of S made s D)) both.0 in
      record {
        may = parts.0;
        is_ready = parts.1;
        free = not-true (is_stopped made D n) both.1;
        does = settled n ∙ ap (λ (b : Bool). cond b (Some (makes n)) None) all;
      }

  -- what may fire and is ready but does not fire is stopped
  pub it_is_stopped : (n : ℕ) → fires D n ≡ false → may_fire S q n ≡ true → ready g S q n (look_of S made s D) ≡ true → is_stopped made D n ≡ true
  it_is_stopped n out may is = of (may_fire S q n) (ready g S q n (look_of S made s D)) (is_stopped made D n) (sym (fires_where n) ∙ out) may is
    where
      of : (a r p : Bool) → (a && r && not p) ≡ false → a ≡ true → r ≡ true → p ≡ true
      of a r true h i j = refl
      of a r false h i j = absurd (both_ways (a && r && true) h (and_from (a && r) true (and_from a r i j) refl))

  -- it does what an element does that fires
  pub does_same : (n : ℕ) → does S q (fires D) (look_of S made s D) n ≡ D n
  unfolding decide
  does_same n = ap (λ (b : Bool). cond b (Some (makes n)) None) (fires_where n) ∙ sym (settled n)

  -- ---- a clock

  module _ (lawful : IsLawful S) (scheduled : IsScheduleOf S made) (fit : Fit S q s) (steady : IsSteady g S) where
    abbrev start : List Part
    start = emptied S.kinds s

    none_stops_other : (a b : ℕ) → fires D a ≡ true → fires D b ≡ true → ¬ StopsIn S made a b
    none_stops_other a b h k = none_stops S made scheduled D b (it_fires b k).free a h

    cut : (before behind : List ℕ) (n : ℕ) → StandsAt made before n behind → (t : Target) → IsUse S n t → look_of S made s D t ≡ look_after S.kinds start (deeds D before) t
    unfolding look_of relating
    cut before behind n at t u =
        ap (λ (cs : List Called). look_after S.kinds start cs t) (ap (deeds D) at ∙ deeds_append D before (n ∷ behind))
        ∙ look_cut S.kinds start t (deeds D before) (deeds D (n ∷ behind))
        (blind_deeds S n t u D (settled_within g S made q s (sound_keeps S lawful.sound) D settled) (n ∷ behind) (λ f i. (ordered S made scheduled).no_later before behind n f at i))

    same_deeds : (ns : List ℕ) → deeds (does S q (fires D) (look_of S made s D)) ns ≡ deeds D ns
    same_deeds ns = deeds_same (does S q (fires D) (look_of S made s D)) D ns (λ n i. ap deed (does_same n))

    are_ready : AreReady g S made q s (fires D) (look_of S made s D)
    are_ready = record {
      is_ready = λ n i h. (it_fires n h).is_ready;
      free = λ a b i j h k. none_stops_other a b h k;
      cut = λ before behind n at same t u. cut before behind n at t u ∙ ap (λ (cs : List Called). look_after S.kinds start cs t) (sym (same_deeds before));
    }

    come : HasCome g S q s (fires D) (look_of S made s D) made.execution
    come = whole_walk g S made q s lawful scheduled fit steady (fires D) (look_of S made s D) are_ready

    calls_are_deeds : calls_in_turn S q start (fired_in made D) ≡ deeds D made.execution
    unfolding fired_in
    calls_are_deeds = come.same_calls ∙ same_deeds made.execution

    looks_are_same : clock_look S q s (fired_in made D) ≡ look_of S made s D
    unfolding clock_look look_of
    looks_are_same = ap (look_after S.kinds start) calls_are_deeds

    listed : (n : ℕ) → In (fired_in made D) n → fires D n ≡ true
    unfolding fired_in
    listed n i = (kept_in (fires D) made.execution n i).1

    lists : (n : ℕ) → may_fire S q n ≡ true → fires D n ≡ true → In (fired_in made D) n
    unfolding fired_in
    lists n may h = in_kept (fires D) made.execution n ((execution_order S made scheduled).each n (may_within S q n may)) h

    in_order : filter (is_in (fired_in made D)) made.execution ≡ fired_in made D
    unfolding fired_in
    in_order = filter_same (is_in (fired_in made D)) (fires D) made.execution (λ n i. elim (cases_Bool (fires D n)) [
      | inl h ↦ is_found (fired_in made D) n (in_kept (fires D) made.execution n i h) ∙ sym h
      | inr h ↦ not_found (fired_in made D) n (λ k. both_ways (fires D n) h (listed n k)) ∙ sym h
    ])

    others : (n : ℕ) → ¬ In (fired_in made D) n → is_candidate g S q s (fired_in made D) n ≡ true → (f : ℕ) × In (fired_in made D) f × StopsIn S made f n
    unfolding is_candidate
    others n out h =
        let parts = and_parts (may_fire S q n) (ready g S q n (clock_look S q s (fired_in made D))) h in
        let still : fires D n ≡ false = false_from_ne_true (fires D n) (λ k. out (lists n parts.0 k)) in
        let by = stopper S made scheduled D n (it_is_stopped n still parts.0 (sym (ap (ready g S q n) looks_are_same) ∙ parts.1)) in
        (by.0, lists by.0 (it_fires by.0 by.1).may by.1, by.2)

    -- what they give at their turns is what they give under the look of the clock
    pub results_in_look : results_in_turn S q start (fired_in made D) ≡ results_under S q (look_of S made s D) (fired_in made D)
    unfolding fired_in
    results_in_look = come.same_results

    serial_run : Serial g S q start (fired_in made D) (end_of S made s D)
    unfolding end_of fired_in
    serial_run = subst (λ (cs : List Called). Serial g S q start (fired_in made D) (after_calls S.kinds start cs)) (same_deeds made.execution) come.in_turn

    pub can_be_run : CanBeRun g S made q s D
    unfolding fired_in
    can_be_run = record { serial = serial_run; go = come.order; calls = calls_are_deeds }

    pub settled_clock : IsClock g S made q s (fired_in made D) (end_of S made s D)
    settled_clock = record {
      in_order = in_order;
      may = λ n i. (it_fires n (listed n i)).may;
      serial = serial_run;
      in_look = λ n i. ap (ready g S q n) looks_are_same ∙ (it_fires n (listed n i)).is_ready;
      none_stopped = λ a b i j. none_stops_other a b (listed a i) (listed b j);
      others_stopped = others;
    }
