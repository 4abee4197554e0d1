-- A walk along the execution order: elements that are ready under a look of a clock, and of which none stops another, are
-- ready at their turns, and make and give there what they make and give under the look.
use Rattle.std.proofs.Common.{◌≡◌, ◌∙◌, ℕ, inl, Bool, true, false, cond, List, [], ◌∷◌, ◌++◌, Option, Some, None, refl, sym, ap, ap₂, subst, append-nil, append_assoc}
use Rattle.std.specs.Prelude.{filter}
use Rattle.std.proofs.lemmas.Grind.{flat_map-append}
use Rattle.std.proofs.lemmas.List.Elements.{filter-append}
use Rattle.bsv_bits.specs.Words.{Bits}
use Rattle.bsv_prim.specs.declared.part.Part.{Part}
use Rattle.bsv_design.specs.declared.schedule.Schedule.{Schedule}
use Rattle.bsv_design.specs.design.Bodies.{Target}
use Rattle.bsv_design.specs.scheme.Schemes.{Scheme, Asking, Called, Look, ready, calls, value}
use Rattle.bsv_design.specs.scheme.Serial.{Serial, done, by_rank, run_whole}
use Rattle.bsv_design.specs.scheme.Serial as serial
use Rattle.bsv_design.specs.scheme.States.{emptied, plain, after_calls}
use Rattle.bsv_schedule.specs.relating.Elements.{relating}
use Rattle.bsv_graph.specs.Orders.{In}
use Rattle.bsv_graph.proofs.LeastLemmas.{in_left, in_right, once_apart}
use Rattle.bsv_guard.specs.ElementLaws.{IsUse, ActsAlike}
use Rattle.bsv_guard.proofs.Keeps.{sound_keeps}
use Rattle.bsv_schedule.specs.stopping.Firing.{StopsIn}
use Rattle.bsv_clock.specs.Events.{gives, results_in_turn, results_under}
use Rattle.bsv_clock.specs.Grounds.{IsLawful, IsScheduleOf, Fit}
use Rattle.bsv_clock.specs.Looks.{look_after, calls_in_turn, clock_look}
use Rattle.bsv_clock.specs.Settling.{Doing, deed, deeds}
use Rattle.bsv_clock.specs.Steadiness.{IsSteady, AllGo, GoInOrder}
use Rattle.bsv_clock.proofs.Members.{kept_in}
use Rattle.bsv_clock.proofs.CallLists.{after_calls-append}
use Rattle.bsv_clock.proofs.Serially.{turns_append, results_append, serial_more, order_more}
use Rattle.bsv_clock.proofs.Sight.{deeds_append}
use Rattle.bsv_clock.proofs.Stopping.{ordered, execution_order}

-- what elements do that pass a test, under a look
abbrev pub does : Scheme → Asking → (ℕ → Bool) → Look → Doing
does S q test look n = cond (test n) (Some (by_rank S.kinds (calls S q n look))) None

-- the part of the execution order that comes before an element
abbrev pub StandsAt : Schedule → List ℕ → ℕ → List ℕ → Type 0
StandsAt made before n behind = made.execution ≡ before ++ (n ∷ behind)

-- The elements that pass the test are ready under the look, and none stops another. To each of them, the look is one after
-- the calls of those that come before it.
pub record AreReady (g : Bool) (S : Scheme) (made : Schedule) (q : Asking) (s : List Part) (test : ℕ → Bool) (look : Look) : Type 0 where
  pub is_ready : (n : ℕ) → In made.execution n → test n ≡ true → ready g S q n look ≡ true
  pub free : (a b : ℕ) → In made.execution a → In made.execution b → test a ≡ true → test b ≡ true → ¬ StopsIn S made a b
  pub cut : (before behind : List ℕ) (n : ℕ) → StandsAt made before n behind
      → calls_in_turn S q (emptied S.kinds s) (filter test before) ≡ deeds (does S q test look) before
      → (t : Target) → IsUse S n t → look t ≡ look_after S.kinds (emptied S.kinds s) (deeds (does S q test look) before) t

-- how far the walk has come
pub record HasCome (g : Bool) (S : Scheme) (q : Asking) (s : List Part) (test : ℕ → Bool) (look : Look) (before : List ℕ) : Type 0 where
  pub in_turn : Serial g S q (emptied S.kinds s) (filter test before) (after_calls S.kinds (emptied S.kinds s) (deeds (does S q test look) before))
  pub order : GoInOrder S (filter test before)
  pub same_calls : calls_in_turn S q (emptied S.kinds s) (filter test before) ≡ deeds (does S q test look) before
  pub same_results : results_in_turn S q (emptied S.kinds s) (filter test before) ≡ results_under S q look (filter test before)

module _ (g : Bool) (S : Scheme) (made : Schedule) (q : Asking) (s : List Part) (lawful : IsLawful S) (scheduled : IsScheduleOf S made) (fit : Fit S q s) (steady : IsSteady g S) where
  module _ (test : ℕ → Bool) (look : Look) (are : AreReady g S made q s test look) where
    abbrev D : Doing
    D = does S q test look

    abbrev start : List Part
    start = emptied S.kinds s

    begin : HasCome g S q s test look []
    unfolding deeds
    begin = record { in_turn = done; order = tt; same_calls = refl; same_results = refl }

    one_deed : (n : ℕ) → deeds D (n ∷ []) ≡ deed (D n)
    unfolding deeds
    one_deed n = append-nil (deed (D n))

    moved : (ms ns : List ℕ) (cs ds : List Called) → ns ≡ ms → ds ≡ cs → Serial g S q start ms (after_calls S.kinds start cs) → Serial g S q start ns (after_calls S.kinds start ds)
    moved ms ns cs ds e f h =
        subst (λ (xs : List ℕ). Serial g S q start xs (after_calls S.kinds start ds)) (sym e)
        (subst (λ (es : List Called). Serial g S q start ms (after_calls S.kinds start es)) (sym f) h)

    -- ---- an element that does not pass

    module _ (before : List ℕ) (n : ℕ) (h : HasCome g S q s test look before) (out : test n ≡ false) where
      no_more_members : filter test (before ++ n ∷ []) ≡ filter test before
      no_more_members =
          filter-append test before (n ∷ [])
          ∙ (ap (λ (b : Bool). filter test before ++ cond b (n ∷ []) []) out ∙ append-nil (filter test before))

      no_more_deeds : deeds D (before ++ n ∷ []) ≡ deeds D before
      no_more_deeds =
          deeds_append D before (n ∷ [])
          ∙ (ap (λ (cs : List Called). deeds D before ++ cs) (one_deed n ∙ ap (λ (b : Bool). deed (cond b (Some (by_rank S.kinds (calls S q n look))) None)) out)
          ∙ append-nil (deeds D before))

      passed_over : HasCome g S q s test look (before ++ n ∷ [])
      passed_over = record {
        in_turn = moved (filter test before) (filter test (before ++ n ∷ [])) (deeds D before) (deeds D (before ++ n ∷ [])) no_more_members no_more_deeds h.in_turn;
        order = subst (GoInOrder S) (sym no_more_members) h.order;
        same_calls = ap (calls_in_turn S q start) no_more_members ∙ (h.same_calls ∙ sym no_more_deeds);
        same_results = ap (results_in_turn S q start) no_more_members ∙ (h.same_results ∙ sym (ap (results_under S q look) no_more_members));
      }

    -- ---- an element that passes

    module _ (before behind : List ℕ) (n : ℕ) (at : StandsAt made before n behind) (h : HasCome g S q s test look before) (is : test n ≡ true) where
      abbrev end : List Part
      end = after_calls S.kinds start (deeds D before)

      executed : (f : ℕ) → In (before ++ (n ∷ behind)) f → In made.execution f
      executed f i = subst (λ (xs : List ℕ). In xs f) (sym at) i

      here : In made.execution n
      here = executed n (in_right before (n ∷ behind) n (inl refl))

      goes_before : AllGo S (filter test before) n
      unfolding relating
      goes_before f i =
          let k = kept_in test before f i in
          let there = executed f (in_left before (n ∷ behind) f k.0) in
          (ordered S made scheduled).no_clash before behind n f at k.0 (are.free f n there here k.1 is) (are.free n f here there is k.1)

      fresh : ¬ In (filter test before) n
      fresh i =
          once_apart before (n ∷ behind) n (rw at at (execution_order S made scheduled).once) (kept_in test before n i).0 (inl refl)

      same_look : (t : Target) → IsUse S n t → look t ≡ clock_look S q s (filter test before) t
      unfolding clock_look
      same_look t u = are.cut before behind n at h.same_calls t u ∙ ap (λ (cs : List Called). look_after S.kinds start cs t) (sym h.same_calls)

      acts : ActsAlike g S q n look (plain end)
      acts =
          let local = (sound_keeps S lawful.sound).local g q n look (clock_look S q s (filter test before)) same_look in
          let now = steady q s end (filter test before) n fit h.in_turn h.order goes_before (sym local.same_ready ∙ are.is_ready n here is) in
          record {
            same_ready = local.same_ready ∙ now.same_ready;
            same_calls = local.same_calls ∙ now.same_calls;
            same_value = local.same_value ∙ now.same_value;
          }

      made_here : serial.calls_made S q n end ≡ deed (D n)
      made_here =
          ap (by_rank S.kinds) (sym acts.same_calls)
          ∙ sym (ap (λ (b : Bool). deed (cond b (Some (by_rank S.kinds (calls S q n look))) None)) is)

      same_members : filter test (before ++ n ∷ []) ≡ filter test before ++ n ∷ []
      same_members = filter-append test before (n ∷ []) ∙ ap (λ (b : Bool). filter test before ++ cond b (n ∷ []) []) is

      more_deeds : deeds D (before ++ n ∷ []) ≡ deeds D before ++ deed (D n)
      more_deeds = deeds_append D before (n ∷ []) ∙ ap (λ (cs : List Called). deeds D before ++ cs) (one_deed n)

      end_here : run_whole S q n end ≡ after_calls S.kinds start (deeds D (before ++ n ∷ []))
      unfolding run_whole
      end_here =
          ap (after_calls S.kinds end) made_here
          ∙ sym (ap (after_calls S.kinds start) more_deeds ∙ after_calls-append S.kinds start (deeds D before) (deed (D n)))

      more_calls : calls_in_turn S q start (filter test before ++ n ∷ []) ≡ deeds D before ++ deed (D n)
      more_calls =
          turns_append S q start (filter test before) (n ∷ [])
          ∙ ap (λ (cs : List Called). cs ++ (serial.calls_made S q n (after_calls S.kinds start cs) ++ [])) h.same_calls
          ∙ ap (λ (cs : List Called). deeds D before ++ cs) (append-nil (serial.calls_made S q n end) ∙ made_here)

      more_results : results_in_turn S q start (filter test before ++ n ∷ []) ≡ results_under S q look (filter test before ++ n ∷ [])
      more_results =
          results_append S q start (filter test before) (n ∷ [])
          ∙ ap (λ (cs : List Called). results_in_turn S q start (filter test before) ++ (gives n (value S q n (plain (after_calls S.kinds start cs))) ++ [])) h.same_calls
          ∙ ap₂ (λ (xs : List (ℕ × Bits)) (o : Option Bits). xs ++ (gives n o ++ [])) h.same_results (sym acts.same_value)
          ∙ sym (flat_map-append (λ m. gives m (value S q m look)) (filter test before) (n ∷ []))

      taken_in : HasCome g S q s test look (before ++ n ∷ [])
      taken_in = record {
        in_turn = subst (λ (ns : List ℕ). Serial g S q start ns (after_calls S.kinds start (deeds D (before ++ n ∷ [])))) (sym same_members)
            (subst (Serial g S q start (filter test before ++ n ∷ [])) end_here
            (serial_more S q g n h.in_turn (sym acts.same_ready ∙ are.is_ready n here is) fresh));
        order = subst (GoInOrder S) (sym same_members) (order_more S (filter test before) n h.order goes_before);
        same_calls = ap (calls_in_turn S q start) same_members ∙ (more_calls ∙ sym more_deeds);
        same_results = ap (results_in_turn S q start) same_members ∙ (more_results ∙ sym (ap (results_under S q look) same_members));
      }

    -- ---- the whole order

    walk : (behind before : List ℕ) → made.execution ≡ before ++ behind → HasCome g S q s test look before → HasCome g S q s test look (before ++ behind)
    walk [] before e h = subst (HasCome g S q s test look) (sym (append-nil before)) h
    walk (n ∷ behind) before e h =
        subst (HasCome g S q s test look) (append_assoc before (n ∷ []) behind)
        (walk behind (before ++ n ∷ []) (e ∙ sym (append_assoc before (n ∷ []) behind)) (next (test n) refl))
      where
        next : (b : Bool) → test n ≡ b → HasCome g S q s test look (before ++ n ∷ [])
        next true is = taken_in before behind n e h is
        next false out = passed_over before n h out

    pub whole_walk : HasCome g S q s test look made.execution
    whole_walk = walk made.execution [] refl begin
