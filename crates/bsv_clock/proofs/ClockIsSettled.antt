-- In a clock, each element does what is decided of it.
use Rattle.std.proofs.Common.{◌≡◌, ◌∙◌, ℕ, Bool, true, false, cond, not, ◌&&◌, List, ◌∷◌, Some, None, is_some, refl, sym, ap, ap₂}
use Rattle.std.specs.Prelude.{filter}
use Rattle.std.proofs.lemmas.Bool.{and_from, both_ways, false_from_ne_true, true_from_ne_false}
use Rattle.std.proofs.lemmas.List.Elements.{filter-append}
use Rattle.bsv_prim.specs.declared.part.Part.{Part}
use Rattle.bsv_design.specs.declared.schedule.Schedule.{Schedule}
use Rattle.bsv_design.specs.design.Bodies.{Target}
use Rattle.bsv_design.specs.scheme.Schemes.{Scheme, Asking, Called, Look, ready, calls}
use Rattle.bsv_design.specs.scheme.Serial.{by_rank}
use Rattle.bsv_design.specs.scheme.States.{emptied, after_calls}
use Rattle.bsv_schedule.specs.relating.Elements.{relating}
use Rattle.bsv_guard.specs.ElementLaws.{IsUse}
use Rattle.bsv_guard.proofs.Keeps.{sound_keeps}
use Rattle.bsv_clock.specs.Clocks.{IsClock, is_in, may_fire, is_candidate}
use Rattle.bsv_clock.specs.Grounds.{IsLawful, IsScheduleOf, Fit}
use Rattle.bsv_clock.specs.Looks.{look_after, calls_in_turn, clock_look}
use Rattle.bsv_clock.specs.Settling.{Doing, IsSettled, deeds, fires, look_of, is_stopped, decide, fired_in, end_of}
use Rattle.bsv_clock.specs.Steadiness.{IsSteady}
use Rattle.bsv_clock.proofs.Members.{found, is_found, kept_in}
use Rattle.bsv_clock.proofs.Serially.{turns_append, serial_end}
use Rattle.bsv_clock.proofs.Sight.{look_cut, blind_turns}
use Rattle.bsv_clock.proofs.Stopping.{ordered, stopper, none_stops}
use Rattle.bsv_clock.proofs.Turns.{does, StandsAt, AreReady, whole_walk}
use Rattle.bsv_schedule.proofs.RelationsLemmas.{filter_same}

-- the decision of one element, given its parts
decided_as : (f a r p : Bool) (x : List Called) → (f ≡ true → (a ≡ true) × (r ≡ true) × (p ≡ false)) → (f ≡ false → a ≡ true → r ≡ true → p ≡ true)
    → cond f (Some x) None ≡ cond (a && r && not p) (Some x) None
decided_as true a r p x fires_ out =
    let h = fires_ refl in
    sym (ap₂ (λ (b c : Bool). cond (b && not c) (Some x) None) (and_from a r h.0 h.1) h.2)
decided_as false false r p x fires_ out = refl
decided_as false true false p x fires_ out = refl
decided_as false true true p x fires_ out = ap (λ (b : Bool). cond (not b) (Some x) None) (sym (out refl refl refl))

module _ (g : Bool) (S : Scheme) (made : Schedule) (q : Asking) (s : List Part) (fired : List ℕ) (after : List Part)
    (lawful : IsLawful S) (scheduled : IsScheduleOf S made) (fit : Fit S q s) (steady : IsSteady g S)
    (clock : IsClock g S made q s fired after) where
  abbrev start : List Part
  start = emptied S.kinds s

  -- what each element does in it
  abbrev pub doing : Doing
  doing = does S q (is_in fired) (clock_look S q s fired)

  fires_where : (n : ℕ) → fires doing n ≡ is_in fired n
  fires_where n = of (is_in fired n)
    where
      of : (b : Bool) → is_some (cond b (Some (by_rank S.kinds (calls S q n (clock_look S q s fired)))) None) ≡ b
      of true = refl
      of false = refl

  cut : (before behind : List ℕ) (n : ℕ) → StandsAt made before n behind → (t : Target) → IsUse S n t
      → clock_look S q s fired t ≡ look_after S.kinds start (calls_in_turn S q start (filter (is_in fired) before)) t
  unfolding clock_look relating
  cut before behind n at t u =
      let front = filter (is_in fired) before in
      let back = filter (is_in fired) (n ∷ behind) in
      ap (λ (fs : List ℕ). look_after S.kinds start (calls_in_turn S q start fs) t)
      (sym clock.in_order ∙ (ap (filter (is_in fired)) at ∙ filter-append (is_in fired) before (n ∷ behind)))
      ∙ (ap (λ (cs : List Called). look_after S.kinds start cs t) (turns_append S q start front back)
      ∙ look_cut S.kinds start t (calls_in_turn S q start front) (calls_in_turn S q (after_calls S.kinds start (calls_in_turn S q start front)) back)
      (blind_turns S n t u (sound_keeps S lawful.sound) q (after_calls S.kinds start (calls_in_turn S q start front)) back
      (λ f i. (ordered S made scheduled).no_later before behind n f at (kept_in (is_in fired) (n ∷ behind) f i).0)))

  are_ready : AreReady g S made q s (is_in fired) (clock_look S q s fired)
  are_ready = record {
    is_ready = λ n i h. clock.in_look n (found fired n h);
    free = λ a b i j h k. clock.none_stopped a b (found fired a h) (found fired b k);
    cut = λ before behind n at same t u. cut before behind n at t u ∙ ap (λ (cs : List Called). look_after S.kinds start cs t) same;
  }

  same_calls : calls_in_turn S q start fired ≡ deeds doing made.execution
  same_calls =
      ap (calls_in_turn S q start) (sym clock.in_order)
      ∙ (whole_walk g S made q s lawful scheduled fit steady (is_in fired) (clock_look S q s fired) are_ready).same_calls

  same_look : clock_look S q s fired ≡ look_of S made s doing
  unfolding clock_look look_of
  same_look = ap (look_after S.kinds start) same_calls

  unstopped : (n : ℕ) → is_in fired n ≡ true → is_stopped made doing n ≡ false
  unstopped n h =
      false_from_ne_true (is_stopped made doing n) (λ k.
      let by = stopper S made scheduled doing n k in
      clock.none_stopped by.0 n (found fired by.0 (sym (fires_where by.0) ∙ by.1)) (found fired n h) by.2)

  left_out : (n : ℕ) → is_in fired n ≡ false → may_fire S q n ≡ true → ready g S q n (look_of S made s doing) ≡ true → is_stopped made doing n ≡ true
  unfolding is_candidate
  left_out n out may is =
      let by = clock.others_stopped n (λ i. both_ways (is_in fired n) out (is_found fired n i)) (and_from (may_fire S q n) (ready g S q n (clock_look S q s fired)) may (ap (ready g S q n) same_look ∙ is)) in
      true_from_ne_false (is_stopped made doing n) (λ k. none_stops S made scheduled doing n k by.0 (fires_where by.0 ∙ is_found fired by.0 by.1) by.2)

  pub clock_settled : IsSettled g S made q s doing
  unfolding decide
  clock_settled n =
      ap (λ (look : Look). cond (is_in fired n) (Some (by_rank S.kinds (calls S q n look))) None) same_look
      ∙ decided_as (is_in fired n) (may_fire S q n) (ready g S q n (look_of S made s doing)) (is_stopped made doing n) (by_rank S.kinds (calls S q n (look_of S made s doing)))
      (λ h. (clock.may n (found fired n h), sym (ap (ready g S q n) same_look) ∙ clock.in_look n (found fired n h), unstopped n h))
      (λ out may is. left_out n out may is)

  -- it is the clock of what they do
  pub fired_is : fired ≡ fired_in made doing
  unfolding fired_in
  fired_is = sym clock.in_order ∙ filter_same (is_in fired) (fires doing) made.execution (λ n i. sym (fires_where n))

  pub after_is : after ≡ end_of S made s doing
  unfolding end_of
  after_is = serial_end S q g clock.serial ∙ ap (after_calls S.kinds start) same_calls
