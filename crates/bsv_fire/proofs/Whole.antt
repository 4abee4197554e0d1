-- A net in which all elements stand tells what happens in each clock.
use Rattle.std.proofs.Common.{◌≡◌, ◌∙◌, ◌<◌, ℕ, Bool, true, false, List, is_some, refl, sym, ap, subst, length, filter}
use Rattle.bsv_prim.specs.declared.part.Part.{Part}
use Rattle.bsv_design.specs.declared.schedule.Schedule.{Schedule}
use Rattle.bsv_design.specs.scheme.Schemes.{Scheme, Asking}
use Rattle.bsv_design.specs.scheme.States.{emptied}
use Rattle.bsv_graph.specs.Orders.{In}
use Rattle.bsv_clock.specs.Clocks.{IsClock, is_in}
use Rattle.bsv_clock.specs.Grounds.{BelongTogether}
use Rattle.bsv_clock.specs.Looks.{clock_look, look_after, calls_in_turn}
use Rattle.bsv_clock.specs.Settling.{Doing, the_clock, look_of, fired_in, fires, end_of}
use Rattle.bsv_clock.proofs.Clocks.{some_clock, clock_run, one_fired, one_after}
use Rattle.bsv_clock.proofs.Members.{is_found, kept_in, in_kept, not_found}
use Rattle.bsv_clock.specs.Steadiness.{IsSteady}
use Rattle.bsv_clock.proofs.Steadily.{steady_scheme}
use Rattle.bsv_clock.proofs.Stopping.{execution_order}
use Rattle.std.proofs.lemmas.Bool.{both_ways}

-- ---- the clock is that of what each element does

module _ (T : Scheme) (made : Schedule) (q : Asking) (s : List Part) (together : BelongTogether T made q s) (fired : List ℕ) (after : List Part) (clock : IsClock false T made q s fired after) where
  abbrev D : Doing
  D = the_clock false T made q s

  steady : IsSteady false T
  steady = steady_scheme false T together.lawful

  pub fired_is : fired ≡ fired_in made D
  fired_is = one_fired false T made q s together steady fired (fired_in made D) after (end_of T made s D) clock (some_clock false T made q s together steady)

  pub after_is : after ≡ end_of T made s D
  after_is = one_after false T made q s together steady fired (fired_in made D) after (end_of T made s D) clock (some_clock false T made q s together steady)

  pub look_is : clock_look T q s fired ≡ look_of T made s D
  unfolding clock_look look_of
  look_is =
      ap (λ (ns : List ℕ). look_after T.kinds (emptied T.kinds s) (calls_in_turn T q (emptied T.kinds s) ns)) fired_is
      ∙ ap (look_after T.kinds (emptied T.kinds s)) (clock_run false T made q s together steady).calls

  pub fires_is : (n : ℕ) → n < length T.elements → is_in fired n ≡ is_some (D n)
  unfolding fired_in
  fires_is n l = ap (λ (ns : List ℕ). is_in ns n) fired_is ∙ of (fires D n) refl
    where
      of : (b : Bool) → fires D n ≡ b → is_in (filter (fires D) made.execution) n ≡ fires D n
      of true h = is_found (filter (fires D) made.execution) n (in_kept (fires D) made.execution n ((execution_order T made together.schedule).each n l) h) ∙ sym h
      of false h =
          not_found (filter (fires D) made.execution) n (λ i. both_ways (fires D n) h (kept_in (fires D) made.execution n i).1) ∙ sym h

  pub fired_fires : (n : ℕ) → In fired n → fires D n ≡ true
  unfolding fired_in
  fired_fires n i = (kept_in (fires D) made.execution n (subst (λ (ns : List ℕ). In ns n) fired_is i)).1

  pub fired_below : (n : ℕ) → In fired n → n < length T.elements
  unfolding fired_in
  fired_below n i = (execution_order T made together.schedule).below n (kept_in (fires D) made.execution n (subst (λ (ns : List ℕ). In ns n) fired_is i)).0
