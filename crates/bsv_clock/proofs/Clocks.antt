-- From each state that fits, with requests that fit, there is exactly one clock.
use Rattle.std.proofs.Common.{◌≡◌, ◌∙◌, ℕ, Bool, List, is_some, sym, ap}
use Rattle.bsv_prim.specs.declared.part.Part.{Part}
use Rattle.bsv_design.specs.declared.schedule.Schedule.{Schedule}
use Rattle.bsv_design.specs.scheme.Schemes.{Scheme, Asking}
use Rattle.bsv_design.specs.scheme.States.{emptied, after_calls}
use Rattle.bsv_clock.specs.Clocks.{IsClock}
use Rattle.bsv_clock.specs.Events.{results_in_turn, results_under}
use Rattle.bsv_clock.specs.Feeding.{IsFed}
use Rattle.bsv_clock.specs.Grounds.{BelongTogether}
use Rattle.bsv_clock.specs.Settling.{Doing, IsSettled, deed, fires, look_of, the_clock, fired_in, end_of}
use Rattle.bsv_clock.specs.Steadiness.{IsSteady}
use Rattle.bsv_clock.proofs.ClockIsSettled.{doing, clock_settled, fired_is, after_is}
use Rattle.bsv_clock.proofs.Given.{CanBeRun, given}
use Rattle.bsv_clock.proofs.Settle.{settled_one, clock_settles}
use Rattle.bsv_clock.proofs.SettledIsClock.{settled_clock, can_be_run, results_in_look}
use Rattle.bsv_clock.proofs.Sight.{deeds_same}
use Rattle.bsv_schedule.proofs.RelationsLemmas.{filter_same}

module _ (g : Bool) (S : Scheme) (made : Schedule) (q : Asking) (s : List Part) (together : BelongTogether S made q s) (steady : IsSteady g S) where
  abbrev clock : Doing
  clock = the_clock g S made q s

  settled : IsSettled g S made q s clock
  settled = clock_settles g S made together.lawful together.schedule q s

  pub some_clock : IsClock g S made q s (fired_in made clock) (end_of S made s clock)
  some_clock = settled_clock g S made q s clock settled together.lawful together.schedule together.fit steady

  -- its elements can be run one after the other, and make the calls of what each does
  pub clock_run : CanBeRun g S made q s clock
  clock_run = can_be_run g S made q s clock settled together.lawful together.schedule together.fit steady

  -- and give what they give under its look
  pub clock_results : results_in_turn S q (emptied S.kinds s) (fired_in made clock) ≡ results_under S q (look_of S made s clock) (fired_in made clock)
  clock_results = results_in_look g S made q s clock settled together.lawful together.schedule together.fit steady

  pub clock_fed : IsFed S made s clock
  clock_fed = given g S made q s together.lawful together.fit clock settled clock_run

  module _ (fired : List ℕ) (after : List Part) (is : IsClock g S made q s fired after) where
    abbrev found : Doing
    found = doing g S made q s fired after together.lawful together.schedule together.fit steady is

    same_doing : (n : ℕ) → found n ≡ clock n
    same_doing =
        settled_one g S made together.lawful together.schedule q s found clock
        (clock_settled g S made q s fired after together.lawful together.schedule together.fit steady is)
        settled

    pub only_fired : fired ≡ fired_in made clock
    unfolding fired_in
    only_fired =
        fired_is g S made q s fired after together.lawful together.schedule together.fit steady is
        ∙ filter_same (fires found) (fires clock) made.execution (λ n i. ap is_some (same_doing n))

    pub only_after : after ≡ end_of S made s clock
    unfolding end_of
    only_after =
        after_is g S made q s fired after together.lawful together.schedule together.fit steady is
        ∙ ap (after_calls S.kinds (emptied S.kinds s)) (deeds_same found clock made.execution (λ n i. ap deed (same_doing n)))

  pub one_fired : (fired others : List ℕ) (after end : List Part) → IsClock g S made q s fired after → IsClock g S made q s others end → fired ≡ others
  one_fired fired others after end c d = only_fired fired after c ∙ sym (only_fired others end d)

  pub one_after : (fired others : List ℕ) (after end : List Part) → IsClock g S made q s fired after → IsClock g S made q s others end → after ≡ end
  one_after fired others after end c d = only_after fired after c ∙ sym (only_after others end d)
