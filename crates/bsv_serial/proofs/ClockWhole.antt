-- What a clock rests on, and what it leaves, in one place.
use Rattle.std.proofs.Common.{◌≡◌, ℕ, zero, suc, ◌<◌, false, List, [], ◌∷◌, ◌++◌, length, refl, sym, ap, subst, arith}
use Rattle.std.specs.Prelude.{replicate, slice_index, take}
use Rattle.bsv_prim.specs.declared.part.Part.{Part}
use Rattle.bsv_design.specs.declared.design.Design.{Design}
use Rattle.bsv_design.specs.declared.fired.Fired.{Fired}
use Rattle.bsv_design.specs.declared.kind.Kind.{Kind}
use Rattle.bsv_design.specs.declared.schedule.Need.{Need}
use Rattle.bsv_design.specs.declared.schedule.Schedule.{Schedule}
use Rattle.bsv_design.specs.design.Guards.{needs_of}
use Rattle.bsv_design.specs.scheme.Schemes.{Asking, design_scheme, kinds_of}
use Rattle.bsv_design.specs.scheme.Seen.{design_data}
use Rattle.bsv_design.specs.scheme.States.{AskingFits, FitsKinds, emptied}
use Rattle.bsv_graph.specs.Orders.{place_of}
use Rattle.bsv_clock.specs.Events.{Happens}
use Rattle.bsv_clock.specs.Grounds.{Fit, IsLawful, IsScheduleOf, KeepsRules}
use Rattle.bsv_clock.proofs.Belonging.{lawful_design}
use Rattle.bsv_serial.specs.Applying.{AllCanTake, all_after}
use Rattle.bsv_serial.specs.AtHand.{clock_course}
use Rattle.bsv_serial.specs.Decider.{CanDecideAll, SoFar, all_decided, undecided}
use Rattle.bsv_serial.specs.Placing.{all_placed}
use Rattle.bsv_serial.specs.ToldEvents as told_events
use Rattle.bsv_serial.proofs.ClockGround.{executes, fits_together}
use Rattle.bsv_serial.proofs.ClockTold.{all_long, can_decide_all, clock_happens, end_fits, fates_count, takes}
use Rattle.bsv_serial.proofs.Placed.{order_placed}

pub take_front : {X : Type 0} (n : ℕ) (xs ys : List X) → length xs ≡ n → take n (xs ++ ys) ≡ xs
take_front zero [] ys e = refl
take_front (suc n) [] ys e = absurd (let z : ⊥ = omega arith in z)
take_front zero (x ∷ xs) ys e = absurd (let z : ⊥ = omega arith in z)
take_front (suc n) (x ∷ xs) ys e = ap (λ zs. x ∷ zs) (take_front n xs ys (omega arith))

-- what is known where this is decided
pub record IsRunTo (d : Design) (made : Schedule) (q : Asking) (s start : List Part) (found : SoFar) : Type 0 where
  pub takes : AllCanTake (kinds_of (design_data d)) start found.calls_made
  pub long : length (all_after (kinds_of (design_data d)) start found.calls_made) ≡ length start
  pub count : length found.fates ≡ length d.elements
  pub fits : FitsKinds (kinds_of (design_data d)) (all_after (kinds_of (design_data d)) start found.calls_made)
  pub happens : (fired : Fired) → fired.list.items ≡ told_events.all_fired found.fates made.execution
      → fired.stopped.items ≡ told_events.all_stopped found.fates made.urgency
      → fired.blocked.items ≡ told_events.all_blocked found.fates
      → fired.results.items ≡ told_events.all_given found.fates made.execution
      → Happens false (design_scheme (design_data d)) made q s fired (all_after (kinds_of (design_data d)) start found.calls_made)

-- what is known where these are the parts at the start and the places
pub record IsRun (d : Design) (needs : List (List Need)) (made : Schedule) (q : Asking) (s start : List Part) (places : List ℕ) : Type 0 where
  pub can : CanDecideAll (clock_course d needs made q start places) (undecided (clock_course d needs made q start places)) made.urgency
  pub behind : (found : SoFar) → found ≡ all_decided (clock_course d needs made q start places) (undecided (clock_course d needs made q start places)) made.urgency
      → IsRunTo d made q s start found

module _ (d : Design) (rules : KeepsRules (design_scheme (design_data d))) (needs : List (List Need)) (are_needs : needs ≡ needs_of (kinds_of (design_data d)) d.elements)
    (made : Schedule) (scheduled : IsScheduleOf (design_scheme (design_data d)) made) (q : Asking) (asking : AskingFits d.elements q)
    (s : List Part) (parts : FitsKinds (kinds_of (design_data d)) s) where
  abbrev ks : List Kind
  ks = kinds_of (design_data d)

  abbrev placed : List ℕ
  placed = all_placed (replicate (length d.elements) 0) 0 made.execution

  lawful : IsLawful (design_scheme (design_data d))
  lawful = lawful_design d rules

  fit : Fit (design_scheme (design_data d)) q s
  fit = fits_together d q s asking parts

  have_places : (n : ℕ) → n < length d.elements → (n < length placed) × (slice_index placed n ≡ place_of made.execution n)
  have_places = order_placed (length d.elements) made.execution (executes d made scheduled)

  whole : IsRun d needs made q s (emptied ks s) placed
  whole = record {
    can = can_decide_all d made lawful scheduled q s fit asking needs are_needs placed have_places;
    behind = λ found e. subst (IsRunTo d made q s (emptied ks s)) (sym e) (record {
      takes = takes d made lawful scheduled q s fit asking needs are_needs placed have_places;
      long = all_long d made lawful scheduled q s fit asking needs are_needs placed have_places;
      count = fates_count d made lawful scheduled q s fit asking needs are_needs placed have_places;
      fits = end_fits d made lawful scheduled q s fit asking needs are_needs placed have_places;
      happens = λ fired list stopped blocked results.
          clock_happens d made lawful scheduled q s fit asking needs are_needs placed have_places fired _ refl list stopped blocked results;
    });
  }

  pub run_whole : (start : List Part) → start ≡ emptied ks s → (places : List ℕ) → places ≡ placed → IsRun d needs made q s start places
  run_whole start e places f =
      subst (λ (ps : List ℕ). IsRun d needs made q s start ps) (sym f) (subst (λ (ps : List Part). IsRun d needs made q s ps placed) (sym e) whole)
