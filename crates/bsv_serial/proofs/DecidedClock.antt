-- Element by element, by urgency, just the clock is decided.
use Rattle.std.proofs.Common.{◌≡◌, ◌≢◌, ◌∙◌, inl, inr, is_some, ℕ, ◌+◌, ◌<◌, Bool, true, false, cond, not, ◌&&◌, ◌||◌, List, [], ◌∷◌, ◌++◌, append-nil, append_assoc, Option, Some, None, refl, sym, ap, ap₂, subst, arith, length}
use Rattle.std.specs.Prelude.{slice_get, slice_index, slice_set, ◌==◌, if◌then◌else◌}
use Rattle.std.specs.List.{AllByRecursion}
use Rattle.std.proofs.lemmas.Bool.{eqb-true, eqb-false}
use Rattle.std.proofs.lemmas.List.{length-map, length-set, length-replicate}
use Rattle.bsv_lemmas.proofs.Places.{set_elsewhere, set_there, mapped_at, item_there}
use Rattle.bsv_bits.specs.Words.{Bits}
use Rattle.bsv_prim.specs.declared.part.Part.{Part}
use Rattle.bsv_design.specs.declared.design.Design.{Design}
use Rattle.bsv_design.specs.declared.element.Element.{Element}
use Rattle.bsv_design.specs.declared.kind.Kind.{Kind}
use Rattle.bsv_design.specs.declared.schedule.Need.{Need}
use Rattle.bsv_design.specs.declared.schedule.Schedule.{Schedule}
use Rattle.bsv_design.specs.design.Guards.{needs_from, needs_of}
use Rattle.bsv_design.specs.design.Roles.{is_rule}
use Rattle.bsv_design.specs.scheme.Schemes.{Scheme, Outline, Asking, Called, Look, calls, design_scheme, filled, if_asked, kinds_of, outline, ready, taken_actions, value}
use Rattle.bsv_design.specs.scheme.Seen.{design_data}
use Rattle.bsv_design.specs.scheme.Serial.{by_rank}
use Rattle.bsv_design.specs.scheme.States.{emptied}
use Rattle.bsv_graph.specs.Orders.{In, place_of}
use Rattle.bsv_guard.specs.ElementLaws.{ActsAlike}
use Rattle.bsv_clock.specs.Clocks.{is_asked, is_in, may_fire, may_fire_as}
use Rattle.bsv_clock.specs.Feeding.{IsFed}
use Rattle.bsv_clock.specs.Grounds.{Fit, IsLawful, IsScheduleOf}
use Rattle.bsv_clock.specs.Settling.{Doing, DoesWithin, IsSettled, decide, deed, fires, look_of, or_no_numbers, stops_in}
use Rattle.bsv_clock.proofs.Members.{is_found, not_found}
use Rattle.bsv_clock.proofs.Steadily.{looks_decide}
use Rattle.bsv_clock.proofs.Stopping.{execution_order, stops_true, stops_within}
use Rattle.bsv_serial.specs.declared.fates.Fate.{Fate}
use Rattle.bsv_serial.specs.declared.fates.Fate.TheVariants as fate
use Rattle.bsv_serial.specs.declared.calls_made.MadeCall.{MadeCall}
use Rattle.bsv_serial.specs.Bodies.{holds, words_under}
use Rattle.bsv_serial.specs.Decider.{Course, SoFar, CanDecide, CanDecideAll, all_decided, all_stopped, decided, fired, if_ready, of_element, flattened, undecided, unless_stopped, with_fate}
use Rattle.bsv_serial.specs.Making.{with_sites}
use Rattle.bsv_serial.specs.Settings.{is_ready, sites_of, value_of, words_at}
use Rattle.bsv_serial.specs.Sights.{look_with, or_none}
use Rattle.bsv_serial.proofs.CanRunHere.{can_run}
use Rattle.bsv_serial.proofs.DecidedFront.{below, does_now, idle, in_as_before, in_now, not_yet, or_else, others_as_before, so_far, stopper_in, stopper_is, stopper_snoc, stopper_so_far}
use Rattle.bsv_serial.proofs.Joining.{length-sites, made_on, sites_on}
use Rattle.bsv_serial.proofs.LookingSoFar.{same_look_here}
use Rattle.bsv_serial.proofs.ReadyHere.{calls_here, outline_there, ready_here, value_here}
use Rattle.bsv_serial.proofs.Stoppers.{all_stopped_at, all_stopped_long, at_replicate}
use Rattle.bsv_serial.proofs.Tagged.{added_on, added_tagged, tagged, tagged_on}

-- ---- what comes of an element

-- whether it may fire, is ready, is a rule, is stopped, and what it gives
abbrev pub outcome : Bool → Bool → Bool → Option ℕ → Option Bits → Fate
outcome false r rule o w = fate.Idle
outcome true false rule o w = if rule then fate.Idle else fate.Blocked
outcome true true rule (Some by) w = fate.Stopped by
outcome true true rule None w = fate.Fired w

abbrev pub is_rule_at : Scheme → ℕ → Bool
is_rule_at S n = rule_of (slice_get S.elements n)
  where
    rule_of : Option Outline → Bool
    rule_of None = false
    rule_of (Some o) = is_rule o.role

abbrev pub fate_of : Scheme → Schedule → Asking → List Part → Doing → ℕ → Fate
fate_of S made q s D n =
    outcome (may_fire S q n) (ready false S q n (look_of S made s D)) (is_rule_at S n) (stopper_in D made made.urgency n)
    (value S q n (look_of S made s D))

pub tagged_alike : (ks : List Kind) (i : ℕ) (D E : Doing) → ((n : ℕ) → E n ≡ D n) → (place : ℕ) (ns : List ℕ) → tagged ks i D place ns ≡ tagged ks i E place ns
tagged_alike ks i D E same place [] = refl
tagged_alike ks i D E same place (n ∷ ns) =
    ap₂ (λ (a b : List MadeCall). a ++ b) (ap (λ (o : Option (List Called)). tagged_on ks i place (deed o)) (sym (same n))) (tagged_alike ks i D E same (place + 1) ns)

tagged_nothing : (ks : List Kind) (i : ℕ) (D : Doing) → ((n : ℕ) → D n ≡ None) → (place : ℕ) (ns : List ℕ) → tagged ks i D place ns ≡ []
tagged_nothing ks i D none place [] = refl
tagged_nothing ks i D none place (n ∷ ns) =
    ap (λ (o : Option (List Called)). tagged_on ks i place (deed o) ++ tagged ks i D (place + 1) ns) (none n) ∙ tagged_nothing ks i D none (place + 1) ns

-- ---- in a clock

module _ (d : Design) (made : Schedule) (lawful : IsLawful (design_scheme (design_data d))) (scheduled : IsScheduleOf (design_scheme (design_data d)) made)
    (q : Asking) (s : List Part) (fit : Fit (design_scheme (design_data d)) q s) (needs : List (List Need)) (are_needs : needs ≡ needs_of (kinds_of (design_data d)) d.elements)
    (long : length (emptied (kinds_of (design_data d)) s) ≡ length (kinds_of (design_data d)))
    (D : Doing) (within : DoesWithin (design_scheme (design_data d)) D) (fed : IsFed (design_scheme (design_data d)) made s D)
    (settled : IsSettled false (design_scheme (design_data d)) made q s D)
    (places : List ℕ) (placed : (n : ℕ) → n < length d.elements → (n < length places) × (slice_index places n ≡ place_of made.execution n)) where
  abbrev S : Scheme
  S = design_scheme (design_data d)

  abbrev ks : List Kind
  ks = kinds_of (design_data d)

  abbrev L : Look
  L = look_of S made s D

  abbrev pub course : Course
  course = record {
    ground = record { kinds = ks; elements = d.elements; needs = needs; asking = q; state = emptied ks s };
    stops = made.stops;
    places = places;
  }

  same_count : length S.elements ≡ length d.elements
  unfolding design_scheme
  same_count = length-map d.elements outline

  -- these elements are decided
  abbrev pub fate_in : List ℕ → ℕ → Fate
  fate_in us n = cond (is_in us n) (fate_of S made q s D n) fate.Idle

  pub record AreDecided (us : List ℕ) (x : SoFar) : Type 0 where
    pub calls : length x.calls_made ≡ length ks
    pub made_is : (i : ℕ) → i < length ks → made_on x.calls_made i ≡ tagged ks i (so_far D us) 0 made.execution
    pub stoppers_long : length x.stoppers ≡ length d.elements
    pub stoppers_are : (n : ℕ) → n < length d.elements → slice_get x.stoppers n ≡ Some (stopper_in D made us n)
    pub fates_long : length x.fates ≡ length d.elements
    pub fates_are : (n : ℕ) → n < length d.elements → slice_get x.fates n ≡ Some (fate_in us n)

  -- ---- none are

  nothing_yet : (n : ℕ) → so_far D [] n ≡ None
  nothing_yet n = ap (λ (b : Bool). cond b (D n) None) (not_found [] n (λ k. k))

  pub none_decided : AreDecided [] (undecided course)
  none_decided = record {
    calls = length-replicate (length ks) [];
    made_is = λ i l.
        ap (λ (o : Option (List MadeCall)). or_none o) (at_replicate (length ks) i [] l)
        ∙ sym (tagged_nothing ks i (so_far D []) nothing_yet 0 made.execution);
    stoppers_long = length-replicate (length d.elements) None;
    stoppers_are = λ n l. at_replicate (length d.elements) n None l;
    fates_long = length-replicate (length d.elements) fate.Idle;
    fates_are = λ n l.
        at_replicate (length d.elements) n fate.Idle l
        ∙ ap (λ (b : Bool). Some (cond b (fate_of S made q s D n) fate.Idle)) (sym (not_found [] n (λ k. k)));
  }

  -- ---- one more

  module _ (us rest : List ℕ) (n : ℕ) (split : made.urgency ≡ us ++ n ∷ rest) (x : SoFar) (are : AreDecided us x) (e : Element) (is : slice_get d.elements n ≡ Some e) (small : n < length d.elements) where
    abbrev next : List ℕ
    next = us ++ n ∷ []

    fate_now : fate_in next n ≡ fate_of S made q s D n
    fate_now = ap (λ (b : Bool). cond b (fate_of S made q s D n) fate.Idle) (in_now S made lawful scheduled D within us rest n split)

    fate_elsewhere : (m : ℕ) → m ≢ n → fate_in next m ≡ fate_in us m
    fate_elsewhere m other = ap (λ (b : Bool). cond b (fate_of S made q s D m) fate.Idle) (in_as_before S made lawful scheduled D within us rest n split m other)

    apart : (m : ℕ) → (m == n) ≡ false → m ≢ n
    apart m e k = eqb-false m n e k

    -- the fates, where that of the element is put down
    put_down : (f : Fate) → f ≡ fate_of S made q s D n → (m : ℕ) → m < length d.elements → slice_get (slice_set x.fates n f) m ≡ Some (fate_in next m)
    put_down f is_fate m l = cases (m == n) refl
      where
        cases : (b : Bool) → (m == n) ≡ b → slice_get (slice_set x.fates n f) m ≡ Some (fate_in next m)
        cases true e =
            subst (λ (j : ℕ). slice_get (slice_set x.fates n f) j ≡ Some (fate_in next j)) (sym (eqb-true m n e))
            (set_there x.fates n f (subst (λ (k : ℕ). n < k) (sym are.fates_long) small) ∙ ap (λ (g : Fate). Some g) (is_fate ∙ sym fate_now))
        cases false e =
            set_elsewhere x.fates n m f (λ k. apart m e (sym k)) ∙ are.fates_are m l ∙ ap (λ (g : Fate). Some g) (sym (fate_elsewhere m (apart m e)))

    -- the fates, where it keeps that of what is not decided
    kept_down : fate_of S made q s D n ≡ fate.Idle → (m : ℕ) → m < length d.elements → slice_get x.fates m ≡ Some (fate_in next m)
    kept_down idle_fate m l = are.fates_are m l ∙ ap (λ (g : Fate). Some g) (cases (m == n) refl)
      where
        cases : (b : Bool) → (m == n) ≡ b → fate_in us m ≡ fate_in next m
        cases true e =
            subst (λ (j : ℕ). fate_in us j ≡ fate_in next j) (sym (eqb-true m n e))
            (ap (λ (b : Bool). cond b (fate_of S made q s D n) fate.Idle) (not_found us n (not_yet S made lawful scheduled D within us rest n split))
            ∙ sym idle_fate ∙ sym fate_now)
        cases false e = sym (fate_elsewhere m (apart m e))

    -- ---- it does not fire

    module _ (none : D n ≡ None) where
      same_doing : (m : ℕ) → so_far D next m ≡ so_far D us m
      same_doing m = cases (m == n) refl
        where
          cases : (b : Bool) → (m == n) ≡ b → so_far D next m ≡ so_far D us m
          cases true e =
              subst (λ (j : ℕ). so_far D next j ≡ so_far D us j) (sym (eqb-true m n e))
              (does_now S made lawful scheduled D within us rest n split ∙ none ∙ sym (idle S made lawful scheduled D within us rest n split))
          cases false e = others_as_before S made lawful scheduled D within us rest n split m (apart m e)

      same_stopper : (m : ℕ) → stopper_in D made us m ≡ stopper_in D made next m
      same_stopper m =
          whole (stopper_in D made us m)
          ∙ ap (λ (o : Option (List Called)). or_else (stopper_in D made us m) (cond (fires (λ k. o) n && stops_in made n m) (Some n) None)) (sym none)
          ∙ sym (stopper_snoc D made us n m)
        where
          whole : (o : Option ℕ) → o ≡ or_else o None
          whole None = refl
          whole (Some y) = refl

      same_made : (i : ℕ) → i < length ks → made_on x.calls_made i ≡ tagged ks i (so_far D next) 0 made.execution
      same_made i l = are.made_is i l ∙ tagged_alike ks i (so_far D us) (so_far D next) same_doing 0 made.execution

      pub left_out : fate_of S made q s D n ≡ fate.Idle → AreDecided next x
      left_out idle_fate = record {
        calls = are.calls;
        made_is = same_made;
        stoppers_long = are.stoppers_long;
        stoppers_are = λ m l. are.stoppers_are m l ∙ ap (λ (o : Option ℕ). Some o) (same_stopper m);
        fates_long = are.fates_long;
        fates_are = kept_down idle_fate;
      }

      pub told_of : (f : Fate) → f ≡ fate_of S made q s D n → AreDecided next (with_fate x n f)
      told_of f is_fate = record {
        calls = are.calls;
        made_is = same_made;
        stoppers_long = are.stoppers_long;
        stoppers_are = λ m l. are.stoppers_are m l ∙ ap (λ (o : Option ℕ). Some o) (same_stopper m);
        fates_long = length-set x.fates n f ∙ are.fates_long;
        fates_are = put_down f is_fate;
      }

    -- ---- what is computed of it

    abbrev start : List Part
    start = emptied ks s

    abbrev here : Look
    here = look_with ks start x.calls_made

    alike : ActsAlike false S q n here L
    unfolding design_scheme
    alike =
        looks_decide false S lawful q n here L
        (same_look_here S made lawful scheduled s fit.parts D within fed us rest n split x.calls_made are.made_is)

    needs_now : or_none (slice_get needs n) ≡ needs_from ks 0 e.calls
    needs_now =
        ap (λ (ns : List (List Need)). or_none (slice_get ns n)) are_needs
        ∙ ap (λ (o : Option (List Need)). or_none o) (mapped_at (λ (y : Element). needs_from ks 0 y.calls) d.elements n e is)

    abbrev arguments : List Bits
    arguments = filled e.arguments (if_asked (slice_get q.asked n) (slice_get q.args n))

    ready_now : is_ready course.ground x.calls_made n ≡ ready false S q n L
    unfolding is_ready
    ready_now =
        ap (λ (o : Option Element). ready_in o) is
        ∙ ap (λ (ns : List Need). holds ks here e ns arguments) needs_now
        ∙ ready_here d q n e is needs are_needs here ∙ alike.same_ready
      where
        ready_in : Option Element → Bool
        ready_in None = false
        ready_in (Some e) = holds ks here e (or_none (slice_get needs n)) (filled e.arguments (if_asked (slice_get q.asked n) (slice_get q.args n)))

    words_now : words_at course.ground x.calls_made n ≡ words_under ks here e arguments
    unfolding words_at
    words_now = ap (λ (o : Option Element). words_in o) is
      where
        words_in : Option Element → List Bits
        words_in None = []
        words_in (Some e) = words_under ks here e (filled e.arguments (if_asked (slice_get q.asked n) (slice_get q.args n)))

    calls_now : taken_actions (sites_of ks (words_at course.ground x.calls_made n) (Some e)) ≡ calls S q n L
    calls_now =
        ap (λ (ws : List Bits). taken_actions (sites_of ks ws (Some e))) words_now ∙ calls_here d q n e is here ∙ alike.same_calls

    value_now : value_of (words_at course.ground x.calls_made n) (Some e) ≡ value S q n L
    value_now = ap (λ (ws : List Bits). value_of ws (Some e)) words_now ∙ value_here d q n e is here ∙ alike.same_value

    -- ---- it fires

    in_execution : In made.execution n
    in_execution = (execution_order S made scheduled).each n (below S made lawful scheduled D within us rest n split)

    module _ (does : D n ≡ Some (by_rank ks (calls S q n L))) where
      does_here : so_far D next n ≡ Some (by_rank ks (calls S q n L))
      does_here = does_now S made lawful scheduled D within us rest n split ∙ does

      more_made : (i : ℕ) → i < length ks
          → made_on (with_sites ks (slice_index places n) x.calls_made (sites_of ks (words_at course.ground x.calls_made n) (Some e))) i
          ≡ tagged ks i (so_far D next) 0 made.execution
      more_made i l =
          sites_on ks (slice_index places n) i (sites_of ks (words_at course.ground x.calls_made n) (Some e)) x.calls_made (subst (λ (k : ℕ). i < k) (sym are.calls) l)
          ∙ ap₂ (λ (cs : List Called) (ms : List MadeCall). added_on ks i (slice_index places n) cs ms) calls_now (are.made_is i l)
          ∙ ap (λ (k : ℕ). added_on ks i k (calls S q n L) (tagged ks i (so_far D us) 0 made.execution)) ((placed n small).1 ∙ none_more (place_of made.execution n))
          ∙ added_tagged ks i n (calls S q n L) (so_far D us) (so_far D next) (idle S made lawful scheduled D within us rest n split) does_here
          (others_as_before S made lawful scheduled D within us rest n split) 0 made.execution (execution_order S made scheduled).once in_execution
        where
          none_more : (a : ℕ) → a ≡ 0 + a
          none_more a = omega arith

      more_stopped : (m : ℕ) → m < length d.elements
          → slice_get (all_stopped x.stoppers (or_none (slice_get made.stops n)) n) m ≡ Some (stopper_in D made next m)
      unfolding stops_in
      more_stopped m l =
          all_stopped_at x.stoppers (or_none (slice_get made.stops n)) m n (stopper_in D made us m) (are.stoppers_are m l)
          ∙ ap (λ (b : Bool). Some (or_else (stopper_in D made us m) (cond b (Some n) None)))
          (ap (λ (ns : List ℕ). is_in ns m) (same_numbers (slice_get made.stops n))
          ∙ ap (λ (o : Option (List Called)). fires (λ k. o) n && is_in (or_no_numbers (slice_get made.stops n)) m) (sym does))
          ∙ ap (λ (o : Option ℕ). Some o) (sym (stopper_snoc D made us n m))
        where
          same_numbers : (o : Option (List ℕ)) → or_none o ≡ or_no_numbers o
          same_numbers None = refl
          same_numbers (Some ns) = refl

      pub fires_now : fate.Fired (value S q n L) ≡ fate_of S made q s D n → AreDecided next (fired course x n (Some e))
      unfolding fired
      fires_now is_fate = record {
        calls = length-sites ks (slice_index places n) 0 (sites_of ks (words_at course.ground x.calls_made n) (Some e)) x.calls_made ∙ are.calls;
        made_is = more_made;
        stoppers_long = all_stopped_long x.stoppers (or_none (slice_get made.stops n)) n ∙ are.stoppers_long;
        stoppers_are = more_stopped;
        fates_long = length-set x.fates n (fate.Fired (value_of (words_at course.ground x.calls_made n) (Some e))) ∙ are.fates_long;
        fates_are = put_down (fate.Fired (value_of (words_at course.ground x.calls_made n) (Some e))) (ap (λ (o : Option Bits). fate.Fired o) value_now ∙ is_fate);
      }

    -- ---- what comes of it

    abbrev role_rule : Bool
    role_rule = is_rule e.role

    abbrev asked : Bool
    asked = is_asked q n

    may_now : may_fire S q n ≡ (role_rule || asked)
    unfolding may_fire
    may_now = ap (λ (o : Option Outline). may_fire_as q n o) (outline_there d q n e is)

    rule_now : is_rule_at S n ≡ role_rule
    rule_now = ap (λ (o : Option Outline). rule_of o) (outline_there d q n e is)
      where
        rule_of : Option Outline → Bool
        rule_of None = false
        rule_of (Some o) = is_rule o.role

    stopper_now : flattened (slice_get x.stoppers n) ≡ stopper_in D made made.urgency n
    stopper_now =
        ap (λ (o : Option (Option ℕ)). flattened o) (are.stoppers_are n small) ∙ stopper_so_far S made lawful scheduled D within us rest n split

    -- what it does, and what comes of it, by whether it may fire, is ready, is a rule, and is stopped
    abbrev does_so : Bool → Bool → Option ℕ → Option (List Called)
    does_so may r o = cond (may && r && not (is_some o)) (Some (by_rank ks (calls S q n L))) None

    does_as : (may r : Bool) (o : Option ℕ) → may_fire S q n ≡ may → ready false S q n L ≡ r → stopper_in D made made.urgency n ≡ o → D n ≡ does_so may r o
    unfolding decide design_scheme
    does_as may r o h k l =
        settled n
        ∙ ap (λ (b : Bool). cond (may_fire S q n && ready false S q n L && not b) (Some (by_rank ks (calls S q n L))) None) (sym (stopper_is D made n))
        ∙ ap (λ (b : Bool). does_so b (ready false S q n L) (stopper_in D made made.urgency n)) h
        ∙ ap₂ (λ (b : Bool) (p : Option ℕ). does_so may b p) k l

    fate_as : (may r rule : Bool) (o : Option ℕ) → may_fire S q n ≡ may → ready false S q n L ≡ r → is_rule_at S n ≡ rule → stopper_in D made made.urgency n ≡ o
        → outcome may r rule o (value S q n L) ≡ fate_of S made q s D n
    fate_as may r rule o h k l p =
        ap₂ (λ (a b : Bool). outcome a b rule o (value S q n L)) (sym h) (sym k)
        ∙ ap₂ (λ (a : Bool) (b : Option ℕ). outcome (may_fire S q n) (ready false S q n L) a b (value S q n L)) (sym l) (sym p)

    abbrev own_stopper : Option ℕ
    own_stopper = stopper_in D made made.urgency n

    module _ (may : may_fire S q n ≡ true) where
      by_stopper : ready false S q n L ≡ true → (o : Option ℕ) → own_stopper ≡ o → AreDecided next (unless_stopped course x n (Some e) o)
      by_stopper k (Some by) l =
          told_of (does_as true true (Some by) may k l) (fate.Stopped by) (fate_as true true role_rule (Some by) may k rule_now l)
      by_stopper k None l = fires_now (does_as true true None may k l) (fate_as true true role_rule None may k rule_now l)

      by_rule : ready false S q n L ≡ false → (rule : Bool) → is_rule_at S n ≡ rule → AreDecided next (if rule then x else with_fate x n fate.Blocked)
      by_rule k true l = left_out (does_as true false own_stopper may k refl) (sym (fate_as true false true own_stopper may k l refl))
      by_rule k false l = told_of (does_as true false own_stopper may k refl) fate.Blocked (fate_as true false false own_stopper may k l refl)

      by_ready : (r : Bool) → ready false S q n L ≡ r → AreDecided next (if_ready course x n (Some e) role_rule r)
      by_ready true k = subst (λ (o : Option ℕ). AreDecided next (unless_stopped course x n (Some e) o)) (sym stopper_now) (by_stopper k own_stopper refl)
      by_ready false k = by_rule k role_rule rule_now

    by_may : (may : Bool) → may_fire S q n ≡ may → AreDecided next (if may then if_ready course x n (Some e) role_rule (is_ready course.ground x.calls_made n) else x)
    by_may true h = subst (λ (r : Bool). AreDecided next (if_ready course x n (Some e) role_rule r)) (sym ready_now) (by_ready h (ready false S q n L) refl)
    by_may false h =
        left_out (does_as false (ready false S q n L) own_stopper h refl refl)
        (sym (fate_as false (ready false S q n L) role_rule own_stopper h refl rule_now refl))

    pub decided_now : AreDecided next (decided course x n)
    unfolding decided
    decided_now = subst (λ (o : Option Element). AreDecided next (of_element course x n o)) (sym is) (by_may (role_rule || asked) may_now)

    -- it can be decided
    few_stopped : AllByRecursion (λ m. m < length d.elements) (or_none (slice_get made.stops n))
    unfolding stops_in
    few_stopped = below_all (or_none (slice_get made.stops n)) each
      where
        below_all : (ns : List ℕ) → ((m : ℕ) → In ns m → m < length d.elements) → AllByRecursion (λ m. m < length d.elements) ns
        below_all [] h = tt
        below_all (m ∷ ns) h = (h m (inl refl), below_all ns (λ k i. h k (inr i)))

        numbers : (o : Option (List ℕ)) (m : ℕ) → In (or_none o) m → is_in (or_no_numbers o) m ≡ true
        numbers None m k = absurd k
        numbers (Some ns) m k = is_found ns m k

        each : (m : ℕ) → In (or_none (slice_get made.stops n)) m → m < length d.elements
        each m k =
            subst (λ (c : ℕ). m < c) same_count
            (stops_within S made scheduled n m (stops_true S made scheduled n m (numbers (slice_get made.stops n) m k))).1

    pub can_decide : CanDecide course x n
    can_decide = record {
      run = can_run d made lawful scheduled q s fit needs are_needs long D within fed us rest n split x.calls_made are.made_is e is;
      place = (placed n small).0;
      calls = are.calls;
      stoppers = are.stoppers_long;
      fates = are.fates_long;
      stopped = few_stopped;
    }

  -- ---- all

  pub fold : (us rest : List ℕ) (x : SoFar) → made.urgency ≡ us ++ rest → AreDecided us x
      → CanDecideAll course x rest × AreDecided made.urgency (all_decided course x rest)
  unfolding all_decided
  fold us [] x split are = (tt, subst (λ (ns : List ℕ). AreDecided ns x) (sym (append-nil us) ∙ sym split) are)
  fold us (n ∷ rest) x split are =
      let small : n < length d.elements = subst (λ (c : ℕ). n < c) same_count (below S made lawful scheduled D within us rest n split) in
      let e = item_there d.elements n small in
      let more = fold (us ++ n ∷ []) rest (decided course x n) (split ∙ sym (append_assoc us (n ∷ []) rest)) (decided_now us rest n split x are e.0 e.1 small) in
      ((can_decide us rest n split x are e.0 e.1 small, more.0), more.1)

  pub clock_decided : CanDecideAll course (undecided course) made.urgency × AreDecided made.urgency (all_decided course (undecided course) made.urgency)
  clock_decided = fold [] made.urgency (undecided course) refl none_decided
