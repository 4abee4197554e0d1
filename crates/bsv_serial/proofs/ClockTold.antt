-- What is told of the elements is what happens in the clock.
use Rattle.std.proofs.Common.{◌≡◌, ◌∙◌, inl, inr, is_some, ℕ, zero, suc, ◌<◌, Bool, true, false, cond, not, ◌&&◌, ◌||◌, List, [], ◌∷◌, ◌++◌, map, Option, Some, None, refl, sym, ap, ap₂, subst, length}
use Rattle.std.specs.Prelude.{filter, slice_get, slice_index, unwrap_or}
use Rattle.std.specs.List.{AllByRecursion, flat_map}
use Rattle.std.proofs.lemmas.List.{length-map}
use Rattle.bsv_lemmas.proofs.Places.{item_there}
use Rattle.bsv_bits.specs.Words.{Bits}
use Rattle.bsv_prim.specs.declared.part.Part.{Part}
use Rattle.bsv_design.specs.declared.design.Design.{Design}
use Rattle.bsv_design.specs.declared.element.Element.{Element}
use Rattle.bsv_design.specs.declared.fired.Fired.{Fired}
use Rattle.bsv_design.specs.declared.kind.Kind.{Kind}
use Rattle.bsv_design.specs.declared.schedule.Need.{Need}
use Rattle.bsv_design.specs.declared.schedule.Schedule.{Schedule}
use Rattle.bsv_design.specs.design.Guards.{needs_of}
use Rattle.bsv_design.specs.design.Roles.{is_rule}
use Rattle.bsv_design.specs.scheme.Schemes.{Scheme, Outline, Asking, Called, Look, calls, design_scheme, kinds_of, outline, ready, value}
use Rattle.bsv_design.specs.scheme.Seen.{design_data}
use Rattle.bsv_design.specs.scheme.Serial.{by_rank}
use Rattle.bsv_design.specs.scheme.States.{AskingFits, FitMethods, FitsKinds, emptied, methods_in}
use Rattle.bsv_graph.specs.Edges.{numbers_below}
use Rattle.bsv_graph.specs.Orders.{In, place_of}
use Rattle.bsv_graph.proofs.EdgeLemmas.{in_below}
use Rattle.bsv_clock.specs.Clocks.{IsClock, is_asked, is_candidate, is_in, may_fire, may_fire_as}
use Rattle.bsv_clock.specs.Events.{Happens, IsFirstStopper, blocked_in, gives, results_in_turn, results_under, stopped_in}
use Rattle.bsv_clock.specs.Feeding.{IsFed}
use Rattle.bsv_clock.specs.Grounds.{BelongTogether, Fit, IsLawful, IsScheduleOf}
use Rattle.bsv_clock.specs.Looks.{clock_look, look_after}
use Rattle.bsv_clock.specs.Settling.{Doing, DoesWithin, IsSettled, decide, end_of, fired_in, fires, is_stopped, look_of, the_clock}
use Rattle.bsv_clock.proofs.Clocks.{clock_fed, clock_results, clock_run, some_clock}
use Rattle.bsv_clock.proofs.Members.{in_kept, is_found, kept_in, not_found}
use Rattle.bsv_clock.proofs.Settle.{clock_settles, clock_within}
use Rattle.bsv_clock.proofs.Steadily.{emptied_fits, steady_scheme}
use Rattle.bsv_clock.proofs.Stopping.{execution_order, urgency_order}
use Rattle.bsv_serial.specs.declared.fates.Fate.{Fate}
use Rattle.bsv_serial.specs.declared.fates.Fate.TheVariants as fate
use Rattle.bsv_serial.specs.Applying.{AllCanTake, all_after}
use Rattle.bsv_serial.specs.Decider.{CanDecideAll, Course, SoFar, all_decided, undecided}
use Rattle.bsv_serial.specs.ToldEvents as told_events
use Rattle.bsv_serial.specs.ToldEvents.{fate_at, given_by, is_blocked, is_fired, or_idle, stopped_by}
use Rattle.bsv_serial.proofs.AppliedClock.{clock_after, clock_takes}
use Rattle.bsv_serial.proofs.DecidedClock.{AreDecided, clock_decided, fate_of, is_rule_at, outcome, tagged_alike}
use Rattle.bsv_serial.proofs.DecidedFront.{all_decided as all_known, is_first_stopper, so_far, stopper_in, stopper_is}
use Rattle.bsv_serial.proofs.Joining.{made_on}
use Rattle.bsv_serial.proofs.ReadyHere.{outline_there}
use Rattle.bsv_serial.proofs.Tagged.{tagged}
use Rattle.bsv_schedule.proofs.RelationsLemmas.{filter_same}
use Rattle.bsv_guard.proofs.Turns.{length-parts}

-- ---- lists

kept_map : {X : Type 0} (g : ℕ → List X) (t : ℕ → Bool) (ns : List ℕ) → flat_map (λ n. cond (t n) (g n) []) ns ≡ flat_map g (filter t ns)
kept_map g t [] = refl
kept_map g t (n ∷ ns) = cases (t n) (kept_map g t ns)
  where
    cases : (b : Bool) → flat_map (λ n. cond (t n) (g n) []) ns ≡ flat_map g (filter t ns)
        → cond b (g n) [] ++ flat_map (λ n. cond (t n) (g n) []) ns ≡ flat_map g (cond b (n ∷ filter t ns) (filter t ns))
    cases true e = ap (λ xs. g n ++ xs) e
    cases false e = e

mapped_same : {X : Type 0} (f g : ℕ → List X) (ns : List ℕ) → ((n : ℕ) → In ns n → f n ≡ g n) → flat_map f ns ≡ flat_map g ns
mapped_same f g [] h = refl
mapped_same f g (n ∷ ns) h = ap₂ (λ xs ys. xs ++ ys) (h n (inl refl)) (mapped_same f g ns (λ m k. h m (inr k)))

each_of : {X : Type 0} (P : X → Type 0) (f : ℕ → List X) (ns : List ℕ) → ((n : ℕ) → In ns n → AllByRecursion P (f n)) → AllByRecursion P (flat_map f ns)
each_of P f [] h = tt
each_of {X = X} P f (n ∷ ns) h = joined (f n) (h n (inl refl)) (each_of P f ns (λ m k. h m (inr k)))
  where
    joined : (xs : List X) → AllByRecursion P xs → AllByRecursion P (flat_map f ns) → AllByRecursion P (xs ++ flat_map f ns)
    joined [] a b = b
    joined (x ∷ xs) a b = (a.0, joined xs a.1 b)

-- those of which one pair tells are the first of the pairs
firsts : (f : ℕ → List (ℕ × ℕ)) (t : ℕ → Bool) (ns : List ℕ) → ((n : ℕ) → In ns n → map (λ p. p.0) (f n) ≡ cond (t n) (n ∷ []) []) → map (λ p. p.0) (flat_map f ns) ≡ filter t ns
firsts f t [] h = refl
firsts f t (n ∷ ns) h =
    map_joined (f n) (flat_map f ns) ∙ ap₂ (λ (xs ys : List ℕ). xs ++ ys) (h n (inl refl)) (firsts f t ns (λ m k. h m (inr k))) ∙ cases (t n)
  where
    map_joined : (xs ys : List (ℕ × ℕ)) → map (λ p. p.0) (xs ++ ys) ≡ map (λ p. p.0) xs ++ map (λ p. p.0) ys
    map_joined [] ys = refl
    map_joined (x ∷ xs) ys = ap (λ zs. x.0 ∷ zs) (map_joined xs ys)

    cases : (b : Bool) → cond b (n ∷ []) [] ++ filter t ns ≡ cond b (n ∷ filter t ns) (filter t ns)
    cases true = refl
    cases false = refl

-- ---- what comes of an element

fired_where : (may r rule : Bool) (o : Option ℕ) (w : Option Bits) → is_fired (outcome may r rule o w) ≡ (may && r && not (is_some o))
fired_where false r rule o w = refl
fired_where true false true o w = refl
fired_where true false false o w = refl
fired_where true true rule None w = refl
fired_where true true rule (Some by) w = refl

given_where : (n : ℕ) (may r rule : Bool) (o : Option ℕ) (w : Option Bits) → given_by n (outcome may r rule o w) ≡ cond (may && r && not (is_some o)) (gives n w) []
given_where n false r rule o w = refl
given_where n true false true o w = refl
given_where n true false false o w = refl
given_where n true true rule None w = refl
given_where n true true rule (Some by) w = refl

stopped_where : (n : ℕ) (may r rule : Bool) (o : Option ℕ) (w : Option Bits) → map (λ p. p.0) (stopped_by n (outcome may r rule o w)) ≡ cond ((may && r) && not (may && r && not (is_some o))) (n ∷ []) []
stopped_where n false r rule o w = refl
stopped_where n true false true o w = refl
stopped_where n true false false o w = refl
stopped_where n true true rule None w = refl
stopped_where n true true rule (Some by) w = refl

stopper_where : (P : ℕ × ℕ → Type 0) (n : ℕ) (may r rule : Bool) (o : Option ℕ) (w : Option Bits) → ((by : ℕ) → o ≡ Some by → P (n, by)) → AllByRecursion P (stopped_by n (outcome may r rule o w))
stopper_where P n false r rule o w h = tt
stopper_where P n true false true o w h = tt
stopper_where P n true false false o w h = tt
stopper_where P n true true rule None w h = tt
stopper_where P n true true rule (Some by) w h = (h by refl, tt)

blocked_where : (r rule asked : Bool) (o : Option ℕ) (w : Option Bits) → (rule ≡ true → asked ≡ false) → is_blocked (outcome (rule || asked) r rule o w) ≡ (asked && not r)
blocked_where r true true o w h = let z : true ≡ false = h refl in absurd (let y : ⊥ = cc in y)
blocked_where false true false o w h = refl
blocked_where true true false None w h = refl
blocked_where true true false (Some by) w h = refl
blocked_where r false false o w h = refl
blocked_where false false true o w h = refl
blocked_where true false true None w h = refl
blocked_where true false true (Some by) w h = refl

-- ---- rules are not asked

rule_in : Option Element → Bool
rule_in None = false
rule_in (Some e) = is_rule e.role

not_asked : (es : List Element) (asked : List Bool) (args : List (List Bits)) → FitMethods (methods_in es) asked args → (n : ℕ) → rule_in (slice_get es n) ≡ true → slice_get asked n ≡ None
unfolding rule_in
not_asked [] asked args h n r = absurd (let z : ⊥ = cc in z)
not_asked (e ∷ es) asked args h n r = cases (is_rule e.role) refl (λ m asked args h r. not_asked es asked args h m r) asked args h
  where
    nothing : (asked : List Bool) (args : List (List Bits)) → FitMethods [] asked args → slice_get asked n ≡ None
    nothing [] [] h = refl
    nothing (a ∷ asked) args h = absurd h
    nothing [] (ws ∷ args) h = absurd h

    later : (n : ℕ) → is_rule e.role ≡ false → rule_in (slice_get (e ∷ es) n) ≡ true
        → ((m : ℕ) (asked : List Bool) (args : List (List Bits)) → FitMethods (methods_in es) asked args → rule_in (slice_get es m) ≡ true → slice_get asked m ≡ None)
        → (a : Bool) (asked : List Bool) (args : List (List Bits)) → FitMethods (methods_in es) asked args → slice_get (a ∷ asked) n ≡ None
    later zero m r ih a asked args h = absurd (let z : ⊥ = cc in z)
    later (suc n) m r ih a asked args h = ih n asked args h r

    cases : (b : Bool) → is_rule e.role ≡ b
        → ((m : ℕ) (asked : List Bool) (args : List (List Bits)) → FitMethods (methods_in es) asked args → rule_in (slice_get es m) ≡ true → slice_get asked m ≡ None)
        → (asked : List Bool) (args : List (List Bits)) → FitMethods (cond b [] (e ∷ methods_in es)) asked args → slice_get asked n ≡ None
    cases true m ih asked args h = nothing asked args h
    cases false m ih [] [] h = absurd h
    cases false m ih [] (ws ∷ args) h = absurd h
    cases false m ih (a ∷ asked) [] h = absurd h
    cases false m ih (a ∷ asked) (ws ∷ args) h = later n m r ih a asked args h.1

-- ---- in a clock

module _ (d : Design) (made : Schedule) (lawful : IsLawful (design_scheme (design_data d))) (scheduled : IsScheduleOf (design_scheme (design_data d)) made)
    (q : Asking) (s : List Part) (fit : Fit (design_scheme (design_data d)) q s) (asking : AskingFits d.elements q)
    (needs : List (List Need)) (are_needs : needs ≡ needs_of (kinds_of (design_data d)) d.elements)
    (places : List ℕ) (placed : (n : ℕ) → n < length d.elements → (n < length places) × (slice_index places n ≡ place_of made.execution n)) where
  abbrev S : Scheme
  S = design_scheme (design_data d)

  abbrev ks : List Kind
  ks = kinds_of (design_data d)

  abbrev D : Doing
  D = the_clock false S made q s

  abbrev L : Look
  L = look_of S made s D

  together : BelongTogether S made q s
  together = record { lawful = lawful; schedule = scheduled; fit = fit }

  within : DoesWithin S D
  within = clock_within false S made q s lawful

  settled : IsSettled false S made q s D
  settled = clock_settles false S made lawful scheduled q s

  fed : IsFed S made s D
  fed = clock_fed false S made q s together (steady_scheme false S lawful)

  start_fits : FitsKinds S.kinds (emptied S.kinds s)
  start_fits = emptied_fits S.kinds s fit.parts

  long : length (emptied ks s) ≡ length ks
  unfolding design_scheme
  long = length-parts ks (emptied ks s) start_fits

  abbrev pub clock_course : Course
  clock_course = record {
    ground = record { kinds = ks; elements = d.elements; needs = needs; asking = q; state = emptied ks s };
    stops = made.stops;
    places = places;
  }

  abbrev pub found : SoFar
  found = all_decided clock_course (undecided clock_course) made.urgency

  whole : CanDecideAll clock_course (undecided clock_course) made.urgency × AreDecided d made lawful scheduled q s fit needs are_needs long D within fed settled places placed made.urgency found
  whole = clock_decided d made lawful scheduled q s fit needs are_needs long D within fed settled places placed

  pub can_decide_all : CanDecideAll clock_course (undecided clock_course) made.urgency
  can_decide_all = whole.0

  -- ---- the parts

  made_is : (i : ℕ) → i < length ks → made_on found.calls_made i ≡ tagged ks i D 0 made.execution
  made_is i l = whole.1.made_is i l ∙ tagged_alike ks i (so_far D made.urgency) D (λ n. sym (all_known S made lawful scheduled D within false q s settled n)) 0 made.execution

  pub takes : AllCanTake ks (emptied ks s) found.calls_made
  unfolding design_scheme
  takes = clock_takes S made lawful s fit.parts D fed found.calls_made whole.1.calls made_is

  pub parts_after : all_after ks (emptied ks s) found.calls_made ≡ end_of S made s D
  unfolding design_scheme
  parts_after = clock_after S made lawful s fit.parts D fed found.calls_made whole.1.calls made_is

  -- ---- what is told

  count : length d.elements ≡ length S.elements
  unfolding design_scheme
  count = sym (length-map d.elements outline)

  known : (n : ℕ) → n < length d.elements → In made.urgency n
  known n l = (urgency_order S made scheduled).each n (subst (λ (c : ℕ). n < c) count l)

  fate_known : (n : ℕ) → n < length d.elements → fate_at found.fates n ≡ fate_of S made q s D n
  fate_known n l =
      ap (λ (o : Option Fate). or_idle o) (whole.1.fates_are n l)
      ∙ ap (λ (b : Bool). cond b (fate_of S made q s D n) fate.Idle) (is_found made.urgency n (known n l))

  abbrev stopper : ℕ → Option ℕ
  stopper n = stopper_in D made made.urgency n

  some_if : {A : Type 0} (b : Bool) (x : A) → is_some (cond b (Some x) None) ≡ b
  some_if true x = refl
  some_if false x = refl

  fires_where : (n : ℕ) → (may_fire S q n && ready false S q n L && not (is_some (stopper n))) ≡ fires D n
  unfolding decide
  fires_where n =
      ap (λ (b : Bool). may_fire S q n && ready false S q n L && not b) (stopper_is D made n)
      ∙ sym (some_if (may_fire S q n && ready false S q n L && not (is_stopped made D n)) (by_rank S.kinds (calls S q n L)))
      ∙ sym (ap (λ (o : Option (List Called)). is_some o) (settled n))

  in_execution : (n : ℕ) → In made.execution n → n < length d.elements
  in_execution n k = subst (λ (c : ℕ). n < c) (sym count) ((execution_order S made scheduled).below n k)

  in_urgency : (n : ℕ) → In made.urgency n → n < length d.elements
  in_urgency n k = subst (λ (c : ℕ). n < c) (sym count) ((urgency_order S made scheduled).below n k)

  fired_known : (n : ℕ) → n < length d.elements → is_fired (fate_at found.fates n) ≡ fires D n
  fired_known n l =
      ap is_fired_fn (fate_known n l)
      ∙ fired_where (may_fire S q n) (ready false S q n L) (is_rule_at S n) (stopper n) (value S q n L) ∙ fires_where n
    where
      is_fired_fn : Fate → Bool
      is_fired_fn f = is_fired f

  pub fired_told : told_events.all_fired found.fates made.execution ≡ fired_in made D
  unfolding told_events.all_fired fired_in
  fired_told = filter_same (λ n. is_fired (fate_at found.fates n)) (fires D) made.execution (λ n k. fired_known n (in_execution n k))

  given_known : (n : ℕ) → n < length d.elements → given_by n (fate_at found.fates n) ≡ cond (fires D n) (gives n (value S q n L)) []
  given_known n l =
      ap (given_fn n) (fate_known n l)
      ∙ given_where n (may_fire S q n) (ready false S q n L) (is_rule_at S n) (stopper n) (value S q n L)
      ∙ ap (λ (b : Bool). cond b (gives n (value S q n L)) []) (fires_where n)
    where
      given_fn : ℕ → Fate → List (ℕ × Bits)
      given_fn n f = given_by n f

  pub given_told : told_events.all_given found.fates made.execution ≡ results_under S q L (fired_in made D)
  unfolding told_events.all_given fired_in
  given_told =
      mapped_same (λ n. given_by n (fate_at found.fates n)) (λ n. cond (fires D n) (gives n (value S q n L)) []) made.execution (λ n k. given_known n (in_execution n k))
      ∙ kept_map (λ n. gives n (value S q n L)) (fires D) made.execution

  -- ---- in the look of the clock

  same_look : clock_look S q s (fired_in made D) ≡ L
  unfolding clock_look look_of
  same_look = ap (look_after S.kinds (emptied S.kinds s)) (clock_run false S made q s together (steady_scheme false S lawful)).calls

  listed : (n : ℕ) → n < length d.elements → is_in (fired_in made D) n ≡ fires D n
  unfolding fired_in
  listed n l = cases (fires D n) refl
    where
      there : In made.execution n
      there = (execution_order S made scheduled).each n (subst (λ (c : ℕ). n < c) count l)

      cases : (b : Bool) → fires D n ≡ b → is_in (filter (fires D) made.execution) n ≡ b
      cases true e = is_found (filter (fires D) made.execution) n (in_kept (fires D) made.execution n there e)
      cases false e = not_found (filter (fires D) made.execution) n (λ k. (let z : true ≡ false = sym (kept_in (fires D) made.execution n k).1 ∙ e in let y : ⊥ = cc in y))

  candidate_here : (n : ℕ) → is_candidate false S q s (fired_in made D) n ≡ (may_fire S q n && ready false S q n L)
  unfolding is_candidate
  candidate_here n = ap (λ (a : Look). may_fire S q n && ready false S q n a) same_look

  stopped_known : (n : ℕ) → n < length d.elements
      → map (λ p. p.0) (stopped_by n (fate_at found.fates n))
      ≡ cond (is_candidate false S q s (fired_in made D) n && not (is_in (fired_in made D) n)) (n ∷ []) []
  stopped_known n l =
      ap stopped_fn (fate_known n l)
      ∙ stopped_where n (may_fire S q n) (ready false S q n L) (is_rule_at S n) (stopper n) (value S q n L)
      ∙ ap₂ (λ (a b : Bool). cond (a && not b) (n ∷ []) []) (sym (candidate_here n)) (fires_where n ∙ sym (listed n l))
    where
      stopped_fn : Fate → List ℕ
      stopped_fn f = map (λ p. p.0) (stopped_by n f)

  pub stopped_told : map (λ p. p.0) (told_events.all_stopped found.fates made.urgency) ≡ stopped_in false S made q s (fired_in made D)
  unfolding told_events.all_stopped
  stopped_told =
      firsts (λ n. stopped_by n (fate_at found.fates n)) (λ n. is_candidate false S q s (fired_in made D) n && not (is_in (fired_in made D) n)) made.urgency
      (λ n k. stopped_known n (in_urgency n k))

  pub stoppers_told : AllByRecursion (IsFirstStopper S made (fired_in made D)) (told_events.all_stopped found.fates made.urgency)
  unfolding told_events.all_stopped
  stoppers_told =
      each_of (IsFirstStopper S made (fired_in made D)) (λ n. stopped_by n (fate_at found.fates n)) made.urgency
      (λ n k. subst (λ (f : Fate). AllByRecursion (IsFirstStopper S made (fired_in made D)) (stopped_by n f)) (sym (fate_known n (in_urgency n k)))
      (stopper_where (IsFirstStopper S made (fired_in made D)) n (may_fire S q n) (ready false S q n L) (is_rule_at S n) (stopper n) (value S q n L)
      (λ by e. is_first_stopper S made lawful scheduled D within n by e)))

  -- ---- what is blocked

  rule_here : (n : ℕ) → rule_in (slice_get d.elements n) ≡ true → is_asked q n ≡ false
  rule_here n r = ap (λ (o : Option Bool). unwrap_or o false) (not_asked d.elements q.asked q.args asking n r)

  blocked_known : (n : ℕ) → n < length d.elements → is_blocked (fate_at found.fates n) ≡ (is_asked q n && not (ready false S q n (clock_look S q s (fired_in made D))))
  unfolding may_fire rule_in
  blocked_known n l =
      let e = item_there d.elements n l in
      let out = outline_there d q n e.0 e.1 in
      ap is_blocked_fn (fate_known n l)
      ∙ ap₂ (λ (m r : Bool). is_blocked (outcome m (ready false S q n L) r (stopper n) (value S q n L)))
      (ap (λ (o : Option Outline). may_fire_as q n o) out) (ap (λ (o : Option Outline). rule_of o) out)
      ∙ blocked_where (ready false S q n L) (is_rule e.0.role) (is_asked q n) (stopper n) (value S q n L)
      (λ r. rule_here n (ap (λ (o : Option Element). rule_in o) e.1 ∙ r))
      ∙ ap (λ (a : Look). is_asked q n && not (ready false S q n a)) (sym same_look)
    where
      is_blocked_fn : Fate → Bool
      is_blocked_fn f = is_blocked f

      rule_of : Option Outline → Bool
      rule_of None = false
      rule_of (Some o) = is_rule o.role

  pub blocked_told : told_events.all_blocked found.fates
      ≡ filter (λ n. is_asked q n && not (ready false S q n (clock_look S q s (fired_in made D)))) (numbers_below (length S.elements))
  unfolding told_events.all_blocked
  blocked_told =
      ap (λ (k : ℕ). filter (λ n. is_blocked (fate_at found.fates n)) (numbers_below k)) whole.1.fates_long
      ∙ filter_same (λ n. is_blocked (fate_at found.fates n)) (λ n. is_asked q n && not (ready false S q n (clock_look S q s (fired_in made D)))) (numbers_below (length d.elements))
      (λ n k. blocked_known n (in_below (length d.elements) n k))
      ∙ ap (λ (k : ℕ). filter (λ n. is_asked q n && not (ready false S q n (clock_look S q s (fired_in made D)))) (numbers_below k)) count

  -- ---- all

  pub clock_happens : (fired : Fired) (after : List Part) → after ≡ all_after ks (emptied ks s) found.calls_made
      → fired.list.items ≡ told_events.all_fired found.fates made.execution
      → fired.stopped.items ≡ told_events.all_stopped found.fates made.urgency
      → fired.blocked.items ≡ told_events.all_blocked found.fates
      → fired.results.items ≡ told_events.all_given found.fates made.execution
      → Happens false S made q s fired after
  clock_happens fired after is_after list stopped blocked results =
      let the_list : fired.list.items ≡ fired_in made D = list ∙ fired_told in
      subst (λ (ps : List Part). Happens false S made q s fired ps) (sym (is_after ∙ parts_after))
      (record {
        clock = subst (λ (ns : List ℕ). IsClock false S made q s ns (end_of S made s D)) (sym the_list) (some_clock false S made q s together (steady_scheme false S lawful));
        stopped = ap (λ (ps : List (ℕ × ℕ)). map (λ p. p.0) ps) stopped ∙ stopped_told ∙ ap (λ (ns : List ℕ). stopped_in false S made q s ns) (sym the_list);
        stoppers = subst (λ (ns : List ℕ). AllByRecursion (IsFirstStopper S made ns) fired.stopped.items) (sym the_list)
            (subst (λ (ps : List (ℕ × ℕ)). AllByRecursion (IsFirstStopper S made (fired_in made D)) ps) (sym stopped) stoppers_told);
        blocked = blocked ∙ blocked_told ∙ ap (λ (ns : List ℕ). blocked_in false S q s ns) (sym the_list);
        results = results ∙ given_told ∙ sym (clock_results false S made q s together (steady_scheme false S lawful))
            ∙ ap (λ (ns : List ℕ). results_in_turn S q (emptied S.kinds s) ns) (sym the_list);
      })

  pub end_fits : FitsKinds ks (all_after ks (emptied ks s) found.calls_made)
  unfolding design_scheme
  end_fits = subst (FitsKinds ks) (sym parts_after) fed.end_fits

  pub all_long : length (all_after ks (emptied ks s) found.calls_made) ≡ length (emptied ks s)
  all_long = length-parts ks (all_after ks (emptied ks s) found.calls_made) end_fits ∙ sym long

  pub fates_count : length found.fates ≡ length d.elements
  fates_count = whole.1.fates_long
