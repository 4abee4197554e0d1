-- What a run of a net tells is what happens in the clock of the design that the net carries.
use Rattle.std.proofs.Common.{◌≡◌, ◌∙◌, is_some, ℕ, ◌+◌, ◌-◌, ◌<◌, ◌≤◌, Bool, true, false, not, ◌&&◌, List, length, map, Option, Some, None, refl, sym, ap, ap₂, subst, arith}
use Rattle.std.specs.Prelude.{filter, slice_get, unwrap_or, if◌then◌else◌, ◌^◌}
use Rattle.std.specs.List.{AllByRecursion, flat_map}
use Rattle.std.proofs.lemmas.Bool.{and_parts, and_from}
use Rattle.std.proofs.lemmas.List.{length-map}
use Rattle.std.proofs.lemmas.Option.{slice_get_past, slice_get_within}
use Rattle.bsv_lemmas.proofs.Places.{item_there, mapped_at}
use Rattle.bsv_bits.specs.Words.{Bits, bit}
use Rattle.bsv_prim.specs.declared.part.Part.{Part}
use Rattle.bsv_design.specs.declared.design.Design.{Design}
use Rattle.bsv_design.specs.declared.element.Element.{Element}
use Rattle.bsv_design.specs.declared.fired.Fired.{Fired}
use Rattle.bsv_design.specs.declared.schedule.Schedule.{Schedule}
use Rattle.bsv_design.specs.design.Bodies.{at}
use Rattle.bsv_design.specs.design.Roles.{gives_value}
use Rattle.bsv_design.specs.scheme.Rooms.{HasRoom}
use Rattle.bsv_design.specs.scheme.Schemes.{Scheme, Asking, Look, design_scheme, given, kinds_of, outline, ready, value}
use Rattle.bsv_design.specs.scheme.Seen.{design_data}
use Rattle.bsv_design.specs.scheme.States.{emptied}
use Rattle.bsv_graph.specs.Edges.{numbers_below}
use Rattle.bsv_graph.specs.Orders.{In}
use Rattle.bsv_graph.proofs.EdgeLemmas.{in_below}
use Rattle.bsv_guard.specs.Fitting.{HaveWidths}
use Rattle.bsv_schedule.specs.stopping.Firing.{StopsIn}
use Rattle.bsv_schedule.proofs.DesignLemmas.{few_elements}
use Rattle.bsv_schedule.proofs.RelationsLemmas.{filter_same}
use Rattle.bsv_clock.specs.Clocks.{IsClock, is_asked, is_candidate, is_in, may_fire}
use Rattle.bsv_clock.specs.Events.{Happens, IsFirstStopper, blocked_in, gives as gives_pair, results_in_turn, results_under, stopped_in}
use Rattle.bsv_clock.specs.Grounds.{BelongTogether, Fit, IsLawful}
use Rattle.bsv_clock.specs.Looks.{clock_look, look_after}
use Rattle.bsv_clock.specs.Settling.{Doing, end_of, fired_in, look_of, stops_in, the_clock}
use Rattle.bsv_clock.specs.Shows.{Shows, TellsClock, input_widths}
use Rattle.bsv_clock.specs.Steadiness.{IsSteady}
use Rattle.bsv_clock.proofs.Belonging.{lawful_design}
use Rattle.bsv_clock.proofs.Clocks.{clock_fed, clock_results, clock_run, some_clock}
use Rattle.bsv_clock.proofs.Members.{found, is_found, kept_in, once_long}
use Rattle.bsv_clock.proofs.Requests.{requests_fit}
use Rattle.bsv_clock.proofs.Steadily.{steady_scheme}
use Rattle.bsv_clock.proofs.Stopping.{execution_order, stops_true, stops_within, true_stops, urgency_order}
use Rattle.bsv_net.specs.declared.net.Net.{Net}
use Rattle.bsv_net.specs.AtHand.{net_data}
use Rattle.bsv_net.specs.Nets.{register_widths, words}
use Rattle.bsv_net.specs.ShowsByNet.{gives, given_at}
use Rattle.bsv_net.proofs.WidthsFit.{cells_have, inputs_given, inputs_of_scheme}
use Rattle.bsv_sim.specs.Events as events
use Rattle.bsv_sim.specs.Inputs.{inputs}
use Rattle.bsv_sim.specs.Signals as signals
use Rattle.bsv_sim.specs.Signals.{Signals}
use Rattle.bsv_sim.specs.Simulation.{IsClockOf, IsShown, IsSimulated}
use Rattle.bsv_sim.specs.Steps.{IsStepAt, signals_of}
use Rattle.bsv_sim.specs.Stoppers.{all_noted}
use Rattle.bsv_sim.proofs.Asked.{asked_long, inputs_are, may_same}
use Rattle.bsv_sim.proofs.Lists.{below_same, each_pair, given_same, pairs_of}
use Rattle.bsv_sim.proofs.Tables.{IsFirst, all_long, first_noted, stops_now}
use Rattle.bsv_sim.proofs.Told.{gives_word, nothing_told, one_told, word_told}

module _ (d : Design) (made : Schedule) (n : Net) (simulated : IsSimulated d made n) (q : Asking) (s : List Part) (ws : List Bits)
    (shown : IsShown d q s ws) (have : HaveWidths (register_widths n.registers) ws) where
  abbrev S : Scheme
  S = design_scheme (design_data d)

  pub count : length S.elements ≡ length d.elements
  unfolding design_scheme
  count = length-map d.elements outline

  lawful : IsLawful S
  lawful = lawful_design d simulated.rules

  pub fit : Fit S q s
  unfolding design_scheme
  fit = record { requests = requests_fit d q shown.requests; parts = shown.parts }

  together : BelongTogether S made q s
  together = record { lawful = lawful; schedule = simulated.schedule; fit = fit }

  steady : IsSteady false S
  steady = steady_scheme false S lawful

  -- ---- the clock

  abbrev D : Doing
  D = the_clock false S made q s

  abbrev F : List ℕ
  F = fired_in made D

  abbrev E : List Part
  E = end_of S made s D

  abbrev L : Look
  L = clock_look S q s F

  clock : IsClock false S made q s F E
  clock = some_clock false S made q s together steady

  same_look : L ≡ look_of S made s D
  unfolding clock_look look_of
  same_look = ap (look_after S.kinds (emptied S.kinds s)) (clock_run false S made q s together steady).calls

  -- ---- what the net tells of it

  abbrev vs : List Bits
  vs = words n.nodes (inputs q) ws

  abbrev r : Signals
  r = signals_of n vs

  told : TellsClock false S q s F E (given_at (net_data n) vs)
  unfolding design_scheme
  told =
      subst (λ (is : List Bits). TellsClock false S q s F E (gives (net_data n) ws is)) (sym (inputs_are d q shown.requests))
      (simulated.carries.words.clock q s ws F E fit (subst (λ (us : List ℕ). HaveWidths us ws) (sym (cells_have n.registers)) have) shown.shows clock)

  fires_told : (k : ℕ) → k < length S.elements → signals.fires r k ≡ is_in F k
  fires_told k l = one_told vs n.fires k (is_in F k) (told.elements.fires k l)

  ready_told : (k : ℕ) → k < length S.elements → signals.is_ready r k ≡ ready false S q k L
  ready_told k l = one_told vs n.readies k (ready false S q k L) (told.elements.readies k l)

  in_execution : (k : ℕ) → In made.execution k → k < length S.elements
  in_execution k i = (execution_order S made simulated.schedule).below k i

  in_urgency : (k : ℕ) → In made.urgency k → k < length S.elements
  in_urgency k i = (urgency_order S made simulated.schedule).below k i

  pub list_told : events.all_fired r made.execution ≡ F
  unfolding events.all_fired
  list_told = filter_same (signals.fires r) (is_in F) made.execution (λ k i. fires_told k (in_execution k i)) ∙ clock.in_order

  -- ---- what the elements give

  fired_there : (k : ℕ) → In F k → In made.execution k
  unfolding fired_in
  fired_there k i = (kept_in _ made.execution k i).0

  word_of_fired : (k : ℕ) → In F k → signals.word r k ≡ value S q k L
  unfolding design_scheme
  word_of_fired k i =
      let l = in_execution k (fired_there k i) in
      let e = item_there d.elements k (subst (λ (c : ℕ). k < c) count l) in
      let at_k = mapped_at outline d.elements k e.0 e.1 in
      of e.0 at_k (gives_value e.0.role) refl (value S q k L) refl (gives_word d q k L e.0 e.1)
    where
      of : (e : Element) → slice_get S.elements k ≡ Some (outline e) → (b : Bool) → gives_value e.role ≡ b
          → (o : Option Bits) → value S q k L ≡ o → is_some o ≡ gives_value e.role → signals.word r k ≡ o
      of e at_k true gives (Some w) is some =
          let there = simulated.results k (outline e) at_k gives in
          word_told vs n.results (length n.nodes) k there.0 w there.1 there.2 (told.elements.results k w (clock.in_look k i) is)
      of e at_k true gives None is some = absurd (let z : false ≡ true = some ∙ gives in let y : ⊥ = cc in y)
      of e at_k false gives None is some = nothing_told vs n.results (length n.nodes) k (simulated.carries.no_result k (outline e) at_k gives)
      of e at_k false gives (Some w) is some = absurd (let z : true ≡ false = some ∙ gives in let y : ⊥ = cc in y)

  pub results_told : events.all_given r (events.all_fired r made.execution) ≡ results_in_turn S q (emptied S.kinds s) F
  unfolding events.all_given
  results_told =
      ap (λ (ns : List ℕ). flat_map (λ k. gives_pair k (signals.word r k)) ns) list_told
      ∙ given_same (signals.word r) (λ k. value S q k L) F word_of_fired
      ∙ ap (λ (a : Look). results_under S q a F) same_look
      ∙ sym (clock_results false S made q s together steady)

  -- ---- what is blocked

  blocked_known : (k : ℕ) → k < length S.elements → signals.is_blocked r q.asked k ≡ (is_asked q k && not (ready false S q k L))
  blocked_known k l = ap (λ (b : Bool). is_asked q k && not b) (ready_told k l)

  never_asked : (k : ℕ) → length q.asked ≤ k → (is_asked q k && not (ready false S q k L)) ≡ false
  never_asked k l = ap (λ (o : Option Bool). unwrap_or o false && not (ready false S q k L)) (slice_get_past q.asked k l)

  long : length q.asked ≤ length S.elements
  long = let l = asked_long d.elements q.asked q.args shown.requests in omega (arith, l, count)

  pub blocked_told : events.all_blocked r q.asked ≡ blocked_in false S q s F
  unfolding events.all_blocked
  blocked_told =
      filter_same (signals.is_blocked r q.asked) blocked (numbers_below (length q.asked))
      (λ k i. blocked_known k (below k (in_below (length q.asked) k i)))
      ∙ sym (below_same blocked (length q.asked) (length S.elements - length q.asked) never_asked)
      ∙ ap (λ (m : ℕ). filter blocked (numbers_below m)) whole
    where
      blocked : ℕ → Bool
      blocked k = is_asked q k && not (ready false S q k L)

      below : (k : ℕ) → k < length q.asked → k < length S.elements
      below k l = omega (arith, l, long)

      whole : length q.asked + (length S.elements - length q.asked) ≡ length S.elements
      whole = omega (arith, long)

  -- ---- what is stopped

  may_told : (k : ℕ) → k < length S.elements → may_fire S q k ≡ unwrap_or (slice_get q.asked k) true
  may_told k l = may_same d q shown.requests k (subst (λ (c : ℕ). k < c) count l)

  stopped_known : (k : ℕ) → k < length S.elements
      → signals.is_stopped r q.asked k ≡ (is_candidate false S q s F k && not (is_in F k))
  unfolding is_candidate
  stopped_known k l =
      ap₂ (λ (a b : Bool). (a && b) && not (signals.fires r k)) (sym (may_told k l)) (ready_told k l)
      ∙ ap (λ (b : Bool). (may_fire S q k && ready false S q k L) && not b) (fires_told k l)

  module _ (ss : List ℕ) (table : length ss ≡ length n.fires) where
    abbrev noted_now : List ℕ
    noted_now = all_noted r made.stops ss made.urgency

    in_table : (k : ℕ) → k < length S.elements → k < length ss
    in_table k l =
        let fires = slice_get_within (map (at vs) n.fires) k (bit (is_in F k)) (told.elements.fires k l) in
        omega (arith, fires, length-map n.fires (at vs), table)

    stopper_known : (k : ℕ) → k < length S.elements → is_some (events.stopper r q.asked noted_now k) ≡ (is_candidate false S q s F k && not (is_in F k))
    stopper_known k l =
        let entry = item_there noted_now k (subst (λ (m : ℕ). k < m) (sym (all_long r made.stops ss made.urgency)) (in_table k l)) in
        ap (λ (o : Option ℕ). is_some (if signals.is_stopped r q.asked k then o else None)) entry.1
        ∙ of (signals.is_stopped r q.asked k) entry.0 ∙ stopped_known k l
      where
        of : (b : Bool) (by : ℕ) → is_some (if b then Some by else None) ≡ b
        of true by = refl
        of false by = refl

    pub stopped_told : map (λ p. p.0) (events.all_stopped r q.asked noted_now made.urgency) ≡ stopped_in false S made q s F
    unfolding events.all_stopped
    stopped_told =
        pairs_of (events.stopper r q.asked noted_now) (λ k. is_candidate false S q s F k && not (is_in F k)) made.urgency
        (λ k i. stopper_known k (in_urgency k i))

    -- a test of the net and of its table is one of the clock
    now_stops : (f k : ℕ) → In F f → StopsIn S made f k → stops_now r made.stops k f ≡ true
    unfolding stops_in
    now_stops f k i stops =
        let l = (stops_within S made simulated.schedule f k stops).0 in
        and_from (signals.fires r f) _ (fires_told f l ∙ is_found F f i) (true_stops S made simulated.schedule f k stops)

    stops_then : (f k : ℕ) → f < length S.elements → stops_now r made.stops k f ≡ true → In F f × StopsIn S made f k
    unfolding stops_in
    stops_then f k l now =
        let both = and_parts (signals.fires r f) _ now in
        (found F f (sym (fires_told f l) ∙ both.0), stops_true S made simulated.schedule f k both.1)

    first_stopper : (k by : ℕ) → In made.urgency k → events.stopper r q.asked noted_now k ≡ Some by → IsFirstStopper S made F (k, by)
    first_stopper k by i is = of (signals.is_stopped r q.asked k) refl is
      where
        l : k < length S.elements
        l = in_urgency k i

        from : IsFirst r made.stops made.urgency k by → IsFirstStopper S made F (k, by)
        from first =
            let own = stops_then by k (in_urgency by first.among) first.stops_it in
            record {
              fires = own.0;
              stops = own.1;
              first = λ f j stops.
                  first.first f ((urgency_order S made simulated.schedule).each f (stops_within S made simulated.schedule f k stops).0) (now_stops f k j stops);
            }

        of : (b : Bool) → signals.is_stopped r q.asked k ≡ b → (if b then slice_get noted_now k else None) ≡ Some by → IsFirstStopper S made F (k, by)
        of false e at_k = absurd (let z : ⊥ = cc in z)
        of true e at_k =
            let both = and_parts (is_candidate false S q s F k) (not (is_in F k)) (sym (stopped_known k l) ∙ e) in
            let out : ¬ In F k = λ j. (let z : true ≡ false = sym both.1 ∙ ap not (is_found F k j) in let y : ⊥ = cc in y) in
            let by_one = clock.others_stopped k out both.0 in
            let inside = (stops_within S made simulated.schedule by_one.0 k by_one.2).0 in
            from (first_noted r made.stops ss made.urgency k by (in_table k l) by_one.0 ((urgency_order S made simulated.schedule).each by_one.0 inside)
            (now_stops by_one.0 k by_one.1 by_one.2) at_k)

    pub stoppers_told : AllByRecursion (IsFirstStopper S made F) (events.all_stopped r q.asked noted_now made.urgency)
    unfolding events.all_stopped
    stoppers_told = each_pair (IsFirstStopper S made F) (events.stopper r q.asked noted_now) made.urgency first_stopper

    -- ---- all

    happens : (fired : Fired) → events.IsTold r made q.asked ss fired → Happens false S made q s fired E
    happens fired is = record {
      clock = subst (λ (ns : List ℕ). IsClock false S made q s ns E) (sym the_list) clock;
      stopped = ap (λ (ps : List (ℕ × ℕ)). map (λ p. p.0) ps) is.stopped ∙ stopped_told ∙ ap (λ (ns : List ℕ). stopped_in false S made q s ns) (sym the_list);
      stoppers = subst (λ (ns : List ℕ). AllByRecursion (IsFirstStopper S made ns) fired.stopped.items) (sym the_list)
          (subst (λ (ps : List (ℕ × ℕ)). AllByRecursion (IsFirstStopper S made F) ps) (sym is.stopped) stoppers_told);
      blocked = is.blocked ∙ blocked_told ∙ ap (λ (ns : List ℕ). blocked_in false S q s ns) (sym the_list);
      results = is.results ∙ results_told ∙ ap (λ (ns : List ℕ). results_in_turn S q (emptied S.kinds s) ns) (sym the_list);
    }
      where
        the_list : fired.list.items ≡ F
        the_list = is.list ∙ list_told

    pub clock_happens : (fired : Fired) (after : List Bits) → IsStepAt n vs made q ss fired after → IsClockOf d made q s fired after
    unfolding design_scheme
    clock_happens fired after is = record {
      after = E;
      happens = happens fired is.told;
      fits = (clock_fed false S made q s together steady).end_fits;
      shows = subst (λ (us : List Bits). Shows (kinds_of (design_data d)) E us) (sym is.nexts) told.nexts;
    }

  -- ---- what a run of the net needs

  pub inputs_fit : HaveWidths n.inputs (inputs q)
  unfolding design_scheme
  inputs_fit =
      subst (λ (us : List ℕ). HaveWidths us (inputs q)) (sym simulated.carries.words.inputs)
      (subst (λ (is : List Bits). HaveWidths (input_widths S) is) (inputs_given S q ∙ sym (inputs_are d q shown.requests))
      (inputs_of_scheme S q (given S q) fit.requests))

  pub asked_few : length q.asked < 2 ^ 32
  asked_few = let l = asked_long d.elements q.asked q.args shown.requests in omega (arith, l, few_elements d)

  pub room_for : (f : Fired) → HasRoom (length d.elements) f → events.HasRoomFor made q.asked f
  room_for f room =
      let execution = once_long (length S.elements) made.execution (execution_order S made simulated.schedule).once (execution_order S made simulated.schedule).below in
      let urgency = once_long (length S.elements) made.urgency (urgency_order S made simulated.schedule).once (urgency_order S made simulated.schedule).below in
      let asked = asked_long d.elements q.asked q.args shown.requests in
      record {
        list = omega (arith, execution, count, room.list);
        stopped = omega (arith, urgency, count, room.stopped);
        blocked = omega (arith, asked, room.blocked);
        results = omega (arith, execution, count, room.results);
      }
