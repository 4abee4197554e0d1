-- In schemes that do the same, the same happens.
use Rattle.std.proofs.Common.{◌≡◌, ◌∙◌, ℕ, Bool, not, ◌&&◌, List, [], ◌∷◌, ◌++◌, length, refl, sym, ap, ap₂, subst}
use Rattle.std.specs.Prelude.{filter, slice_get}
use Rattle.std.specs.List.{AllByRecursion}
use Rattle.bsv_bits.specs.Words.{Bits}
use Rattle.bsv_prim.specs.declared.part.Part.{Part}
use Rattle.bsv_design.specs.declared.fired.Fired.{Fired}
use Rattle.bsv_design.specs.declared.kind.Kind.{Kind}
use Rattle.bsv_design.specs.declared.schedule.Schedule.{Schedule}
use Rattle.bsv_design.specs.scheme.Schemes.{Scheme, Outline, Asking, Called, AreAlike, ready}
use Rattle.bsv_design.specs.scheme.Serial.{Serial, by_rank, calls_made, run_whole}
use Rattle.bsv_design.specs.scheme.States.{emptied, plain}
use Rattle.bsv_graph.specs.Edges.{numbers_below}
use Rattle.bsv_schedule.specs.relating.Relating.{Relating}
use Rattle.bsv_schedule.specs.stopping.Stops.{Stops}
use Rattle.bsv_guard.specs.ElementLaws.{DoTheSame}
use Rattle.bsv_guard.proofs.Alike.{alike, alike_back}
use Rattle.bsv_schedule.specs.stopping.Firing.{StopsIn}
use Rattle.bsv_clock.specs.Clocks.{IsClock, is_in, is_asked, may_fire, may_fire_as, is_candidate}
use Rattle.bsv_clock.specs.Events.{IsFirstStopper, Happens, stopped_in, blocked_in, gives, results_in_turn}
use Rattle.bsv_clock.specs.Looks.{look_after, calls_in_turn, clock_look}
use Rattle.bsv_clock.proofs.Belonging.{relating_alike}
use Rattle.bsv_schedule.proofs.RelationsLemmas.{filter_same}

module _ (S T : Scheme) (al : AreAlike S T) where
  same : DoTheSame S T
  same = alike S T al

  stops_to : (calls_made : Schedule) (a b : ℕ) → StopsIn S calls_made a b → StopsIn T calls_made a b
  stops_to calls_made a b h = subst (λ (r : Relating). Stops r calls_made.execution calls_made.urgency a b) (relating_alike S T al) h

  -- ---- looks

  emptied_same : (s : List Part) → emptied S.kinds s ≡ emptied T.kinds s
  emptied_same s = ap (λ ks. emptied ks s) al.kinds

  made_same : (q : Asking) (n : ℕ) (ps : List Part) → calls_made S q n ps ≡ calls_made T q n ps
  made_same q n ps = ap₂ (λ (ks : List Kind) (cs : List Called). by_rank ks cs) al.kinds (same.calls_same q n (plain ps))

  turns_same : (q : Asking) (ps : List Part) (ns : List ℕ) → calls_in_turn S q ps ns ≡ calls_in_turn T q ps ns
  turns_same q ps [] = refl
  turns_same q ps (n ∷ ns) =
      ap₂ (λ (cs ds : List Called). cs ++ ds) (made_same q n ps)
      (turns_same q (run_whole S q n ps) ns ∙ ap (λ (end : List Part). calls_in_turn T q end ns) (same.run_same q n ps))

  pub look_same : (q : Asking) (s : List Part) (fired : List ℕ) → clock_look S q s fired ≡ clock_look T q s fired
  unfolding clock_look
  look_same q s fired =
      ap (look_after S.kinds (emptied S.kinds s)) (turns_same q (emptied S.kinds s) fired)
      ∙ ap (λ ks. look_after ks (emptied ks s) (calls_in_turn T q (emptied ks s) fired)) al.kinds

  pub ready_same : (g : Bool) (q : Asking) (s : List Part) (fired : List ℕ) (n : ℕ) → ready g S q n (clock_look S q s fired) ≡ ready g T q n (clock_look T q s fired)
  ready_same g q s fired n = ap (ready g S q n) (look_same q s fired) ∙ same.ready_same g q n (clock_look T q s fired)

  may_same : (q : Asking) (n : ℕ) → may_fire S q n ≡ may_fire T q n
  unfolding may_fire
  may_same q n = ap (λ (es : List Outline). may_fire_as q n (slice_get es n)) al.elements

  candidate_same : (g : Bool) (q : Asking) (s : List Part) (fired : List ℕ) (n : ℕ) → is_candidate g S q s fired n ≡ is_candidate g T q s fired n
  unfolding is_candidate
  candidate_same g q s fired n = ap₂ (λ (a b : Bool). a && b) (may_same q n) (ready_same g q s fired n)

  results_same : (q : Asking) (ps : List Part) (ns : List ℕ) → results_in_turn S q ps ns ≡ results_in_turn T q ps ns
  results_same q ps [] = refl
  results_same q ps (n ∷ ns) =
      ap₂ (λ (xs ys : List (ℕ × Bits)). xs ++ ys) (ap (gives n) (same.value_same q n (plain ps)))
      (results_same q (run_whole S q n ps) ns ∙ ap (λ (end : List Part). results_in_turn T q end ns) (same.run_same q n ps))

-- ---- the clock

pub clock_to : (g : Bool) (S T : Scheme) (calls_made : Schedule) (q : Asking) (s : List Part) (fired : List ℕ) (after : List Part) → AreAlike S T → IsClock g S calls_made q s fired after → IsClock g T calls_made q s fired after
clock_to g S T calls_made q s fired after al c =
    let back = alike_back S T al in
    record {
      in_order = c.in_order;
      may = λ n i. sym (may_same S T al q n) ∙ c.may n i;
      serial = subst (λ (ps : List Part). Serial g T q ps fired after) (emptied_same S T al s) (((same S T al).serial_same g q (emptied S.kinds s) after fired).0 c.serial);
      in_look = λ n i. sym (ready_same S T al g q s fired n) ∙ c.in_look n i;
      none_stopped = λ a b i j h. c.none_stopped a b i j (stops_to T S back calls_made a b h);
      others_stopped = λ n out h. let k = c.others_stopped n out (candidate_same S T al g q s fired n ∙ h) in (k.0, k.1, stops_to S T al calls_made k.0 n k.2);
    }

-- ---- what is told

stopper_to : (S T : Scheme) (calls_made : Schedule) (fired : List ℕ) (x : ℕ × ℕ) → AreAlike S T → IsFirstStopper S calls_made fired x → IsFirstStopper T calls_made fired x
stopper_to S T calls_made fired x al h = record {
  fires = h.fires;
  stops = stops_to S T al calls_made x.1 x.0 h.stops;
  first = λ f i k. h.first f i (stops_to T S (alike_back S T al) calls_made f x.0 k);
}

stoppers_to : (S T : Scheme) (calls_made : Schedule) (fired : List ℕ) (xs : List (ℕ × ℕ)) → AreAlike S T → AllByRecursion (IsFirstStopper S calls_made fired) xs → AllByRecursion (IsFirstStopper T calls_made fired) xs
stoppers_to S T calls_made fired [] al h = tt
stoppers_to S T calls_made fired (x ∷ xs) al h = (stopper_to S T calls_made fired x al h.0, stoppers_to S T calls_made fired xs al h.1)

stopped_same : (g : Bool) (S T : Scheme) (calls_made : Schedule) (q : Asking) (s : List Part) (fired : List ℕ) → AreAlike S T → stopped_in g S calls_made q s fired ≡ stopped_in g T calls_made q s fired
stopped_same g S T calls_made q s fired al =
    filter_same (λ n. is_candidate g S q s fired n && not (is_in fired n)) (λ n. is_candidate g T q s fired n && not (is_in fired n)) calls_made.urgency
    (λ n i. ap (λ (b : Bool). b && not (is_in fired n)) (candidate_same S T al g q s fired n))

blocked_same : (g : Bool) (S T : Scheme) (q : Asking) (s : List Part) (fired : List ℕ) → AreAlike S T → blocked_in g S q s fired ≡ blocked_in g T q s fired
blocked_same g S T q s fired al =
    filter_same (λ n. is_asked q n && not (ready g S q n (clock_look S q s fired))) (λ n. is_asked q n && not (ready g T q n (clock_look T q s fired))) (numbers_below (length S.elements))
    (λ n i. ap (λ (b : Bool). is_asked q n && not b) (ready_same S T al g q s fired n))
    ∙ ap (λ (es : List Outline). filter (λ n. is_asked q n && not (ready g T q n (clock_look T q s fired))) (numbers_below (length es))) al.elements

pub happens_to : (g : Bool) (S T : Scheme) (calls_made : Schedule) (q : Asking) (s : List Part) (fired : Fired) (after : List Part) → AreAlike S T → Happens g S calls_made q s fired after → Happens g T calls_made q s fired after
happens_to g S T calls_made q s fired after al h = record {
  clock = clock_to g S T calls_made q s fired.list.items after al h.clock;
  stopped = h.stopped ∙ stopped_same g S T calls_made q s fired.list.items al;
  stoppers = stoppers_to S T calls_made fired.list.items fired.stopped.items al h.stoppers;
  blocked = h.blocked ∙ blocked_same g S T q s fired.list.items al;
  results = h.results ∙ (results_same S T al q (emptied S.kinds s) fired.list.items ∙ ap (λ (ps : List Part). results_in_turn T q ps fired.list.items) (emptied_same S T al s));
}
