-- Which element stops which, by the orders of a schedule and by its lists.
use Rattle.std.proofs.Common.{◌≡◌, ◌∙◌, ℕ, ◌<◌, ◌≤◌, ◌⊎◌, inl, inr, true, false, ◌&&◌, List, [], ◌∷◌, length, Option, Some, sym, ap, subst, arith}
use Rattle.std.specs.Prelude.{slice_get}
use Rattle.std.proofs.lemmas.Bool.{and_parts, and_cases, both_ways, cases_lt}
use Rattle.std.proofs.lemmas.Option.{slice_get_past}
use Rattle.bsv_design.specs.declared.schedule.Schedule.{Schedule}
use Rattle.bsv_design.specs.scheme.Relations.{feeds}
use Rattle.bsv_design.specs.scheme.Schemes.{Scheme}
use Rattle.bsv_schedule.specs.relating.Elements.{relating}
use Rattle.bsv_graph.specs.Orders.{In, IsOrderOf, place_of}
use Rattle.bsv_schedule.specs.stopping.Stops.{Picks, Ordered}
use Rattle.bsv_graph.proofs.EdgeLemmas.{within_all}
use Rattle.bsv_graph.proofs.OrderedLemmas.{before_in}
use Rattle.bsv_schedule.proofs.OrderLaws.{ordered_holds}
use Rattle.bsv_schedule.specs.stopping.Firing.{StopsIn}
use Rattle.bsv_clock.specs.Clocks.{is_in}
use Rattle.bsv_clock.specs.Grounds.{IsScheduleOf}
use Rattle.bsv_clock.specs.Settling.{Doing, fires, or_no_numbers, stops_in, is_stopped}
use Rattle.bsv_clock.proofs.Members.{found, is_found, some_passes, none_passes}

-- ---- what a list picks

pub picked : (P : ℕ → Type 0) (us xs : List ℕ) (n : ℕ) → Picks P us xs → In xs n → P n
picked P [] xs n h i = absurd (subst (λ (ys : List ℕ). In ys n) h i)
picked P (u ∷ us) xs n (inl h) i = of (subst (λ (ys : List ℕ). In ys n) h.1.1 i) (picked P us h.1.0 n h.1.2)
  where
    of : In (u ∷ h.1.0) n → (In h.1.0 n → P n) → P n
    of (inl e) _ = subst P (sym e) h.0
    of (inr k) rest = rest k
picked P (u ∷ us) xs n (inr h) i = picked P us xs n h.1 i

pub picks : (P : ℕ → Type 0) (us xs : List ℕ) (n : ℕ) → Picks P us xs → In us n → P n → In xs n
picks P [] xs n h i p = absurd i
picks P (u ∷ us) xs n (inl h) (inl e) p = subst (λ (ys : List ℕ). In ys n) (sym h.1.1) (inl e)
picks P (u ∷ us) xs n (inl h) (inr i) p = subst (λ (ys : List ℕ). In ys n) (sym h.1.1) (inr (picks P us h.1.0 n h.1.2 i p))
picks P (u ∷ us) xs n (inr h) (inl e) p = absurd (h.0 (subst P e p))
picks P (u ∷ us) xs n (inr h) (inr i) p = picks P us xs n h.1 i p

-- ---- the orders of a schedule

module _ (S : Scheme) (made : Schedule) (scheduled : IsScheduleOf S made) where
  pub ordered : Ordered (relating S) made.execution made.urgency
  ordered = ordered_holds (relating S) made.execution made.urgency scheduled.agrees scheduled.executes.order scheduled.urges.order

  pub execution_order : IsOrderOf (length S.elements) made.execution
  unfolding relating
  execution_order = scheduled.executes.order.2.order

  pub urgency_order : IsOrderOf (length S.elements) made.urgency
  unfolding relating
  urgency_order = scheduled.urges.order.order

  pub feeds_before : (a b : ℕ) → a < length S.elements → b < length S.elements → feeds S a b ≡ true → place_of made.urgency a < place_of made.urgency b
  unfolding relating
  feeds_before a b l m h = ordered.feeds_before a b l m h

  pub stops_within : (a b : ℕ) → StopsIn S made a b → (a < length S.elements) × (b < length S.elements)
  unfolding relating
  stops_within a b (inl h) = let i = before_in made.urgency a b h.0 in (urgency_order.below a i.0, urgency_order.below b i.1)
  stops_within a b (inr h) = within_all (relating S).count (relating S).urging scheduled.agrees.urging a b (scheduled.agrees.preempts a b h)

  -- ---- the lists of a schedule

  abbrev ListOf : ℕ → List ℕ → Type 0
  ListOf f xs = (slice_get made.stops f ≡ Some xs) × Picks (StopsIn S made f) made.urgency xs

  list_of : (f : ℕ) → f < length S.elements → (xs : List ℕ) × ListOf f xs
  unfolding relating
  list_of f l = let k = scheduled.stops.each f l in (k.0, (k.1, k.2))

  stops_long : length made.stops ≡ length S.elements
  unfolding relating
  stops_long = scheduled.stops.count

  pub stops_true : (f n : ℕ) → stops_in made f n ≡ true → StopsIn S made f n
  unfolding stops_in
  stops_true f n h = of (cases_lt f (length S.elements))
    where
      of : (f < length S.elements) ⊎ (length S.elements ≤ f) → StopsIn S made f n
      of (inl l) =
          let k = list_of f l in
          picked (StopsIn S made f) made.urgency k.0 n k.1.1 (found k.0 n (ap (λ (o : Option (List ℕ)). is_in (or_no_numbers o) n) (sym k.1.0) ∙ h))
      of (inr l) =
          absurd (found [] n (ap (λ (o : Option (List ℕ)). is_in (or_no_numbers o) n) (sym (slice_get_past made.stops f (omega (arith, stops_long)))) ∙ h))

  pub true_stops : (f n : ℕ) → StopsIn S made f n → stops_in made f n ≡ true
  unfolding stops_in
  true_stops f n h =
      let l = stops_within f n h in
      let k = list_of f l.0 in
      ap (λ (o : Option (List ℕ)). is_in (or_no_numbers o) n) k.1.0
      ∙ is_found k.0 n (picks (StopsIn S made f) made.urgency k.0 n k.1.1 (urgency_order.each n l.1) h)

  pub stops_before : (f n : ℕ) → stops_in made f n ≡ true → place_of made.urgency f < place_of made.urgency n
  stops_before f n h = ordered.stops_before f n (stops_true f n h)

  -- ---- what is stopped

  pub stopper : (D : Doing) (n : ℕ) → is_stopped made D n ≡ true → (f : ℕ) × (fires D f ≡ true) × StopsIn S made f n
  unfolding is_stopped
  stopper D n h =
      let r = some_passes (λ f. fires D f && stops_in made f n) made.urgency h in
      let both = and_parts (fires D r.0) (stops_in made r.0 n) r.2 in
      (r.0, both.0, stops_true r.0 n both.1)

  pub none_stops : (D : Doing) (n : ℕ) → is_stopped made D n ≡ false → (f : ℕ) → fires D f ≡ true → ¬ StopsIn S made f n
  unfolding is_stopped
  none_stops D n h f y s =
      elim (and_cases (fires D f) (stops_in made f n) (none_passes (λ f. fires D f && stops_in made f n) made.urgency h f (urgency_order.each f (stops_within f n s).0))) [
        | inl e ↦ both_ways (fires D f) e y
        | inr e ↦ both_ways (stops_in made f n) e (true_stops f n s)
      ]
