-- In each clock something happens: whatever the state and the requests, it can be told what a clock leaves.
use Rattle.std.proofs.Common.{◌≡◌, ◌∙◌, ◌⊎◌, inl, inr, ℕ, suc, ◌^◌, ◌<◌, ◌≤◌, Bool, true, false, not, ◌&&◌, cond, List, [], ◌∷◌, map, filter, length, Option, Some, None, refl, sym, ap, ap₂, subst, arith, length-append}
use Rattle.std.specs.Prelude.{Vec}
use Rattle.std.specs.List.{AllByRecursion}
use Rattle.std.specs.declared.alloc.Global.{Global}
use denote.RawPtr.{null_ptr}
use Rattle.std.proofs.lemmas.Bool.{and_parts}
use Rattle.bsv_bits.specs.Words.{Bits}
use Rattle.bsv_prim.specs.declared.part.Part.{Part}
use Rattle.bsv_design.specs.declared.fired.Fired.{Fired}
use Rattle.bsv_design.specs.declared.schedule.Schedule.{Schedule}
use Rattle.bsv_design.specs.scheme.Schemes.{Scheme, Asking, ready, value}
use Rattle.bsv_design.specs.scheme.Serial.{run_whole}
use Rattle.bsv_design.specs.scheme.States.{FitsKinds, emptied, plain}
use Rattle.bsv_graph.specs.Edges.{numbers_below}
use Rattle.bsv_graph.specs.Orders.{In, IsBefore}
use Rattle.bsv_schedule.specs.stopping.Firing.{StopsIn}
use Rattle.bsv_clock.specs.Clocks.{IsClock, is_asked, is_in, is_candidate}
use Rattle.bsv_clock.specs.Events.{Happens, IsFirstStopper, blocked_in, gives, results_in_turn, stopped_in}
use Rattle.bsv_clock.specs.Grounds.{BelongTogether, IsLawful, IsScheduleOf}
use Rattle.bsv_clock.specs.Looks.{clock_look}
use Rattle.bsv_clock.specs.Runs.{AllFit, Continues, Row}
use Rattle.bsv_clock.specs.Settling.{end_of, fired_in, fires, stops_in, the_clock}
use Rattle.bsv_clock.proofs.Clocks.{clock_fed, only_after, some_clock}
use Rattle.bsv_clock.proofs.Members.{found, is_found, kept_in, once_long}
use Rattle.bsv_clock.proofs.Steadily.{steady_scheme}
use Rattle.bsv_run.specs.Reports.{state_after}
use Rattle.bsv_clock.proofs.Stopping.{execution_order, stops_true, stops_within, true_stops, urgency_order}
use Rattle.bsv_graph.proofs.Below.{count_below}

-- ---- the first that passes

record First (p : ℕ → Bool) (us : List ℕ) : Type 0 where
  member : ℕ
  there : In us member
  passes : p member ≡ true
  first : (f : ℕ) → In us f → p f ≡ true → (f ≡ member) ⊎ IsBefore us member f

-- after one that does not pass
later : (p : ℕ → Bool) (u : ℕ) (us : List ℕ) (rest : First p us) → p u ≡ false → (g : ℕ) → In (u ∷ us) g → p g ≡ true → (g ≡ rest.member) ⊎ IsBefore (u ∷ us) rest.member g
later p u us rest e g (inl same) y = absurd (let other : p u ≡ true = ap p (sym same) ∙ y in let no_value : ⊥ = cc in no_value)
later p u us rest e g (inr k) y = elim (rest.first g k y) [ inl same ↦ inl same | inr b ↦ inr (inr b) ]

first_by : (p : ℕ → Bool) (u : ℕ) (us : List ℕ) (b : Bool) → p u ≡ b → ((f : ℕ) → In us f → p f ≡ true → First p us) → (f : ℕ) → In (u ∷ us) f → p f ≡ true → First p (u ∷ us)
first_by p u us true e further f i h = record {
  member = u;
  there = inl refl;
  passes = e;
  first = λ g k _. elim k [ inl same ↦ inl same | inr l ↦ inr (inl (refl, l)) ];
}
first_by p u us false e further f (inl same) h = absurd (let other : p u ≡ true = ap p (sym same) ∙ h in let no_value : ⊥ = cc in no_value)
first_by p u us false e further f (inr i) h =
    let rest = further f i h in
    record { member = rest.member; there = inr rest.there; passes = rest.passes; first = later p u us rest e }

first_in : (p : ℕ → Bool) (us : List ℕ) (f : ℕ) → In us f → p f ≡ true → First p us
first_in p [] f i h = absurd i
first_in p (u ∷ us) f i h = first_by p u us (p u) refl (first_in p us) f i h

-- ---- lists that there is room for

abbrev pub room : ℕ
room = 2 ^ 63

vec : {A : Type 0} (xs : List A) → length xs < room → Vec A Global
vec xs few = record { ptr = null_ptr; len = length xs; cap = length xs; alloc = record { memory = record { seal = tt } }; items = xs; ok = (refl, omega arith); small = few }

filter_long : (t : ℕ → Bool) (xs : List ℕ) → length (filter t xs) ≤ length xs
filter_long t [] = omega arith
filter_long t (x ∷ xs) = by (t x) (filter_long t xs)
  where
    by : (b : Bool) → length (filter t xs) ≤ length xs → length (cond b (x ∷ filter t xs) (filter t xs)) ≤ suc (length xs)
    by true h = omega (arith, h)
    by false h = omega (arith, h)

gives_one : (n : ℕ) (w : Option Bits) → length (gives n w) ≤ 1
gives_one n None = omega arith
gives_one n (Some w) = omega arith

results_long : (S : Scheme) (q : Asking) (ps : List Part) (ns : List ℕ) → length (results_in_turn S q ps ns) ≤ length ns
results_long S q ps [] = omega arith
results_long S q ps (n ∷ ns) =
    omega (arith, length-append (gives n (value S q n (plain ps))) (results_in_turn S q (run_whole S q n ps) ns), gives_one n (value S q n (plain ps)), results_long S q (run_whole S q n ps) ns)

pairs_long : (ps : List (ℕ × ℕ)) → length (map (λ p. p.0) ps) ≡ length ps
pairs_long [] = refl
pairs_long (p ∷ ps) = ap suc (pairs_long ps)

-- ---- a clock

module _ (aggressive : Bool) (S : Scheme) (made : Schedule) (q : Asking) (s : List Part) (together : BelongTogether S made q s) (few : length S.elements < room) where
  abbrev members : List ℕ
  members = fired_in made (the_clock aggressive S made q s)

  abbrev behind : List Part
  behind = end_of S made s (the_clock aggressive S made q s)

  clock : IsClock aggressive S made q s members behind
  clock = some_clock aggressive S made q s together (steady_scheme aggressive S together.lawful)

  pub after_fits : FitsKinds S.kinds behind
  after_fits = (clock_fed aggressive S made q s together (steady_scheme aggressive S together.lawful)).end_fits

  -- ---- who is stopped by whom

  abbrev stops : ℕ → ℕ → Bool
  stops n f = is_in members f && stops_in made f n

  stops_member : (n f : ℕ) → In members f → StopsIn S made f n → stops n f ≡ true
  stops_member n f i h = ap₂ (λ (a b : Bool). a && b) (is_found members f i) (true_stops S made together.schedule f n h)

  first_stopper : (n : ℕ) → ¬ In members n → is_candidate aggressive S q s members n ≡ true → (g : ℕ) × IsFirstStopper S made members (n, g)
  first_stopper n out ready =
      let some = clock.others_stopped n out ready in
      let urgent : (f : ℕ) → StopsIn S made f n → In made.urgency f = λ f h. (urgency_order S made together.schedule).each f (stops_within S made together.schedule f n h).0 in
      let first = first_in (stops n) made.urgency some.0 (urgent some.0 some.2) (stops_member n some.0 some.1 some.2) in
      let both = and_parts (is_in members first.member) (stops_in made first.member n) first.passes in (
        first.member,
        record {
          fires = found members first.member both.0;
          stops = stops_true S made together.schedule first.member n both.1;
          first = λ f i h. first.first f (urgent f h) (stops_member n f i h);
        },
      )

  record Pairs (xs : List ℕ) : Type 0 where
    pairs : List (ℕ × ℕ)
    firsts : map (λ p. p.0) pairs ≡ xs
    each : AllByRecursion (IsFirstStopper S made members) pairs

  pairs_of : (xs : List ℕ) → ((n : ℕ) → In xs n → ¬ In members n × (is_candidate aggressive S q s members n ≡ true)) → Pairs xs
  pairs_of [] h = record { pairs = []; firsts = refl; each = tt }
  pairs_of (x ∷ xs) h =
      let this = first_stopper x (h x (inl refl)).0 (h x (inl refl)).1 in
      let rest = pairs_of xs (λ n i. h n (inr i)) in
      record { pairs = (x, this.0) ∷ rest.pairs; firsts = ap (λ (ns : List ℕ). x ∷ ns) rest.firsts; each = (this.1, rest.each) }

  waiting : (n : ℕ) → In (stopped_in aggressive S made q s members) n → ¬ In members n × (is_candidate aggressive S q s members n ≡ true)
  waiting n i =
      let kept = kept_in (λ n. is_candidate aggressive S q s members n && not (is_in members n)) made.urgency n i in
      let both = and_parts (is_candidate aggressive S q s members n) (not (is_in members n)) kept.1 in (
        (λ inside. let here = is_found members n inside in let out = both.1 in let no_value : ⊥ = out_of (is_in members n) here out in no_value),
        both.0,
      )
    where
      out_of : (b : Bool) → b ≡ true → not b ≡ true → ⊥
      out_of true e f = cc
      out_of false e f = cc

  stopped : Pairs (stopped_in aggressive S made q s members)
  stopped = pairs_of (stopped_in aggressive S made q s members) waiting

  -- ---- there is room for all of it

  of_execution : (t : ℕ → Bool) → length (filter t made.execution) < room
  of_execution t =
      let order = execution_order S made together.schedule in
      omega (arith, filter_long t made.execution, once_long (length S.elements) made.execution order.once order.below, few)

  of_urgency : (t : ℕ → Bool) → length (filter t made.urgency) < room
  of_urgency t =
      let order = urgency_order S made together.schedule in
      omega (arith, filter_long t made.urgency, once_long (length S.elements) made.urgency order.once order.below, few)

  members_few : length members < room
  unfolding fired_in
  members_few = of_execution (fires (the_clock aggressive S made q s))

  stopped_few : length stopped.pairs < room
  stopped_few =
      let same = ap (λ (ns : List ℕ). length ns) stopped.firsts in
      omega (arith, same, pairs_long stopped.pairs, of_urgency (λ n. is_candidate aggressive S q s members n && not (is_in members n)))

  blocked_few : length (blocked_in aggressive S q s members) < room
  blocked_few =
      omega (arith, filter_long (λ n. is_asked q n && not (ready aggressive S q n (clock_look S q s members))) (numbers_below (length S.elements)), count_below (length S.elements), few)

  results_few : length (results_in_turn S q (emptied S.kinds s) members) < room
  results_few = omega (arith, results_long S q (emptied S.kinds s) members, members_few)

  -- ---- what happened

  pub told : Fired
  told = record {
    list = vec members members_few;
    stopped = vec stopped.pairs stopped_few;
    blocked = vec (blocked_in aggressive S q s members) blocked_few;
    results = vec (results_in_turn S q (emptied S.kinds s) members) results_few;
  }

  pub happens : Happens aggressive S made q s told behind
  unfolding vec told
  happens = record { clock = clock; stopped = stopped.firsts; stoppers = stopped.each; blocked = refl; results = refl }

-- ---- runs

-- from each state that fits there is a run for requests that fit
pub record Goes (aggressive : Bool) (S : Scheme) (made : Schedule) (s : List Part) (qs : List Asking) : Type 0 where
  pub rows : List Row
  pub continues : Continues aggressive S made s qs rows

pub some_run : (aggressive : Bool) (S : Scheme) (made : Schedule) → IsLawful S → IsScheduleOf S made → length S.elements < room → (s : List Part) (qs : List Asking) → FitsKinds S.kinds s → AllFit S qs
    → Goes aggressive S made s qs
some_run aggressive S made lawful scheduled few s [] fits all = record { rows = []; continues = tt }
some_run aggressive S made lawful scheduled few s (q ∷ qs) fits all =
    let together : BelongTogether S made q s = record { lawful = lawful; schedule = scheduled; fit = record { requests = all.0; parts = fits } } in
    let more = some_run aggressive S made lawful scheduled few (behind aggressive S made q s together few) qs (after_fits aggressive S made q s together few) all.1 in
    record {
      rows = record { fired = told aggressive S made q s together few; after = behind aggressive S made q s together few } ∷ more.rows;
      continues = (happens aggressive S made q s together few, more.continues);
    }

-- what fits stays so
pub rows_fit : (aggressive : Bool) (S : Scheme) (made : Schedule) → IsLawful S → IsScheduleOf S made → (s : List Part) (qs : List Asking) (rows : List Row) → FitsKinds S.kinds s → AllFit S qs
    → Continues aggressive S made s qs rows → FitsKinds S.kinds (state_after s rows)
rows_fit aggressive S made lawful scheduled s [] [] fits all h = fits
rows_fit aggressive S made lawful scheduled s [] (row ∷ rows) fits all h = absurd h
rows_fit aggressive S made lawful scheduled s (q ∷ qs) [] fits all h = absurd h
rows_fit aggressive S made lawful scheduled s (q ∷ qs) (row ∷ rows) fits all h =
    let together : BelongTogether S made q s = record { lawful = lawful; schedule = scheduled; fit = record { requests = all.0; parts = fits } } in
    let steady = steady_scheme aggressive S lawful in
    let after = only_after aggressive S made q s together steady row.fired.list.items row.after h.0.clock in
    rows_fit aggressive S made lawful scheduled row.after qs rows (subst (FitsKinds S.kinds) (sym after) (clock_fed aggressive S made q s together steady).end_fits) all.1 h.1
