-- What is decided of the more urgent elements: each does what it does in the clock, and nothing of the others is known.
use Rattle.std.proofs.Common.{◌≡◌, ◌≢◌, ◌∙◌, ℕ, ◌+◌, ◌<◌, Bool, true, false, cond, ◌&&◌, ◌||◌, List, [], ◌∷◌, ◌++◌, Option, Some, None, is_some, refl, sym, ap, subst, arith, inl, inr, ◌⊎◌, length, ◌≤◌}
use Rattle.std.specs.Prelude.{◌==◌, if◌then◌else◌, slice_get, nat_lt}
use Rattle.std.specs.List.{list_any}
use Rattle.std.proofs.lemmas.Bool.Decides.{nat_tests}
use Rattle.std.proofs.lemmas.Bool.{and_parts, and_from, eqb-true}
use Rattle.bsv_prim.specs.declared.part.Part.{Part}
use Rattle.bsv_design.specs.declared.schedule.Schedule.{Schedule}
use Rattle.bsv_design.specs.scheme.Schemes.{Scheme, Asking, Called}
use Rattle.bsv_graph.specs.Orders.{In, IsOnce, IsBefore, place_of}
use Rattle.bsv_graph.proofs.LeastLemmas.{in_left, in_right, in_parts, once_apart}
use Rattle.bsv_guard.specs.ElementLaws.{IsUse}
use Rattle.bsv_clock.specs.Clocks.{is_in}
use Rattle.bsv_clock.specs.Events.{IsFirstStopper}
use Rattle.bsv_clock.specs.Grounds.{IsLawful, IsScheduleOf}
use Rattle.bsv_clock.specs.Settling.{Doing, DoAlikeBefore, DoesWithin, IsSettled, decide, deed, fired_in, fires, is_stopped, stops_in}
use Rattle.bsv_clock.proofs.Members.{found, is_found, not_found, kept_in, in_kept}
use Rattle.bsv_clock.proofs.Settle.{same_decide, decided_none}
use Rattle.bsv_clock.proofs.Stopping.{execution_order, urgency_order, stops_before, stops_true, true_stops, stops_within}
use Rattle.bsv_graph.proofs.Fronts.{in_front}

-- these elements do what they do in the clock, and no other one does anything
abbrev pub so_far : Doing → List ℕ → Doing
so_far D us n = cond (is_in us n) (D n) None

-- the first of them that fires and stops the element
abbrev pub stopper_in : Doing → Schedule → List ℕ → ℕ → Option ℕ
stopper_in D made [] n = None
stopper_in D made (f ∷ us) n = cond (fires D f && stops_in made f n) (Some f) (stopper_in D made us n)

abbrev pub or_else : Option ℕ → Option ℕ → Option ℕ
or_else None o = o
or_else (Some f) o = Some f

-- ---- lists

number_same : (n : ℕ) → (n == n) ≡ true
number_same n = grind (arith, nat_tests)

other_number : (m n : ℕ) → m ≢ n → (m == n) ≡ false
other_number m n e = grind (arith, nat_tests, e)

-- what comes before an element comes before it
place_next : (u n : ℕ) (us : List ℕ) → u ≢ n → place_of (u ∷ us) n ≡ 1 + place_of us n
place_next u n us o = ap (λ (b : Bool). if b then 0 else 1 + place_of us n) (other_number u n o)

front_step : (us rest : List ℕ) (n f u : ℕ) → u ≢ n → place_of (u ∷ us ++ n ∷ rest) f < place_of (u ∷ us ++ n ∷ rest) n
    → (place_of (us ++ n ∷ rest) f < place_of (us ++ n ∷ rest) n → In us f) → (b : Bool) → (u == f) ≡ b → In (u ∷ us) f
front_step us rest n f u apart l ih true e = inl (sym (eqb-true u f e))
front_step us rest n f u apart l ih false e =
    let there = place_next u n (us ++ n ∷ rest) apart in
    let here : place_of (u ∷ us ++ n ∷ rest) f ≡ 1 + place_of (us ++ n ∷ rest) f = ap (λ (b : Bool). if b then 0 else 1 + place_of (us ++ n ∷ rest) f) e in
    inr (ih (less (place_of (u ∷ us ++ n ∷ rest) f) (place_of (u ∷ us ++ n ∷ rest) n) (place_of (us ++ n ∷ rest) f) (place_of (us ++ n ∷ rest) n) l here there))
  where
    less : (a b c d : ℕ) → a < b → a ≡ 1 + c → b ≡ 1 + d → c < d
    less a b c d l x y = omega (arith, l, x, y)

-- ---- stoppers

module _ (D : Doing) (made : Schedule) where
  abbrev stops : ℕ → ℕ → Bool
  stops n f = fires D f && stops_in made f n

  pub stopper_snoc : (us : List ℕ) (f n : ℕ) → stopper_in D made (us ++ f ∷ []) n ≡ or_else (stopper_in D made us n) (cond (fires D f && stops_in made f n) (Some f) None)
  stopper_snoc [] f n = refl
  stopper_snoc (u ∷ us) f n = cases (stops n u) (stopper_snoc us f n)
    where
      cases : (b : Bool) → stopper_in D made (us ++ f ∷ []) n ≡ or_else (stopper_in D made us n) (cond (fires D f && stops_in made f n) (Some f) None)
          → cond b (Some u) (stopper_in D made (us ++ f ∷ []) n) ≡ or_else (cond b (Some u) (stopper_in D made us n)) (cond (fires D f && stops_in made f n) (Some f) None)
      cases true e = refl
      cases false e = e

  some_stopper : (us : List ℕ) (n : ℕ) → is_some (stopper_in D made us n) ≡ list_any (λ f. fires D f && stops_in made f n) us
  some_stopper [] n = refl
  some_stopper (u ∷ us) n = cases (stops n u) (some_stopper us n)
    where
      cases : (b : Bool) → is_some (stopper_in D made us n) ≡ list_any (λ f. fires D f && stops_in made f n) us
          → is_some (cond b (Some u) (stopper_in D made us n)) ≡ (b || list_any (λ f. fires D f && stops_in made f n) us)
      cases true e = refl
      cases false e = e

  pub stopper_is : (n : ℕ) → is_some (stopper_in D made made.urgency n) ≡ is_stopped made D n
  unfolding is_stopped
  stopper_is n = some_stopper made.urgency n

  none_more : (us ws : List ℕ) (n : ℕ) → ((f : ℕ) → In ws f → (fires D f && stops_in made f n) ≡ false) → stopper_in D made (us ++ ws) n ≡ stopper_in D made us n
  none_more [] [] n h = refl
  none_more [] (w ∷ ws) n h = ap (λ (b : Bool). cond b (Some w) (stopper_in D made ws n)) (h w (inl refl)) ∙ none_more [] ws n (λ f k. h f (inr k))
  none_more (u ∷ us) ws n h = ap (λ (o : Option ℕ). cond (stops n u) (Some u) o) (none_more us ws n h)

  record IsFirstOf (us : List ℕ) (n g : ℕ) : Type 0 where
    found_in : In us g
    passes_test : (fires D g && stops_in made g n) ≡ true
    first_of : (f : ℕ) → In us f → (fires D f && stops_in made f n) ≡ true → (f ≡ g) ⊎ IsBefore us g f

  first_step : (us : List ℕ) (n g u : ℕ) → (stopper_in D made us n ≡ Some g → IsFirstOf us n g) → (b : Bool) → stops n u ≡ b → cond b (Some u) (stopper_in D made us n) ≡ Some g → IsFirstOf (u ∷ us) n g
  first_step us n g u ih true e h =
      let same : u ≡ g = cc in
      record {
        found_in = inl (sym same);
        passes_test = subst (λ (x : ℕ). stops n x ≡ true) same e;
        first_of = λ f k t. (elim k [ inl x ↦ inl (x ∙ same) | inr y ↦ inr (inl (sym same, y)) ]);
      }
  first_step us n g u ih false e h =
      let r = ih h in
      record {
        found_in = inr r.found_in;
        passes_test = r.passes_test;
        first_of = λ f k t. (elim k [
          | inl x ↦ absurd (let n : true ≡ false = sym t ∙ ap (λ (y : ℕ). stops n y) x ∙ e in let z : ⊥ = cc in z)
          | inr y ↦ elim (r.first_of f y t) [ inl a ↦ inl a | inr b ↦ inr (inr b) ]
        ]);
      }

  first_stopper : (us : List ℕ) (n g : ℕ) → stopper_in D made us n ≡ Some g → IsFirstOf us n g
  first_stopper [] n g h = absurd (let z : ⊥ = cc in z)
  first_stopper (u ∷ us) n g h = first_step us n g u (first_stopper us n g) (stops n u) refl h

-- ---- in a schedule

module _ (S : Scheme) (made : Schedule) (lawful : IsLawful S) (scheduled : IsScheduleOf S made) (D : Doing) (within : DoesWithin S D) where
  pub so_far_within : (us : List ℕ) → DoesWithin S (so_far D us)
  so_far_within us n k c e = cases (is_in us n) e
    where
      cases : (b : Bool) → slice_get (deed (cond b (D n) None)) k ≡ Some c → IsUse S n c.target
      cases true h = within n k c h
      cases false h = absurd (let z : ⊥ = cc in z)

  pub is_first_stopper : (n g : ℕ) → stopper_in D made made.urgency n ≡ Some g → IsFirstStopper S made (fired_in made D) (n, g)
  unfolding fired_in
  is_first_stopper n g h =
      let r = first_stopper D made made.urgency n g h in
      let t = and_parts (fires D g) (stops_in made g n) r.passes_test in
      let below = (urgency_order S made scheduled).below g r.found_in in
      record {
        fires = in_kept (fires D) made.execution g ((execution_order S made scheduled).each g below) t.0;
        stops = stops_true S made scheduled g n t.1;
        first = λ f k i.
            (let w = stops_within S made scheduled f n i in
            r.first_of f ((urgency_order S made scheduled).each f w.0)
            (and_from (fires D f) (stops_in made f n) (kept_in (fires D) made.execution f k).1 (true_stops S made scheduled f n i)));
      }

  module _ (us rest : List ℕ) (n : ℕ) (split : made.urgency ≡ us ++ n ∷ rest) where
    once : IsOnce (us ++ n ∷ rest)
    once = subst IsOnce split (urgency_order S made scheduled).once

    stands : In made.urgency n
    stands = subst (λ xs. In xs n) (sym split) (in_right us (n ∷ rest) n (inl refl))

    pub below : n < length S.elements
    below = (urgency_order S made scheduled).below n stands

    pub not_yet : ¬ In us n
    not_yet k = once_apart us (n ∷ rest) n once k (inl refl)

    pub idle : so_far D us n ≡ None
    idle = ap (λ (b : Bool). cond b (D n) None) (not_found us n not_yet)

    pub alike_before : DoAlikeBefore made n (so_far D us) D
    alike_before f l =
        ap (λ (b : Bool). cond b (D f) None)
        (is_found us f (in_front us rest n f once (subst (λ xs. place_of xs f < place_of xs n) split l)))

    pub decided_so_far : (g : Bool) (q : Asking) (s : List Part) → IsSettled g S made q s D → decide g S made q s (so_far D us) n ≡ D n
    decided_so_far g q s settled = same_decide g S made lawful scheduled q s (so_far D us) D n below (so_far_within us) within alike_before ∙ sym (settled n)

    pub does_now : so_far D (us ++ n ∷ []) n ≡ D n
    does_now = ap (λ (b : Bool). cond b (D n) None) (is_found (us ++ n ∷ []) n (in_right us (n ∷ []) n (inl refl)))

    pub in_as_before : (m : ℕ) → m ≢ n → is_in (us ++ n ∷ []) m ≡ is_in us m
    in_as_before m other = same (is_in us m) refl
      where
        same : (b : Bool) → is_in us m ≡ b → is_in (us ++ n ∷ []) m ≡ is_in us m
        same true e = is_found (us ++ n ∷ []) m (in_left us (n ∷ []) m (found us m e)) ∙ sym e
        same false e = not_found (us ++ n ∷ []) m (λ k. elim (in_parts us (n ∷ []) m k) [
          | inl i ↦ (let z : true ≡ false = sym (is_found us m i) ∙ e in let y : ⊥ = cc in y)
          | inr i ↦ elim i [ inl x ↦ other x | inr y ↦ y ]
        ]) ∙ sym e

    pub in_now : is_in (us ++ n ∷ []) n ≡ true
    in_now = is_found (us ++ n ∷ []) n (in_right us (n ∷ []) n (inl refl))

    pub others_as_before : (m : ℕ) → m ≢ n → so_far D (us ++ n ∷ []) m ≡ so_far D us m
    others_as_before m other = ap (λ (b : Bool). cond b (D m) None) (in_as_before m other)

    pub stopper_so_far : stopper_in D made us n ≡ stopper_in D made made.urgency n
    stopper_so_far =
        sym (none_more D made us (n ∷ rest) n never) ∙ ap (λ (xs : List ℕ). stopper_in D made xs n) (sym split)
      where
        no_stop : (f : ℕ) → In (n ∷ rest) f → (b : Bool) → stops_in made f n ≡ b → (fires D f && b) ≡ false
        no_stop f k true e =
            absurd (once_apart us (n ∷ rest) f once (in_front us rest n f once (subst (λ xs. place_of xs f < place_of xs n) split (stops_before S made scheduled f n e))) k)
        no_stop f k false e = grind (arith)

        never : (f : ℕ) → In (n ∷ rest) f → (fires D f && stops_in made f n) ≡ false
        never f k = no_stop f k (stops_in made f n) refl

  -- where all are decided, all that is done is known
  pub all_decided : (g : Bool) (q : Asking) (s : List Part) → IsSettled g S made q s D → (n : ℕ) → so_far D made.urgency n ≡ D n
  all_decided g q s settled n = cases (nat_lt n (length S.elements)) refl
    where
      less : nat_lt n (length S.elements) ≡ true → n < length S.elements
      less e = grind (arith, nat_tests, e)

      most : nat_lt n (length S.elements) ≡ false → length S.elements ≤ n
      most e = grind (arith, nat_tests, e)

      nothing : (b : Bool) (o : Option (List Called)) → o ≡ None → cond b o None ≡ None
      nothing true o e = e
      nothing false o e = refl

      cases : (b : Bool) → nat_lt n (length S.elements) ≡ b → so_far D made.urgency n ≡ D n
      cases true e = ap (λ (b : Bool). cond b (D n) None) (is_found made.urgency n ((urgency_order S made scheduled).each n (less e)))
      cases false e =
          let none = settled n ∙ decided_none g S made q s D n (most e) in
          nothing (is_in made.urgency n) (D n) none ∙ sym none
