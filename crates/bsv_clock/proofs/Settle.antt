-- By urgency it settles what each element does: each decision rests on the more urgent elements alone, so there is one way
-- in which all are as decided, and it is found by deciding often enough anew.
use Rattle.std.proofs.Common.{◌≡◌, ◌∙◌, ℕ, zero, suc, ◌<◌, ◌≤◌, ◌⊎◌, inl, inr, Bool, true, false, cond, not, ◌&&◌, List, length, Option, Some, None, is_some, refl, sym, ap, ap₂, arith}
use Rattle.std.specs.Prelude.{slice_get}
use Rattle.std.proofs.lemmas.Bool.{both_ways, cases_lt}
use Rattle.std.proofs.lemmas.Option.{slice_get_past}
use Rattle.bsv_prim.specs.declared.part.Part.{Part}
use Rattle.bsv_design.specs.declared.schedule.Schedule.{Schedule}
use Rattle.bsv_design.specs.design.Bodies.{Target}
use Rattle.bsv_design.specs.scheme.Schemes.{Scheme, Outline, Asking, Called, ready, calls}
use Rattle.bsv_design.specs.scheme.Serial.{by_rank}
use Rattle.bsv_design.specs.scheme.States.{emptied}
use Rattle.bsv_graph.specs.Orders.{place_of}
use Rattle.bsv_guard.specs.ElementLaws.{ElementLaws, IsUse}
use Rattle.bsv_guard.proofs.Keeps.{sound_keeps}
use Rattle.bsv_guard.proofs.Lists.{all_at}
use Rattle.bsv_clock.specs.Clocks.{may_fire, may_fire_as}
use Rattle.bsv_clock.specs.Grounds.{IsLawful, IsScheduleOf}
use Rattle.bsv_clock.specs.Settling.{Doing, DoesWithin, DoAlikeBefore, RestsOnUrgent, SeesRestOnUrgent, IsSettled, deed, deeds, fires, look_of, stops_in, is_stopped, decide, rounds, the_clock}
use Rattle.bsv_clock.proofs.Members.{any_same, place_within, once_long}
use Rattle.bsv_clock.proofs.Sight.{AreUses, ranked_uses, look_same, same_sight}
use Rattle.bsv_clock.proofs.Stopping.{execution_order, urgency_order, feeds_before, stops_before}

-- what may fire is an element
pub may_within : (S : Scheme) (q : Asking) (n : ℕ) → may_fire S q n ≡ true → n < length S.elements
unfolding may_fire
may_within S q n h = of (cases_lt n (length S.elements))
  where
    of : (n < length S.elements) ⊎ (length S.elements ≤ n) → n < length S.elements
    of (inl l) = l
    of (inr l) = absurd (both_ways (may_fire S q n) (ap (may_fire_as q n) (slice_get_past S.elements n l)) h)

pub decided_none : (aggressive : Bool) (S : Scheme) (made : Schedule) (q : Asking) (s : List Part) (D : Doing) (n : ℕ) → length S.elements ≤ n → decide aggressive S made q s D n ≡ None
unfolding decide may_fire
decided_none g S made q s D n l =
    ap (λ (o : Option Outline). cond (may_fire_as q n o && ready g S q n (look_of S made s D) && not (is_stopped made D n)) (Some (by_rank S.kinds (calls S q n (look_of S made s D)))) None)
    (slice_get_past S.elements n l)

-- ---- the calls are of methods that elements use

decided_uses : (g : Bool) (S : Scheme) (made : Schedule) (q : Asking) (s : List Part) → ElementLaws S → (D : Doing) (n : ℕ) → AreUses S n (deed (decide g S made q s D n))
unfolding decide
decided_uses g S made q s laws D n = of (may_fire S q n && ready g S q n (look_of S made s D) && not (is_stopped made D n))
  where
    of : (b : Bool) → AreUses S n (deed (cond b (Some (by_rank S.kinds (calls S q n (look_of S made s D)))) None))
    of true = ranked_uses S laws q n (look_of S made s D)
    of false = tt

pub decided_within : (g : Bool) (S : Scheme) (made : Schedule) (q : Asking) (s : List Part) → ElementLaws S → (D : Doing) → DoesWithin S (decide g S made q s D)
decided_within g S made q s laws D n k c e = all_at (λ c. IsUse S n c.target) (deed (decide g S made q s D n)) (decided_uses g S made q s laws D n) k c e

pub settled_within : (g : Bool) (S : Scheme) (made : Schedule) (q : Asking) (s : List Part) → ElementLaws S → (D : Doing) → IsSettled g S made q s D → DoesWithin S D
settled_within g S made q s laws D settled n k c e =
    decided_within g S made q s laws D n k c (ap (λ (o : Option (List Called)). slice_get (deed o) k) (sym (settled n)) ∙ e)

rounds_within : (g : Bool) (S : Scheme) (made : Schedule) (q : Asking) (s : List Part) → ElementLaws S → (k : ℕ) → DoesWithin S (rounds g S made q s k)
rounds_within g S made q s laws zero n k c e = absurd (let h : ⊥ = cc in h)
rounds_within g S made q s laws (suc k) n i c e = decided_within g S made q s laws (rounds g S made q s k) n i c e

pub clock_within : (g : Bool) (S : Scheme) (made : Schedule) (q : Asking) (s : List Part) → IsLawful S → DoesWithin S (the_clock g S made q s)
unfolding the_clock
clock_within g S made q s lawful = rounds_within g S made q s (sound_keeps S lawful.sound) (suc (length S.elements))

-- ---- what rests on the more urgent elements

pub same_seen : (S : Scheme) (made : Schedule) → IsScheduleOf S made → SeesRestOnUrgent S made
same_seen S made scheduled D E n l d e same t u =
    same_sight S n t u D E d e made.execution
    (λ f i h. same f (feeds_before S made scheduled f n ((execution_order S made scheduled).below f i) l h))

same_look : (S : Scheme) (made : Schedule) → IsScheduleOf S made → (s : List Part) (D E : Doing) (n : ℕ) → n < length S.elements → DoesWithin S D → DoesWithin S E
    → DoAlikeBefore made n D E → (t : Target) → IsUse S n t → look_of S made s D t ≡ look_of S made s E t
unfolding look_of
same_look S made scheduled s D E n l d e same t u =
    look_same S.kinds (emptied S.kinds s) t (deeds D made.execution) (deeds E made.execution) (same_seen S made scheduled D E n l d e same t u)

module _ (g : Bool) (S : Scheme) (made : Schedule) (lawful : IsLawful S) (scheduled : IsScheduleOf S made) where
  laws : ElementLaws S
  laws = sound_keeps S lawful.sound

  same_stopped : (D E : Doing) (n : ℕ) → DoAlikeBefore made n D E → is_stopped made D n ≡ is_stopped made E n
  unfolding is_stopped
  same_stopped D E n same =
      any_same (λ f. fires D f && stops_in made f n) (λ f. fires E f && stops_in made f n) made.urgency (λ f i. one f (stops_in made f n) refl)
    where
      never : (a b : Bool) → (a && false) ≡ (b && false)
      never a b = grind arith

      one : (f : ℕ) (b : Bool) → stops_in made f n ≡ b → (fires D f && stops_in made f n) ≡ (fires E f && stops_in made f n)
      one f true h = ap (λ (o : Option (List Called)). is_some o && stops_in made f n) (same f (stops_before S made scheduled f n h))
      one f false h = ap (λ (b : Bool). fires D f && b) h ∙ (never (fires D f) (fires E f) ∙ sym (ap (λ (b : Bool). fires E f && b) h))

  pub same_decide : RestsOnUrgent g S made
  unfolding decide
  same_decide q s D E n l d e same =
      let local = laws.local g q n (look_of S made s D) (look_of S made s E) (same_look S made scheduled s D E n l d e same) in
      ap₂ (λ (b : Bool) (cs : List Called). cond b (Some (by_rank S.kinds cs)) None)
      (ap₂ (λ (r b : Bool). may_fire S q n && r && not b) local.same_ready (same_stopped D E n same))
      local.same_calls

  -- ---- one way in which all are as decided

  module _ (q : Asking) (s : List Part) where
    -- where no element stands, nothing fires
    none_beyond : (D E : Doing) → IsSettled g S made q s D → IsSettled g S made q s E → (n : ℕ) → length S.elements ≤ n → D n ≡ E n
    none_beyond D E d e n l = d n ∙ (decided_none g S made q s D n l ∙ sym (e n ∙ decided_none g S made q s E n l))

    one_below : (D E : Doing) → IsSettled g S made q s D → IsSettled g S made q s E → (k n : ℕ) → place_of made.urgency n < k → n < length S.elements → D n ≡ E n
    one_below D E d e zero n h l = absurd (omega arith)
    one_below D E d e (suc k) n h l =
        d n
        ∙ (same_decide q s D E n l (settled_within g S made q s laws D d) (settled_within g S made q s laws E e) (λ f before. elim (cases_lt f (length S.elements)) [
          | inl m ↦ one_below D E d e k f (omega arith) m
          | inr m ↦ none_beyond D E d e f m
        ])
        ∙ sym (e n))

    pub settled_one : (D E : Doing) → IsSettled g S made q s D → IsSettled g S made q s E → (n : ℕ) → D n ≡ E n
    settled_one D E d e n = elim (cases_lt n (length S.elements)) [
      | inl l ↦ one_below D E d e (suc (place_of made.urgency n)) n (omega arith) l
      | inr l ↦ none_beyond D E d e n l
    ]

    -- so many rounds do not change what is decided of the most urgent ones
    rounds_beyond : (k n : ℕ) → length S.elements ≤ n → rounds g S made q s k n ≡ None
    rounds_beyond zero n l = refl
    rounds_beyond (suc k) n l = decided_none g S made q s (rounds g S made q s k) n l

    stands : (k n : ℕ) → place_of made.urgency n < k → n < length S.elements → rounds g S made q s k n ≡ rounds g S made q s (suc k) n
    stands zero n h l = absurd (omega arith)
    stands (suc k) n h l =
        same_decide q s (rounds g S made q s k) (rounds g S made q s (suc k)) n l (rounds_within g S made q s laws k) (rounds_within g S made q s laws (suc k)) (λ f before. elim (cases_lt f (length S.elements)) [
          | inl m ↦ stands k f (omega arith) m
          | inr m ↦ rounds_beyond k f m ∙ sym (rounds_beyond (suc k) f m)
        ])

    place_below : (n : ℕ) → n < length S.elements → place_of made.urgency n < suc (length S.elements)
    place_below n l =
        let o = urgency_order S made scheduled in
        let long = once_long (length S.elements) made.urgency o.once o.below in
        let within = place_within made.urgency n (o.each n l) in
        omega arith

    pub clock_settles : IsSettled g S made q s (the_clock g S made q s)
    unfolding the_clock
    clock_settles n = elim (cases_lt n (length S.elements)) [
      | inl l ↦ stands (suc (length S.elements)) n (place_below n l) l
      | inr l ↦ rounds_beyond (suc (length S.elements)) n l ∙ sym (decided_none g S made q s (rounds g S made q s (suc (length S.elements))) n l)
    ]
