-- Asking a value method changes nothing else of a clock.
use Rattle.std.proofs.Common.{◌≡◌, ◌∙◌, ℕ, zero, suc, ◌⊎◌, inl, inr, Bool, true, false, cond, not, ◌&&◌, List, [], length, Option, Some, None, is_some, refl, sym, ap, ap₂}
use Rattle.std.proofs.lemmas.Bool.{and_right, both_ways, cases_Bool}
use Rattle.bsv_bits.specs.Words.{Bits}
use Rattle.bsv_prim.specs.declared.part.Part.{Part}
use Rattle.bsv_design.specs.declared.schedule.Schedule.{Schedule}
use Rattle.bsv_design.specs.scheme.Schemes.{Scheme, Asking, Called, Look, answers, seen, all_hold, all_open, ready, calls, taken_actions}
use Rattle.bsv_design.specs.scheme.Serial.{by_rank}
use Rattle.bsv_design.specs.scheme.States.{emptied}
use Rattle.bsv_design.specs.scheme.Traces.{Trace}
use Rattle.bsv_schedule.specs.relating.Elements.{relating}
use Rattle.bsv_guard.specs.Sound.{IsSound}
use Rattle.bsv_guard.proofs.Keeps.{sound_keeps}
use Rattle.bsv_clock.specs.Clocks.{may_fire}
use Rattle.bsv_clock.specs.Grounds.{IsScheduleOf}
use Rattle.bsv_clock.specs.Looks.{look_after}
use Rattle.bsv_clock.specs.Settling.{Doing, deed, deeds, fires, look_of, stops_in, is_stopped, decide, rounds, the_clock}
use Rattle.bsv_clock.specs.Values.{IsValueMethod, AskAlike, HappenAlike}
use Rattle.bsv_clock.proofs.Members.{any_same}
use Rattle.bsv_clock.proofs.Quiet.{is_a_value, value_method, quiet}
use Rattle.bsv_clock.proofs.Sight.{deeds_same}

value_or_not : (S : Scheme) (n : ℕ) → IsValueMethod S n ⊎ ¬ IsValueMethod S n
value_or_not S n = elim (cases_Bool ((relating S).value n)) [
  | inl e ↦ inl (value_method S n e)
  | inr e ↦ inr (λ h. both_ways ((relating S).value n) e (is_a_value S n h))
]

-- all but value methods do the same, and the calls are the same
record DoAlike (S : Scheme) (made : Schedule) (D E : Doing) : Type 0 where
  same_calls : deeds D made.execution ≡ deeds E made.execution
  same_others : (n : ℕ) → ¬ IsValueMethod S n → D n ≡ E n

module _ (g : Bool) (S : Scheme) (made : Schedule) (q r : Asking) (s : List Part) (sound : IsSound S) (scheduled : IsScheduleOf S made) (alike : AskAlike S q r) where
  same_seen : (n : ℕ) (a : Look) → seen S q n a ≡ seen S r n a
  unfolding seen
  same_seen n a = ap (λ (ws : List Bits). S.trace n (answers S.kinds a) ws) (alike.arguments n)

  same_ready : (n : ℕ) (a : Look) → ready g S q n a ≡ ready g S r n a
  unfolding ready
  same_ready n a = ap (λ (t : Trace). all_hold g t.demands && all_open g S.kinds a t.sites) (same_seen n a)

  same_made : (n : ℕ) (a : Look) → calls S q n a ≡ calls S r n a
  unfolding calls
  same_made n a = ap (λ (t : Trace). taken_actions t.sites) (same_seen n a)

  module _ (D E : Doing) (are : DoAlike S made D E) where
    same_look : look_of S made s D ≡ look_of S made s E
    unfolding look_of
    same_look = ap (look_after S.kinds (emptied S.kinds s)) are.same_calls

    same_stopped : (n : ℕ) → is_stopped made D n ≡ is_stopped made E n
    unfolding is_stopped
    same_stopped n =
        any_same (λ f. fires D f && stops_in made f n) (λ f. fires E f && stops_in made f n) made.urgency (λ f i. elim (value_or_not S f) [
          | inl v ↦ let none = (quiet S made sound scheduled).stops_none f n v in
              and_right (fires D f) (stops_in made f n) none ∙ sym (and_right (fires E f) (stops_in made f n) none)
          | inr m ↦ ap (λ (o : Option (List Called)). is_some o && stops_in made f n) (are.same_others f m)
        ])

    other_decided : (n : ℕ) → ¬ IsValueMethod S n → decide g S made q s D n ≡ decide g S made r s E n
    unfolding decide
    other_decided n m =
        ap (λ (look : Look). cond (may_fire S q n && ready g S q n look && not (is_stopped made D n)) (Some (by_rank S.kinds (calls S q n look))) None) same_look
        ∙ ap₂ (λ (b : Bool) (cs : List Called). cond b (Some (by_rank S.kinds cs)) None)
        (ap₂ (λ (a b : Bool). a && not b) (ap₂ (λ (a b : Bool). a && b) (alike.others n m) (same_ready n (look_of S made s E))) (same_stopped n))
        (same_made n (look_of S made s E))

    -- a value method makes no call, asked or not
    no_call : (p : Asking) (F : Doing) (n : ℕ) → IsValueMethod S n → deed (decide g S made p s F n) ≡ []
    unfolding decide by_rank
    no_call p F n v = of (may_fire S p n && ready g S p n (look_of S made s F) && not (is_stopped made F n))
      where
        of : (b : Bool) → deed (cond b (Some (by_rank S.kinds (calls S p n (look_of S made s F)))) None) ≡ []
        of true = ap (by_rank S.kinds) ((sound_keeps S sound).none_made n v.0 v.1 v.2 p (look_of S made s F))
        of false = refl

    same_deed : (n : ℕ) → deed (decide g S made q s D n) ≡ deed (decide g S made r s E n)
    same_deed n = elim (value_or_not S n) [
      | inl v ↦ no_call q D n v ∙ sym (no_call r E n v)
      | inr m ↦ ap deed (other_decided n m)
    ]

    decided_alike : DoAlike S made (decide g S made q s D) (decide g S made r s E)
    decided_alike = record {
      same_calls = deeds_same (decide g S made q s D) (decide g S made r s E) made.execution (λ n i. same_deed n);
      same_others = other_decided;
    }

  rounds_alike : (k : ℕ) → DoAlike S made (rounds g S made q s k) (rounds g S made r s k)
  rounds_alike zero = record { same_calls = deeds_same (rounds g S made q s zero) (rounds g S made r s zero) made.execution (λ n i. refl); same_others = λ n m. refl }
  rounds_alike (suc k) = decided_alike (rounds g S made q s k) (rounds g S made r s k) (rounds_alike k)

  pub happen_alike : HappenAlike g S made q r s
  unfolding the_clock
  happen_alike =
      let same = rounds_alike (suc (length S.elements)) in
      record { same_calls = same.same_calls; same_others = same.same_others }
