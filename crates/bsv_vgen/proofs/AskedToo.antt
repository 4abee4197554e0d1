-- A method that gives a value alone counts as asked in the module, asked or not. Asking all of them changes nothing else of
-- a clock.
use Rattle.std.proofs.Common.{◌≡◌, ◌∙◌, ◌<◌, ◌≤◌, ◌⊎◌, inl, inr, ℕ, Bool, true, false, not, List, [], ◌∷◌, Option, Some, None, is_some, refl, sym, ap, ap₂, subst, length, map, filter}
use Rattle.std.specs.Prelude.{slice_get, unwrap_or, ◌&&◌, ◌||◌}
use Rattle.std.proofs.lemmas.Bool.{both_ways, cases_lt, false_from_ne_true}
use Rattle.std.proofs.lemmas.Option.{slice_get_past, slice_get_within}
use Rattle.bsv_lemmas.proofs.Places.{mapped_at}
use Rattle.bsv_bits.specs.Words.{Bits, zero_word}
use Rattle.bsv_prim.specs.declared.part.Part.{Part}
use Rattle.bsv_design.specs.declared.element.Port.{Port}
use Rattle.bsv_design.specs.declared.schedule.Schedule.{Schedule}
use Rattle.bsv_design.specs.design.Roles.{is_rule, is_value}
use Rattle.bsv_design.specs.scheme.Schemes.{Scheme, Outline, Asking, Called, Look, all_hold, all_open, answers, filled, given, if_asked, ports_of, ready, seen, value}
use Rattle.bsv_design.specs.scheme.States.{AreWordsOf, after_calls, emptied}
use Rattle.bsv_design.specs.scheme.Traces.{Trace}
use Rattle.bsv_graph.specs.Edges.{numbers_below}
use Rattle.bsv_clock.specs.Clocks.{IsClock, is_in, is_asked, may_fire, may_fire_as}
use Rattle.bsv_clock.specs.Grounds.{BelongTogether, Fit, IsLawful, IsScheduleOf}
use Rattle.bsv_clock.specs.Looks.{calls_in_turn, clock_look, look_after}
use Rattle.bsv_clock.specs.Settling.{Doing, end_of, fired_in, fires, the_clock}
use Rattle.bsv_clock.specs.Steadiness.{IsSteady}
use Rattle.bsv_clock.specs.Values.{AskAlike, HappenAlike, IsValueMethod}
use Rattle.bsv_clock.proofs.Asked.{happen_alike}
use Rattle.bsv_clock.proofs.Clocks.{clock_run, one_after, one_fired, some_clock}
use Rattle.bsv_clock.proofs.Members.{found, in_kept, is_found, kept_in, not_found}
use Rattle.bsv_clock.proofs.Steadily.{steady_scheme}
use Rattle.bsv_net.specs.Unasked.{Arguments, MayBeArguments, is_idle, is_idle_as}
use Rattle.bsv_net.proofs.Numbers.{number_at}
use Rattle.bsv_clock.proofs.Quiet.{value_role}

-- ---- the requests

abbrev pub is_value_at : Option Outline → Bool
is_value_at None = false
is_value_at (Some o) = is_value o.role

-- the element is asked, or a method that gives a value alone
abbrev pub counts_as_asked : Scheme → Asking → ℕ → Bool
counts_as_asked S q n = is_value_at (slice_get S.elements n) || is_asked q n

-- the same requests, in which all methods are asked that give a value alone
abbrev pub asking_values : Scheme → Asking → Asking
asking_values S q = record {
  asked = map (counts_as_asked S q) (numbers_below (length S.elements));
  args = map (given S q) (numbers_below (length S.elements));
}

not_value : (S : Scheme) (n : ℕ) (o : Outline) → slice_get S.elements n ≡ Some o → ¬ IsValueMethod S n → is_value o.role ≡ false
not_value S n o there other = false_from_ne_true (is_value o.role) (λ h. other (o, there, value_role o.role h))

-- words that are given are as many as they are to be
filled_again : (ps : List Port) (ws : List Bits) → filled ps (filled ps ws) ≡ filled ps ws
filled_again [] ws = refl
filled_again (p ∷ ps) [] = ap (λ (vs : List Bits). zero_word p.width ∷ vs) (filled_again ps [])
filled_again (p ∷ ps) (w ∷ ws) = ap (λ (vs : List Bits). w ∷ vs) (filled_again ps ws)

-- what is given is given again where an element counts as asked, and 0 where it is not asked
given_again : (ps : List Port) (asked : Option Bool) (args : Option (List Bits)) (counts : Bool)
    → filled ps (if_asked (Some (counts || unwrap_or asked false)) (Some (filled ps (if_asked asked args)))) ≡ filled ps (if_asked asked args)
given_again ps asked args true = filled_again ps (if_asked asked args)
given_again ps None args false = refl
given_again ps (Some true) args false = filled_again ps (if_asked (Some true) args)
given_again ps (Some false) args false = refl

module _ (S : Scheme) (q : Asking) where
  abbrev r : Asking
  r = asking_values S q

  -- the words that requests give where these are asked and have these arguments
  abbrev filled_at : ℕ → Option Bool → Option (List Bits) → List Bits
  filled_at n asked args = filled (ports_of (slice_get S.elements n)) (if_asked asked args)

  asked_there : (n : ℕ) → n < length S.elements → slice_get r.asked n ≡ Some (counts_as_asked S q n)
  asked_there n l = mapped_at (counts_as_asked S q) (numbers_below (length S.elements)) n n (number_at (length S.elements) n l)

  arguments_there : (n : ℕ) → n < length S.elements → slice_get r.args n ≡ Some (given S q n)
  arguments_there n l = mapped_at (given S q) (numbers_below (length S.elements)) n n (number_at (length S.elements) n l)

  pub is_asked_too : (n : ℕ) → n < length S.elements → is_asked r n ≡ counts_as_asked S q n
  is_asked_too n l = ap (λ (o : Option Bool). unwrap_or o false) (asked_there n l)

  pub given_too : (n : ℕ) → given S q n ≡ given S r n
  unfolding given
  given_too n = of (cases_lt n (length S.elements))
    where
      of : (n < length S.elements) ⊎ (length S.elements ≤ n)
          → filled_at n (slice_get q.asked n) (slice_get q.args n) ≡ filled_at n (slice_get r.asked n) (slice_get r.args n)
      of (inl l) =
          sym (ap₂ (filled_at n) (asked_there n l) (arguments_there n l)
          ∙ given_again (ports_of (slice_get S.elements n)) (slice_get q.asked n) (slice_get q.args n) (is_value_at (slice_get S.elements n)))
      of (inr m) =
          let none = slice_get_past S.elements n m in
          ap (λ (o : Option Outline). filled (ports_of o) (if_asked (slice_get q.asked n) (slice_get q.args n))) none
          ∙ sym (ap (λ (o : Option Outline). filled (ports_of o) (if_asked (slice_get r.asked n) (slice_get r.args n))) none)

  may_too : (n : ℕ) → ¬ IsValueMethod S n → may_fire S q n ≡ may_fire S r n
  unfolding may_fire
  may_too n other = of (slice_get S.elements n) refl
    where
      of : (o : Option Outline) → slice_get S.elements n ≡ o → may_fire_as q n o ≡ may_fire_as r n o
      of None e = refl
      of (Some o) e =
          ap (λ (b : Bool). is_rule o.role || b)
          (sym (is_asked_too n (slice_get_within S.elements n o e)
          ∙ (ap (λ (x : Option Outline). is_value_at x || is_asked q n) e
          ∙ ap (λ (b : Bool). b || is_asked q n) (not_value S n o e other))))

  -- the same methods are idle
  idle_as : (n : ℕ) (o : Option Outline) → slice_get S.elements n ≡ o → is_idle_as r n o ≡ is_idle_as q n o
  idle_as n None there = refl
  idle_as n (Some o) there =
      ap (λ (b : Bool). not (is_rule o.role || (is_value o.role || b)))
      (is_asked_too n (slice_get_within S.elements n o there) ∙ ap (λ (x : Option Outline). is_value_at x || is_asked q n) there)
      ∙ once (is_value o.role) (is_asked q n)
    where
      once : (v a : Bool) → not (is_rule o.role || (v || (v || a))) ≡ not (is_rule o.role || (v || a))
      once true a = refl
      once false a = refl

  pub idle_too : (n : ℕ) → is_idle S r n ≡ is_idle S q n
  unfolding is_idle
  idle_too n = idle_as n (slice_get S.elements n) refl

  -- and the same words may be at the arguments
  pub stand_too : (xs : Arguments) → MayBeArguments S q xs → MayBeArguments S r xs
  stand_too xs stand = record {
    widths = stand.widths;
    others = λ n busy. stand.others n (sym (idle_too n) ∙ busy) ∙ given_too n;
  }

  pub ask_alike : AskAlike S q r
  ask_alike = record { arguments = given_too; others = may_too }

  pub fit_too : (s : List Part) → Fit S q s → Fit S r s
  fit_too s fit = record {
    requests = λ n. subst (λ (ws : List Bits). AreWordsOf (ports_of (slice_get S.elements n)) ws) (given_too n) (fit.requests n);
    parts = fit.parts;
  }

  -- ---- what an element does

  seen_too : (n : ℕ) (look : Look) → seen S r n look ≡ seen S q n look
  unfolding seen
  seen_too n look = ap (λ (ws : List Bits). S.trace n (answers S.kinds look) ws) (sym (given_too n))

  pub ready_too : (g : Bool) (n : ℕ) (look : Look) → ready g S r n look ≡ ready g S q n look
  unfolding ready
  ready_too g n look = ap (λ (t : Trace). all_hold g t.demands && all_open g S.kinds look t.sites) (seen_too n look)

  pub value_too : (n : ℕ) (look : Look) → value S r n look ≡ value S q n look
  unfolding value
  value_too n look = ap (λ (t : Trace). t.result) (seen_too n look)

-- ---- the clock

-- what two tests keep that agree on a number
kept_alike : (t u : ℕ → Bool) (xs : List ℕ) (n : ℕ) → t n ≡ u n → is_in (filter t xs) n ≡ is_in (filter u xs) n
kept_alike t u xs n same = of (is_in (filter t xs) n) refl
  where
    of : (b : Bool) → is_in (filter t xs) n ≡ b → is_in (filter t xs) n ≡ is_in (filter u xs) n
    of true h =
        let k = kept_in t xs n (found (filter t xs) n h) in
        h ∙ sym (is_found (filter u xs) n (in_kept u xs n k.0 (sym same ∙ k.1)))
    of false h =
        h ∙ sym (not_found (filter u xs) n (λ i.
        let k = kept_in u xs n i in
        both_ways (is_in (filter t xs) n) h (is_found (filter t xs) n (in_kept t xs n k.0 (same ∙ k.1)))))

-- the clock in which they are asked too
pub record ClockToo (g : Bool) (S : Scheme) (made : Schedule) (q : Asking) (s : List Part) (fired : List ℕ) (after : List Part) : Type 0 where
  pub others : List ℕ
  pub clock : IsClock g S made (asking_values S q) s others after
  pub look : clock_look S (asking_values S q) s others ≡ clock_look S q s fired
  pub fires : (n : ℕ) → ¬ IsValueMethod S n → is_in others n ≡ is_in fired n

module _ (g : Bool) (S : Scheme) (made : Schedule) (lawful : IsLawful S) (scheduled : IsScheduleOf S made)
    (q : Asking) (s : List Part) (fit : Fit S q s)
    (fired : List ℕ) (after : List Part) (clock : IsClock g S made q s fired after) where
  abbrev p : Asking
  p = asking_values S q

  together : BelongTogether S made q s
  together = record { lawful = lawful; schedule = scheduled; fit = fit }

  together_too : BelongTogether S made p s
  together_too = record { lawful = lawful; schedule = scheduled; fit = fit_too S q s fit }

  steady : IsSteady g S
  steady = steady_scheme g S lawful

  alike : HappenAlike g S made q p s
  alike = happen_alike g S made q p s lawful.sound scheduled (ask_alike S q)

  abbrev D : Doing
  D = the_clock g S made q s

  abbrev E : Doing
  E = the_clock g S made p s

  fired_is : fired ≡ fired_in made D
  fired_is = one_fired g S made q s together steady fired (fired_in made D) after (end_of S made s D) clock (some_clock g S made q s together steady)

  after_is : after ≡ end_of S made s D
  after_is = one_after g S made q s together steady fired (fired_in made D) after (end_of S made s D) clock (some_clock g S made q s together steady)

  end_too : end_of S made s E ≡ after
  unfolding end_of
  end_too = ap (after_calls S.kinds (emptied S.kinds s)) (sym alike.same_calls) ∙ sym after_is

  calls_too : calls_in_turn S p (emptied S.kinds s) (fired_in made E) ≡ calls_in_turn S q (emptied S.kinds s) fired
  calls_too =
      (clock_run g S made p s together_too steady).calls
      ∙ (sym alike.same_calls
      ∙ (sym (clock_run g S made q s together steady).calls
      ∙ ap (calls_in_turn S q (emptied S.kinds s)) (sym fired_is)))

  look_too : clock_look S p s (fired_in made E) ≡ clock_look S q s fired
  unfolding clock_look
  look_too = ap (look_after S.kinds (emptied S.kinds s)) calls_too

  fires_too : (n : ℕ) → ¬ IsValueMethod S n → is_in (fired_in made E) n ≡ is_in fired n
  unfolding fired_in
  fires_too n other =
      kept_alike (fires E) (fires D) made.execution n (ap (λ (o : Option (List Called)). is_some o) (sym (alike.same_others n other)))
      ∙ ap (λ (ns : List ℕ). is_in ns n) (sym fired_is)

  pub clock_too : ClockToo g S made q s fired after
  clock_too = record {
    others = fired_in made E;
    clock = subst (λ (end : List Part). IsClock g S made p s (fired_in made E) end) end_too (some_clock g S made p s together_too steady);
    look = look_too;
    fires = fires_too;
  }
