-- The scheme in which each element has certain arguments, whatever is given: where all that fire have what they are given, the
-- same clock is one of it.
use Rattle.std.proofs.Common.{◌≡◌, ◌∙◌, inl, inr, ℕ, Bool, true, false, not, ◌&&◌, ◌||◌, List, [], ◌∷◌, ◌++◌, Option, Some, None, map, refl, sym, ap, ap₂, subst}
use Rattle.std.specs.Prelude.{slice_get}
use Rattle.bsv_lemmas.proofs.Places.{mapped_at}
use Rattle.bsv_bits.specs.Words.{Bits, bit}
use Rattle.bsv_prim.specs.declared.part.Part.{Part}
use Rattle.bsv_design.specs.declared.schedule.Schedule.{Schedule}
use Rattle.bsv_design.specs.design.Roles.{is_rule, is_value}
use Rattle.bsv_design.specs.scheme.Relations.{break_the_rule, feeds, goes, no_answers, sites_of}
use Rattle.bsv_design.specs.scheme.Schemes.{Scheme, Outline, Asking, AreArgumentsOf, Called, Look, all_hold, all_open, answers, calls, filled, given, ports_of, ready, seen, taken_actions, value}
use Rattle.bsv_design.specs.scheme.Serial.{Serial, by_rank, calls_made, done, run_whole, turn}
use Rattle.bsv_design.specs.scheme.States.{AreWordsOf, after_calls, emptied, plain}
use Rattle.bsv_design.specs.scheme.Traces.{Site, Trace}
use Rattle.bsv_design.proofs.Elements.{length-filled, length-words}
use Rattle.bsv_graph.specs.Orders.{In}
use Rattle.bsv_guard.specs.Sound.{IsSound, Place, place}
use Rattle.bsv_guard.specs.Fitting.{IsFitting}
use Rattle.bsv_guard.proofs.Lists.{IsOf, item_of}
use Rattle.bsv_schedule.specs.relating.Elements.{relating}
use Rattle.bsv_clock.specs.Shows.{Given, TellsClock}
use Rattle.bsv_clock.specs.Clocks.{IsClock, is_asked, is_candidate, may_fire, may_fire_as}
use Rattle.bsv_clock.specs.Grounds.{Fit, IsLawful, IsScheduleOf, KeepsRules}
use Rattle.bsv_clock.specs.Looks.{calls_in_turn, clock_look, look_after}
use Rattle.bsv_net.specs.Unasked.{Arguments, MayBeArguments, TellsOthers, is_idle, is_idle_as, with_arguments}

-- ---- what is asked of a scheme

module _ (S : Scheme) (xs : Arguments) (fit : (n : ℕ) → AreWordsOf (ports_of (slice_get S.elements n)) (xs n)) where
  abbrev W : Scheme
  W = with_arguments S xs

  long : (n : ℕ) → AreArgumentsOf S n (xs n)
  long n = length-words (ports_of (slice_get S.elements n)) (xs n) (fit n)

  sound_with : IsSound S → IsSound W
  sound_with sound = record {
    uses = λ n r ws h. sound.uses n r (xs n) (long n);
    places = λ n q r vs ws g h. sound.places n q r (xs n) (xs n) (long n) (long n);
    exclusive = λ n r ws h. sound.exclusive n r (xs n) (long n);
    decided = λ n q r ws h agree. sound.decided n q r (xs n) (long n) agree;
    local = λ n q r ws h agree. sound.local n q r (xs n) (long n) agree;
    actions = λ n r ws h k x there. sound.actions n r (xs n) (long n) k x there;
    values = λ n o at is r ws h k x there. sound.values n o at is r (xs n) (long n) k x there;
  }

  fitting_with : IsFitting S → IsFitting W
  fitting_with fitting = record {
    methods = λ n t u. fitting.methods n t (record { index = u.index; is = u.is });
    calls_fit = λ n r ws h answered k x there. fitting.calls_fit n r (xs n) (fit n) answered k x there;
    result_fits = λ n r ws h answered w gave. fitting.result_fits n r (xs n) (fit n) answered w gave;
  }

  -- calls are where they are, whatever the arguments
  same_places : IsSound S → (n : ℕ) → map place (sites_of W n) ≡ map place (sites_of S n)
  same_places sound n =
      (sound.places n no_answers no_answers (xs n) (filled (ports_of (slice_get S.elements n)) []) (long n)
      (length-filled (ports_of (slice_get S.elements n)) [])).calls

  there_too : IsSound S → (n i : ℕ) (x : Site) → slice_get (sites_of W n) i ≡ Some x → IsOf place (sites_of S n) i (place x)
  there_too sound n i x there =
      item_of place (sites_of S n) i (place x)
      (ap (λ (ps : List Place). slice_get ps i) (sym (same_places sound n)) ∙ mapped_at place (sites_of W n) i x there)

  abbrev breaks_at : Place → Place → Bool
  breaks_at a b =
      break_the_rule S.kinds
      (record { target = a.target; action = a.action; taken = true; branches = a.branches; arguments = [] })
      (record { target = b.target; action = b.action; taken = true; branches = b.branches; arguments = [] })

  rules_with : IsSound S → KeepsRules S → KeepsRules W
  rules_with sound rules n i j x y breach =
      let a = there_too sound n i x breach.first in
      let b = there_too sound n j y breach.second in
      rules n i j a.item b.item (record {
        first = a.is;
        second = b.is;
        earlier = breach.earlier;
        breaks = ap₂ breaks_at a.gives b.gives ∙ breach.breaks;
      })

  pub lawful_with : IsLawful S → IsLawful W
  lawful_with lawful = record {
    sound = sound_with lawful.sound;
    fitting = fitting_with lawful.fitting;
    rules = rules_with lawful.sound lawful.rules;
  }

  pub schedule_with : (made : Schedule) → IsScheduleOf S made → IsScheduleOf W made
  unfolding relating goes feeds
  schedule_with made ok = record {
    agrees = ok.agrees;
    named = ok.named;
    executes = ok.executes;
    urges = ok.urges;
    stops = ok.stops;
  }

  pub fit_with : (q : Asking) (s : List Part) → Fit S q s → Fit W q s
  unfolding given
  fit_with q s ok = record { requests = ok.requests; parts = ok.parts }

-- ---- the clock

abbrev pub Gets : Scheme → Asking → Arguments → ℕ → Type 0
Gets S q xs n = xs n ≡ given S q n

module _ (S : Scheme) (q : Asking) (xs : Arguments) where
  abbrev V : Scheme
  V = with_arguments S xs

  -- an element that has what it is given does the same
  pub seen_with : (n : ℕ) → Gets S q xs n → (a : Look) → seen V q n a ≡ seen S q n a
  unfolding seen
  seen_with n gets a = ap (λ (ws : List Bits). S.trace n (answers S.kinds a) ws) gets

  pub ready_with : (g : Bool) (n : ℕ) → Gets S q xs n → (a : Look) → ready g V q n a ≡ ready g S q n a
  unfolding ready
  ready_with g n gets a = ap (λ (t : Trace). all_hold g t.demands && all_open g S.kinds a t.sites) (seen_with n gets a)

  pub value_with : (n : ℕ) → Gets S q xs n → (a : Look) → value V q n a ≡ value S q n a
  unfolding value
  value_with n gets a = ap (λ (t : Trace). t.result) (seen_with n gets a)

  calls_with : (n : ℕ) → Gets S q xs n → (a : Look) → calls V q n a ≡ calls S q n a
  unfolding calls
  calls_with n gets a = ap (λ (t : Trace). taken_actions t.sites) (seen_with n gets a)

  made_with : (n : ℕ) → Gets S q xs n → (ps : List Part) → calls_made V q n ps ≡ calls_made S q n ps
  made_with n gets ps = ap (by_rank S.kinds) (calls_with n gets (plain ps))

  run_with : (n : ℕ) → Gets S q xs n → (ps : List Part) → run_whole S q n ps ≡ run_whole V q n ps
  unfolding run_whole
  run_with n gets ps = ap (after_calls S.kinds ps) (sym (made_with n gets ps))

  serial_with : (g : Bool) {ps end : List Part} {ns : List ℕ} → ((n : ℕ) → In ns n → Gets S q xs n) → Serial g S q ps ns end → Serial g V q ps ns end
  serial_with g each done = done
  serial_with g {ps = ps} {end = end} each (turn {n = n} {ns = ns} is fresh rest) =
      turn (ready_with g n (each n (inl refl)) (plain ps) ∙ is) fresh
      (subst (λ (p : List Part). Serial g V q p ns end) (run_with n (each n (inl refl)) ps) (serial_with g (λ m i. each m (inr i)) rest))

  turns_with : (ns : List ℕ) → ((n : ℕ) → In ns n → Gets S q xs n) → (ps : List Part) → calls_in_turn V q ps ns ≡ calls_in_turn S q ps ns
  turns_with [] each ps = refl
  turns_with (n ∷ ns) each ps =
      ap₂ (λ (cs ds : List Called). cs ++ ds) (made_with n (each n (inl refl)) ps)
      (ap (λ (p : List Part). calls_in_turn V q p ns) (sym (run_with n (each n (inl refl)) ps))
      ∙ turns_with ns (λ m i. each m (inr i)) (run_whole S q n ps))

  pub look_with : (s : List Part) (fired : List ℕ) → ((n : ℕ) → In fired n → Gets S q xs n) → clock_look V q s fired ≡ clock_look S q s fired
  unfolding clock_look
  look_with s fired each = ap (look_after S.kinds (emptied S.kinds s)) (turns_with fired each (emptied S.kinds s))

  may_with : (n : ℕ) → may_fire V q n ≡ may_fire S q n
  unfolding may_fire
  may_with n = refl

  -- where all that may fire have what they are given
  module _ (each : (n : ℕ) → may_fire S q n ≡ true → Gets S q xs n) where
    candidate_with : (g : Bool) (s : List Part) (fired : List ℕ) → ((n : ℕ) → In fired n → Gets S q xs n) → (n : ℕ)
        → is_candidate g V q s fired n ≡ is_candidate g S q s fired n
    unfolding is_candidate
    candidate_with g s fired gets n =
        ap (λ (b : Bool). b && ready g V q n (clock_look V q s fired)) (may_with n) ∙ of (may_fire S q n) refl
      where
        of : (b : Bool) → may_fire S q n ≡ b → (b && ready g V q n (clock_look V q s fired)) ≡ (b && ready g S q n (clock_look S q s fired))
        of false e = refl
        of true e = ap (ready g V q n) (look_with s fired gets) ∙ ready_with g n (each n e) (clock_look S q s fired)

    module _ (g : Bool) (made : Schedule) (s : List Part) (fired : List ℕ) (after : List Part) (clock : IsClock g S made q s fired after) where
      pub fired_get : (n : ℕ) → In fired n → Gets S q xs n
      fired_get n i = each n (clock.may n i)

      pub look_is : clock_look V q s fired ≡ clock_look S q s fired
      look_is = look_with s fired fired_get

      pub clock_with : IsClock g V made q s fired after
      unfolding relating goes feeds
      clock_with = record {
        in_order = clock.in_order;
        may = λ n i. may_with n ∙ clock.may n i;
        serial = serial_with g fired_get clock.serial;
        in_look = λ n i. ap (ready g V q n) look_is ∙ (ready_with g n (fired_get n i) (clock_look S q s fired) ∙ clock.in_look n i);
        none_stopped = clock.none_stopped;
        others_stopped = λ n out h. clock.others_stopped n out (sym (candidate_with g s fired fired_get n) ∙ h);
      }

-- ---- what is told

busy : (q : Asking) (n : ℕ) (o : Option Outline) → may_fire_as q n o ≡ true → is_idle_as q n o ≡ false
busy q n None h = refl
busy q n (Some o) h = of (is_rule o.role) (is_value o.role) (is_asked q n) h
  where
    of : (a b c : Bool) → (a || c) ≡ true → not (a || (b || c)) ≡ false
    of true b c h = refl
    of false true c h = refl
    of false false c h = ap not h

-- what may fire is not idle
pub not_idle : (S : Scheme) (q : Asking) (n : ℕ) → may_fire S q n ≡ true → is_idle S q n ≡ false
unfolding may_fire is_idle
not_idle S q n h = busy q n (slice_get S.elements n) h

module _ (S : Scheme) (q : Asking) (xs : Arguments) (stand : MayBeArguments S q xs) where
  pub each_gets : (n : ℕ) → may_fire S q n ≡ true → Gets S q xs n
  each_gets n h = stand.others n (not_idle S q n h)

  module _ (g : Bool) (made : Schedule) (s : List Part) (fired : List ℕ) (after : List Part) (clock : IsClock g S made q s fired after) where
    same_look : clock_look (with_arguments S xs) q s fired ≡ clock_look S q s fired
    same_look = look_is S q xs each_gets g made s fired after clock

    same_ready : (n : ℕ) → Gets S q xs n → ready g (with_arguments S xs) q n (clock_look (with_arguments S xs) q s fired) ≡ ready g S q n (clock_look S q s fired)
    same_ready n gets = ap (ready g (with_arguments S xs) q n) same_look ∙ ready_with S q xs g n gets (clock_look S q s fired)

    same_value : (n : ℕ) → Gets S q xs n → value (with_arguments S xs) q n (clock_look (with_arguments S xs) q s fired) ≡ value S q n (clock_look S q s fired)
    same_value n gets = ap (value (with_arguments S xs) q n) same_look ∙ value_with S q xs n gets (clock_look S q s fired)

    -- what is told with these arguments is told of all that are not idle
    pub others_told : (given : Given) → TellsClock g (with_arguments S xs) q s fired after given → TellsOthers g S q s fired after given
    others_told given tells = record {
      fires = tells.elements.fires;
      readies = λ n l busy. tells.elements.readies n l ∙ ap (λ (b : Bool). Some (bit b)) (same_ready n (stand.others n busy));
      results = λ n w busy is gave. tells.elements.results n w (same_ready n (stand.others n busy) ∙ is) (same_value n (stand.others n busy) ∙ gave);
      nexts = tells.nexts;
    }

    -- and where each has what it is given, of all
    pub all_told : ((n : ℕ) → Gets S q xs n) → (given : Given) → TellsClock g (with_arguments S xs) q s fired after given → TellsClock g S q s fired after given
    all_told gets given tells = record {
      elements = record {
        fires = tells.elements.fires;
        readies = λ n l. tells.elements.readies n l ∙ ap (λ (b : Bool). Some (bit b)) (same_ready n (gets n));
        results = λ n w is gave. tells.elements.results n w (same_ready n (gets n) ∙ is) (same_value n (gets n) ∙ gave);
      };
      nexts = tells.nexts;
    }

-- what is given is among the words that may be there
pub given_may_be : (S : Scheme) (q : Asking) → ((n : ℕ) → AreWordsOf (ports_of (slice_get S.elements n)) (given S q n)) → MayBeArguments S q (given S q)
given_may_be S q fit = record { widths = fit; others = λ n h. refl }
