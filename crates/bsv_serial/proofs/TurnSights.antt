-- An element that is run on its own: where no calls are calls_made yet, it looks at the parts as they are, and what it makes of them
-- is its run.
use Rattle.std.proofs.Common.{◌≡◌, ◌∙◌, ℕ, zero, suc, ◌<◌, Bool, true, false, List, [], Option, Some, None, refl, sym, ap, ap₂, subst, length, replicate}
use Rattle.std.proofs.Math.Logic.{∥∥₁_elim}
use Rattle.std.specs.Prelude.{slice_get}
use Rattle.std.specs.List.{AllByRecursion}
use Rattle.std.proofs.lemmas.List.{length-map, length-replicate}
use Rattle.std.proofs.lemmas.Option.{slice_get_within}
use Rattle.bsv_lemmas.proofs.Places.{all_from, mapped_at, item_there}
use Rattle.bsv_bits.specs.Words.{Bits}
use Rattle.bsv_prim.specs.Calls as prim
use Rattle.bsv_prim.specs.declared.part.Part.{Part}
use Rattle.bsv_design.specs.declared.design.Design.{Design}
use Rattle.bsv_design.specs.declared.design.NamedPart.{NamedPart}
use Rattle.bsv_design.specs.declared.element.Element.{Element}
use Rattle.bsv_design.specs.declared.kind.Kind.{Kind}
use Rattle.bsv_design.specs.declared.schedule.Need.{Need}
use Rattle.bsv_design.specs.design.Bodies.{Target, target}
use Rattle.bsv_design.specs.design.Designs.{IsDesign}
use Rattle.bsv_design.specs.design.Guards.{needs_from}
use Rattle.bsv_design.specs.parts.Kinds.{kind_table}
use Rattle.bsv_design.specs.scheme.Schemes.{Scheme, Outline, Asking, Called, Look, calls, design_scheme, filled, given, if_asked, kinds_of, ports_of, ready, taken_actions, value}
use Rattle.bsv_design.specs.scheme.Seen.{design_data}
use Rattle.bsv_design.specs.scheme.Serial.{by_rank, calls_made, run_whole}
use Rattle.bsv_design.specs.scheme.States.{AreWordsOf, FitsKinds, part_at, plain}
use Rattle.bsv_design.specs.scheme.Traces.{acts, kind_at}
use Rattle.bsv_guard.specs.ElementLaws.{ActsAlike, IsUse}
use Rattle.bsv_guard.specs.Fitting.{IsMethodOf, RequestFits}
use Rattle.bsv_guard.specs.Turns.{IsTurn, TurnLaws, calls_on}
use Rattle.bsv_guard.proofs.DesignFits.{request_fits}
use Rattle.bsv_guard.proofs.Keeps.{sound_keeps}
use Rattle.bsv_guard.proofs.Ranks.{all_by_rank}
use Rattle.bsv_guard.proofs.Turns.{sound_turns, all_on, fits_at, length-parts}
use Rattle.bsv_guard.proofs.Whole.{named_in}
use Rattle.bsv_clock.specs.Grounds.{IsLawful}
use Rattle.bsv_clock.proofs.Belonging.{lawful_design}
use Rattle.bsv_clock.proofs.CallLists.{all_map}
use Rattle.bsv_clock.proofs.Requests.{words_prop}
use Rattle.bsv_clock.proofs.Steadily.{looks_decide}
use Rattle.bsv_serial.specs.declared.calls_made.MadeCall.{MadeCall}
use Rattle.bsv_serial.specs.Applying.{AllCanTake, CanTake, all_after, behind}
use Rattle.bsv_serial.specs.AtHand.{kinds}
use Rattle.bsv_serial.specs.Bodies.{CanBeComputed, holds, words_under}
use Rattle.bsv_serial.specs.CallsMade.{as_calls}
use Rattle.bsv_serial.specs.Making.{with_sites}
use Rattle.bsv_serial.specs.Settings.{SettingData, CanRun, is_ready, sites_of, value_of, words_at}
use Rattle.bsv_serial.specs.Sights.{CanBeApplied, CanLook, CanLookAt, MayLook, after_seen, look_with, or_none, part_after}
use Rattle.bsv_serial.specs.Turning.{CanTurn}
use Rattle.bsv_serial.proofs.AppliedClock.{after_all, take_all}
use Rattle.bsv_serial.proofs.CanRunHere.{has_widths}
use Rattle.bsv_serial.proofs.Joining.{length-sites, made_on, sites_on}
use Rattle.bsv_serial.proofs.LookingSoFar.{orderly_applied}
use Rattle.bsv_serial.proofs.ReadyHere.{calls_here, given_here, outline_there, ready_here, use_of, value_here}
use Rattle.bsv_serial.proofs.Tagged.{added_all, added_on, as_calls_on}

-- ---- lists

none_there : (m i : ℕ) → made_on (replicate m []) i ≡ []
none_there zero i = refl
none_there (suc m) zero = refl
none_there (suc m) (suc i) = none_there m i

-- ---- requests

-- ---- one element

module _ (d : Design) (guards : List (List Need)) (n : ℕ) (s : List Part) (q : Asking) (can : CanTurn d guards n s q)
    (lists : List (List MadeCall)) (none : lists ≡ replicate (length d.parts) [])
    (e : Element) (is : slice_get d.elements n ≡ Some e) where
  abbrev ks : List Kind
  ks = kinds_of (design_data d)

  abbrev S : Scheme
  S = design_scheme (design_data d)

  abbrev pub ground : SettingData
  ground = record { kinds = ks; elements = d.elements; needs = guards; asking = q; state = s }

  lawful : IsLawful S
  lawful = lawful_design d can.rules

  turns : TurnLaws S
  turns = sound_turns S lawful.sound lawful.fitting

  parts : FitsKinds S.kinds s
  unfolding design_scheme
  parts = can.parts

  long : length s ≡ length ks
  long = length-parts ks s can.parts

  count : length lists ≡ length ks
  count = ap (λ (ms : List (List MadeCall)). length ms) none ∙ length-replicate (length d.parts) [] ∙ sym (length-map d.parts (λ (p : NamedPart). p.kind))

  request : RequestFits S q n
  request = ∥∥₁_elim d.right (words_prop (ports_of (slice_get S.elements n)) (given S q n)) (λ (right : IsDesign (design_data d)). request_fits (design_data d) right q can.requests n)

  -- ---- its looks

  none_on : (i : ℕ) → made_on lists i ≡ []
  none_on i = ap (λ (ms : List (List MadeCall)). made_on ms i) none ∙ none_there (length d.parts) i

  abbrev here : Look
  here = look_with ks s lists

  same_look : (t : Target) → here t ≡ plain s t
  unfolding look_with after_seen
  same_look t = ap (part_after (kind_at ks t) t.method (part_at s t.part)) (none_on t.part) ∙ unmoved (kind_at ks t)
    where
      unmoved : (o : Option Kind) → part_after o t.method (part_at s t.part) [] ≡ part_at s t.part
      unmoved None = refl
      unmoved (Some k) = refl

  alike : ActsAlike false S q n here (plain s)
  alike = looks_decide false S lawful q n here (plain s) (λ t u. same_look t)

  kind_there : (t : Target) → IsUse S n t → (kind : Kind) × (kind_at ks t ≡ Some kind) × (t.method < (kind_table kind).methods)
  unfolding design_scheme
  kind_there t u = cases (kind_at ks t) refl (lawful.fitting.methods n t u)
    where
      cases : (o : Option Kind) → kind_at ks t ≡ o → IsMethodOf o t.method → (kind : Kind) × (kind_at ks t ≡ Some kind) × (t.method < (kind_table kind).methods)
      cases None e m = absurd m
      cases (Some kind) e m = (kind, e, m)

  can_look : (t : Target) → IsUse S n t → CanLookAt ks s lists t
  can_look t u =
      let k = kind_there t u in
      record {
        there = subst (λ (m : ℕ). t.part < m) (sym long) (slice_get_within ks t.part k.0 k.1);
        may = subst (λ (o : Option Kind). MayLook o t.method (part_at s t.part) (made_on lists t.part)) (sym k.1)
            (subst (CanLook k.0 t.method (part_at s t.part)) (sym (none_on t.part))
            (record { method = k.2; part = fits_at ks s can.parts t.part k.0 k.1; methods = tt; calls = tt }));
      }

  -- ---- it can be computed

  abbrev arguments : List Bits
  arguments = filled e.arguments (if_asked (slice_get q.asked n) (slice_get q.args n))

  given_fits : AreWordsOf e.arguments arguments
  given_fits =
      subst (AreWordsOf e.arguments) (given_here d q n e is)
      (subst (λ (o : Option Outline). AreWordsOf (ports_of o) (given S q n)) (outline_there d q n e is) request)

  computed : CanBeComputed ks s lists e arguments
  unfolding design_scheme
  computed = record {
    widths = has_widths d n e is;
    given = given_fits;
    looks = λ k c at_k. can_look (target c) (use_of d q n e is k c at_k);
    seen = plain s;
    fits = turns.plain_fits s parts;
    same = λ k c at_k. same_look (target c);
  }

  needs_now : slice_get guards n ≡ Some (needs_from ks 0 e.calls)
  needs_now = ap (λ (ns : List (List Need)). slice_get ns n) can.needs ∙ mapped_at (λ (x : Element). needs_from ks 0 x.calls) d.elements n e is

  pub can_run : CanRun ground lists n
  can_run = record {
    element = e;
    is = is;
    body = computed;
    needs = needs_now;
    named = named_in d n e ks e.calls is refl refl;
  }

  pub ready_now : is_ready ground lists n ≡ ready false S q n (plain s)
  unfolding is_ready
  ready_now =
      ap (λ (o : Option Element). ready_in o) is
      ∙ ap (λ (o : Option (List Need)). holds ks here e (or_none o) arguments) needs_now
      ∙ ready_here d q n e is guards can.needs here ∙ alike.same_ready
    where
      ready_in : Option Element → Bool
      ready_in None = false
      ready_in (Some e) = holds ks here e (or_none (slice_get guards n)) (filled e.arguments (if_asked (slice_get q.asked n) (slice_get q.args n)))

  words_now : words_at ground lists n ≡ words_under ks here e arguments
  unfolding words_at
  words_now = ap (λ (o : Option Element). words_in o) is
    where
      words_in : Option Element → List Bits
      words_in None = []
      words_in (Some e) = words_under ks here e (filled e.arguments (if_asked (slice_get q.asked n) (slice_get q.args n)))

  -- ---- it is run

  module _ (is_open : ready false S q n (plain s) ≡ true) where
    is_turn : IsTurn false S q n s
    is_turn = record { rule = can.rules n; request = request; parts = parts; is_ready = is_open }

    pub fits_after : FitsKinds ks (run_whole S q n s)
    unfolding design_scheme
    fits_after = turns.still_fits false q n s is_turn

  module _ (ws : List Bits) (words : ws ≡ words_at ground lists n) where
    pub value_now : value_of ws (slice_get d.elements n) ≡ value S q n (plain s)
    value_now =
        ap₂ (λ (vs : List Bits) (o : Option Element). value_of vs o) (words ∙ words_now) is
        ∙ value_here d q n e is here ∙ alike.same_value

    calls_now : taken_actions (sites_of ks ws (slice_get d.elements n)) ≡ calls S q n (plain s)
    calls_now =
        ap₂ (λ (vs : List Bits) (o : Option Element). taken_actions (sites_of ks vs o)) (words ∙ words_now) is
        ∙ calls_here d q n e is here ∙ alike.same_calls

    abbrev next : List (List MadeCall)
    next = with_sites ks 0 lists (sites_of ks ws (slice_get d.elements n))

    next_long : length next ≡ length ks
    next_long = length-sites ks 0 0 (sites_of ks ws (slice_get d.elements n)) lists ∙ count

    next_on : (i : ℕ) → i < length ks → as_calls (made_on next i) ≡ calls_on i (calls_made S q n s)
    unfolding design_scheme
    next_on i l =
        ap (λ (ms : List MadeCall). as_calls ms)
        (sites_on ks 0 i (sites_of ks ws (slice_get d.elements n)) lists (subst (λ (k : ℕ). i < k) (sym count) l)
        ∙ ap₂ (λ (cs : List Called) (ms : List MadeCall). added_on ks i 0 cs ms) calls_now (none_on i)
        ∙ added_all ks i 0 (calls S q n (plain s)))
        ∙ as_calls_on ks i 0 (by_rank ks (calls S q n (plain s)))

    module _ (i : ℕ) (kind : Kind) (at_i : slice_get ks i ≡ Some kind) where
      acting : AllByRecursion (λ c. (kind_table kind).is_action c.method ≡ true) (calls_on i (calls_made S q n s))
      unfolding design_scheme
      acting =
          all_on (λ c. (kind_table kind).is_action c.method ≡ true) i (calls_made S q n s)
          (all_by_rank ks (λ c. c.target.part ≡ i → (kind_table kind).is_action c.target.method ≡ true) (calls S q n (plain s))
          (all_map (λ c. acts (kind_at ks c.target) c.target.method ≡ true) (λ c. c.target.part ≡ i → (kind_table kind).is_action c.target.method ≡ true)
          (λ c a p. sym (ap (λ (o : Option Kind). acts o c.target.method) (ap (slice_get ks) p ∙ at_i)) ∙ a) (calls S q n (plain s))
          (all_from (λ c. acts (kind_at ks c.target) c.target.method ≡ true) (calls S q n (plain s))
          (λ k c x. ((sound_keeps S lawful.sound).within q n (plain s) k c x).1))))

      one_after : behind kind (part_at s i) (made_on next i) ≡ part_at (run_whole S q n s) i
      unfolding design_scheme run_whole
      one_after =
          ap (prim.after_calls (kind_table kind) (part_at s i)) (next_on i (slice_get_within ks i kind at_i))
          ∙ sym (turns.each_part s parts (calls_made S q n s) i kind at_i)

    module _ (is_open : ready false S q n (plain s) ≡ true) where
      one_takes : (i : ℕ) (kind : Kind) → slice_get ks i ≡ Some kind → CanTake kind (part_at s i) (made_on next i)
      unfolding design_scheme
      one_takes i kind at_i = record {
        part = fits_at ks s can.parts i kind at_i;
        calls = subst (CanBeApplied (kind_table kind) (part_at s i)) (sym (next_on i (slice_get_within ks i kind at_i)))
            (orderly_applied (kind_table kind) (part_at s i) (calls_on i (calls_made S q n s)) (turns.in_turn false q n s (is_turn is_open) i kind at_i) (acting i kind at_i));
      }

      pub takes : AllCanTake ks s next
      takes = take_all ks s next long next_long one_takes

      pub after_is : all_after ks s next ≡ run_whole S q n s
      after_is = after_all ks s (run_whole S q n s) next long (length-parts ks (run_whole S q n s) (fits_after is_open)) next_long one_after

-- ---- as the code has it: the element is found, and these are the parts

module _ (d : Design) (guards : List (List Need)) (n : ℕ) (s : List Part) (q : Asking) (can : CanTurn d guards n s q)
    (lists : List (List MadeCall)) (none : lists ≡ replicate (length d.parts) []) (ps : List Part) (same : ps ≡ s) where
  found : (e : Element) × (slice_get d.elements n ≡ Some e)
  found = item_there d.elements n can.element

  abbrev on : List Part → SettingData
  on xs = record { kinds = kinds_of (design_data d); elements = d.elements; needs = guards; asking = q; state = xs }

  pub can_run_on : CanRun (on ps) lists n
  can_run_on = subst (λ (xs : List Part). CanRun (on xs) lists n) (sym same) (can_run d guards n s q can lists none found.0 found.1)

  pub ready_on : is_ready (on ps) lists n ≡ ready false (design_scheme (design_data d)) q n (plain s)
  ready_on = ap (λ (xs : List Part). is_ready (on xs) lists n) same ∙ ready_now d guards n s q can lists none found.0 found.1

  pub fits_on : ready false (design_scheme (design_data d)) q n (plain s) ≡ true → FitsKinds (kinds_of (design_data d)) (run_whole (design_scheme (design_data d)) q n s)
  fits_on is_open = fits_after d guards n s q can lists none found.0 found.1 is_open

  module _ (ws : List Bits) (words : ws ≡ words_at (on ps) lists n) where
    words_on : ws ≡ words_at (on s) lists n
    words_on = words ∙ ap (λ (xs : List Part). words_at (on xs) lists n) same

    pub value_on : value_of ws (slice_get d.elements n) ≡ value (design_scheme (design_data d)) q n (plain s)
    value_on = value_now d guards n s q can lists none found.0 found.1 ws words_on

    module _ (is_open : ready false (design_scheme (design_data d)) q n (plain s) ≡ true) (parts : List Part) (are : parts ≡ s)
        (named : List NamedPart) (are_named : named ≡ d.parts) (calls_made : List (List MadeCall))
        (are_made : calls_made ≡ with_sites (kinds_of (design_data d)) 0 lists (sites_of (kinds_of (design_data d)) ws (slice_get d.elements n))) where
      pub takes_on : AllCanTake (kinds named) parts calls_made
      takes_on =
          subst (λ (xs : List NamedPart). AllCanTake (kinds xs) parts calls_made) (sym are_named)
          (subst (λ (xs : List Part). AllCanTake (kinds d.parts) xs calls_made) (sym are)
          (subst (AllCanTake (kinds d.parts) s) (sym are_made) (takes d guards n s q can lists none found.0 found.1 ws words_on is_open)))

      pub after_on : all_after (kinds named) parts calls_made ≡ run_whole (design_scheme (design_data d)) q n s
      after_on =
          ap (λ (xs : List NamedPart). all_after (kinds xs) parts calls_made) are_named
          ∙ ap₂ (λ (xs : List Part) (ms : List (List MadeCall)). all_after (kinds d.parts) xs ms) are are_made
          ∙ after_is d guards n s q can lists none found.0 found.1 ws words_on is_open
