-- Each element can be decided where the more urgent ones are.
use Rattle.std.proofs.Common.{◌≡◌, ◌∙◌, ℕ, ◌<◌, Bool, true, false, List, [], ◌∷◌, ◌++◌, Option, Some, None, refl, ap, subst, length}
use Rattle.std.proofs.Math.Bool.{Bool-set}
use Rattle.std.proofs.Math.Logic.{∥∥₁_elim}
use Rattle.std.specs.Prelude.{slice_get}
use Rattle.std.specs.List.{list_all}
use Rattle.bsv_lemmas.proofs.Places.{mapped_at}
use Rattle.bsv_prim.specs.declared.part.Part.{Part}
use Rattle.bsv_design.specs.declared.design.Design.{Design}
use Rattle.bsv_design.specs.declared.element.Element.{Element}
use Rattle.bsv_design.specs.declared.kind.Kind.{Kind}
use Rattle.bsv_design.specs.declared.schedule.Need.{Need}
use Rattle.bsv_design.specs.declared.schedule.Schedule.{Schedule}
use Rattle.bsv_design.specs.design.Bodies.{target}
use Rattle.bsv_design.specs.design.Designs.{HasWidths, IsDesign}
use Rattle.bsv_design.specs.design.Guards.{needs_from, needs_of}
use Rattle.bsv_design.specs.design.Roles.{gives_value}
use Rattle.bsv_design.specs.scheme.Schemes.{Scheme, Outline, Asking, design_scheme, filled, given, if_asked, kinds_of, ports_of}
use Rattle.bsv_design.specs.scheme.Seen.{design_data}
use Rattle.bsv_design.specs.scheme.States.{AreWordsOf, emptied}
use Rattle.bsv_design.specs.design.Widths.{widths_from, call_fits, condition_fits, port_fits, result_fits}
use Rattle.bsv_guard.proofs.Whole.{named_in}
use Rattle.bsv_clock.specs.Feeding.{IsFed}
use Rattle.bsv_clock.specs.Grounds.{Fit, IsLawful, IsScheduleOf}
use Rattle.bsv_clock.specs.Settling.{Doing, DoesWithin, look_of}
use Rattle.bsv_serial.specs.declared.calls_made.MadeCall.{MadeCall}
use Rattle.bsv_serial.specs.Bodies.{CanBeComputed}
use Rattle.bsv_serial.specs.Settings.{SettingData, CanRun}
use Rattle.bsv_serial.proofs.DecidedFront.{so_far}
use Rattle.bsv_serial.proofs.Joining.{made_on}
use Rattle.bsv_serial.proofs.LookingSoFar.{same_look_here, can_look_here}
use Rattle.bsv_serial.proofs.ReadyHere.{given_here, outline_there, use_of}
use Rattle.bsv_serial.proofs.Tagged.{tagged}

-- ---- widths, out of what a design keeps

or_no_widths : Option (List ℕ) → List ℕ
or_no_widths None = []
or_no_widths (Some ws) = ws

is_some_widths : Option (List ℕ) → Bool
is_some_widths None = false
is_some_widths (Some ws) = true

module _ (d : Design) (n : ℕ) (e : Element) (is : slice_get d.elements n ≡ Some e) where
  abbrev ks : List Kind
  ks = kinds_of (design_data d)

  abbrev found : Option (List ℕ)
  found = widths_from e.arguments ks e.calls [] e.nodes

  abbrev node_widths : List ℕ
  node_widths = or_no_widths found

  fact : (test : List ℕ → Bool) → ((w : HasWidths ks e) → test w.widths ≡ true) → test node_widths ≡ true
  unfolding or_no_widths
  fact test h =
      ∥∥₁_elim d.right (Bool-set _ _)
      (λ (right : IsDesign (design_data d)).
      let w = (right.elements n e is).fits in
      ap (λ (o : Option (List ℕ)). test (or_no_widths o)) w.nodes ∙ h w)

  there : (o : Option (List ℕ)) → is_some_widths o ≡ true → o ≡ Some (or_no_widths o)
  unfolding or_no_widths is_some_widths
  there None h = let z : ⊥ = cc in absurd z
  there (Some ws) h = refl

  some : is_some_widths found ≡ true
  unfolding is_some_widths
  some =
      ∥∥₁_elim d.right (Bool-set (is_some_widths found) true)
      (λ (right : IsDesign (design_data d)). ap is_some_widths (right.elements n e is).fits.nodes)

  pub has_widths : HasWidths ks e
  has_widths = record {
    widths = node_widths;
    nodes = there found some;
    calls = fact (λ ws. list_all (call_fits ks ws) e.calls) (λ w. w.calls);
    conditions = fact (λ ws. list_all (condition_fits ws) e.conditions) (λ w. w.conditions);
    result = fact (λ ws. result_fits ws (gives_value e.role) e.result) (λ w. w.result);
    ports = fact (λ ws. list_all port_fits e.arguments) (λ w. w.ports);
  }

-- ---- in a clock

module _ (d : Design) (made : Schedule) (lawful : IsLawful (design_scheme (design_data d))) (scheduled : IsScheduleOf (design_scheme (design_data d)) made)
    (q : Asking) (s : List Part) (fit : Fit (design_scheme (design_data d)) q s) (needs : List (List Need)) (are_needs : needs ≡ needs_of (kinds_of (design_data d)) d.elements)
    (long : length (emptied (kinds_of (design_data d)) s) ≡ length (kinds_of (design_data d)))
    (D : Doing) (within : DoesWithin (design_scheme (design_data d)) D) (fed : IsFed (design_scheme (design_data d)) made s D)
    (us rest : List ℕ) (n : ℕ) (split : made.urgency ≡ us ++ n ∷ rest)
    (lists : List (List MadeCall)) (are : (i : ℕ) → i < length (kinds_of (design_data d)) → made_on lists i ≡ tagged (kinds_of (design_data d)) i (so_far D us) 0 made.execution) where
  abbrev S : Scheme
  S = design_scheme (design_data d)

  abbrev pub ground : SettingData
  ground = record { kinds = kinds_of (design_data d); elements = d.elements; needs = needs; asking = q; state = emptied (kinds_of (design_data d)) s }

  module _ (e : Element) (is : slice_get d.elements n ≡ Some e) where
    given_fits : AreWordsOf e.arguments (filled e.arguments (if_asked (slice_get q.asked n) (slice_get q.args n)))
    given_fits =
        subst (AreWordsOf e.arguments) (given_here d q n e is)
        (subst (λ (o : Option Outline). AreWordsOf (ports_of o) (given S q n)) (outline_there d q n e is) (fit.requests n))

    computed : CanBeComputed (kinds_of (design_data d)) (emptied (kinds_of (design_data d)) s) lists e (filled e.arguments (if_asked (slice_get q.asked n) (slice_get q.args n)))
    unfolding design_scheme
    computed = record {
      widths = has_widths d n e is;
      given = given_fits;
      looks = λ k c at_k. can_look_here S made lawful scheduled s fit.parts D within fed us rest n split lists are long (target c) (use_of d q n e is k c at_k);
      seen = look_of S made s D;
      fits = fed.look_fits;
      same = λ k c at_k. same_look_here S made lawful scheduled s fit.parts D within fed us rest n split lists are (target c) (use_of d q n e is k c at_k);
    }

    pub can_run : CanRun ground lists n
    can_run = record {
      element = e;
      is = is;
      body = computed;
      needs = ap (λ (ns : List (List Need)). slice_get ns n) are_needs ∙ mapped_at (λ (x : Element). needs_from (kinds_of (design_data d)) 0 x.calls) d.elements n e is;
      named = named_in d n e (kinds_of (design_data d)) e.calls is refl refl;
    }
