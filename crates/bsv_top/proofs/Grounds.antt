-- What is accepted and can be laid out keeps the laws of clocks and of lines.
use Rattle.std.proofs.Common.{◌≡◌, ◌∙◌, ℕ, ◌^◌, ◌+◌, ◌<◌, List, [], ◌∷◌, map, length, refl, sym, subst, arith}
use Rattle.std.proofs.lemmas.List.{length-map}
use Rattle.std.proofs.Math.Bridge.{le_prop}
use Rattle.std.proofs.Math.Logic.{∥∥₁_elim}
use Rattle.std.proofs.lemmas.Bool.{ltb-true}
use Rattle.bsv_design.specs.declared.design.Design.{Design}
use Rattle.bsv_design.specs.declared.schedule.Schedule.{Schedule}
use Rattle.bsv_design.specs.design.Designs.{IsDesign}
use Rattle.bsv_design.specs.scheme.Schemes.{Scheme, Asking, Outline, AreAlike, design_scheme, outline}
use Rattle.bsv_tree.specs.meaning.Schemes.{tree_scheme}
use Rattle.bsv_design.specs.scheme.Seen.{design_data}
use Rattle.bsv_design.specs.scheme.States.{nothing_asked, opening}
use Rattle.bsv_tree.specs.tree.Trees.{TreeData}
use Rattle.bsv_design.proofs.Asked.{nothing_fits}
use Rattle.bsv_schedule.specs.execution_order.Orders.{Executes}
use Rattle.bsv_schedule.specs.relating.Relating.{Relating}
use Rattle.bsv_schedule.specs.stopping.Stops.{AreStops}
use Rattle.bsv_schedule.specs.urgency_order.Orders.{Urges}
use Rattle.bsv_guard.specs.Fitting.{RequestFits}
use Rattle.bsv_guard.proofs.Alike.{alike, alike_back}
use Rattle.bsv_trace.specs.Lines.{AreMethods, AsksFor}
use Rattle.bsv_trace.proofs.Readable.{line_fits, readable}
use Rattle.bsv_clock.specs.Grounds.{IsLawful, IsScheduleOf, KeepsRules}
use Rattle.bsv_clock.specs.Runs.{AllFit}
use Rattle.bsv_clock.proofs.Belonging as belonging
use Rattle.bsv_clock.proofs.OneRun.{opening_fits}
use Rattle.bsv_clock.proofs.Requests.{requests_fit}
use Rattle.bsv_flow.specs.Clocked.{IsWellClocked}
use Rattle.bsv_flow.specs.Schedulings.{IsScheduled, subject}
use Rattle.bsv_flow.proofs.ScheduledTrees.{obeys_scheduled}
use Rattle.bsv_flow.proofs.WellClocked.{well_clocked}
use Rattle.bsv_run.specs.Traces.{AreAsked, AreAskedToBad}
use Rattle.bsv_run.proofs.Happening.{room}
use Rattle.bsv_run.proofs.Named.{outlines_are}
use Rattle.bsv_schedule.proofs.RelationsLemmas.{agrees_design}

few_elements : (d : Design) → length d.elements < room
few_elements d =
    ∥∥₁_elim d.right le_prop
    (λ (right : IsDesign (design_data d)).
    let few = ltb-true (length d.elements) (2 ^ 32) right.few_elements in
    let fewer : length d.elements < room = omega (arith, few) in
    fewer)

module _ (tree : TreeData) (made : Schedule) (d : Design) (al : AreAlike (tree_scheme tree) (design_scheme (design_data d))) (scheduled : IsScheduled (subject tree) made) where
  abbrev S : Scheme
  S = tree_scheme tree

  abbrev T : Scheme
  T = design_scheme (design_data d)

  back : AreAlike T S
  back = alike_back S T al

  -- ---- the design

  pub rules_there : KeepsRules T
  rules_there n = ((alike S T al).rule_same n).0 (scheduled.kept n)

  pub scheduled_there : IsScheduleOf T made
  scheduled_there =
      let r = belonging.relating_alike S T al in
      record {
        agrees = agrees_design d;
        named = belonging.named d;
        executes = subst (λ (x : Relating). Executes x made.execution) r scheduled.ordered.executes;
        urges = subst (λ (x : Relating). Urges x made.urgency) r scheduled.ordered.urges;
        stops = subst (λ (x : Relating). AreStops x made.execution made.urgency made.stops) r scheduled.ordered.stops;
      }

  -- ---- the tree

  pub lawful_here : IsLawful S
  lawful_here = belonging.lawful_alike T S back (belonging.lawful_design d rules_there)

  pub scheduled_here : IsScheduleOf S made
  scheduled_here = belonging.schedule_alike T S back made scheduled_there

  pub clocked_here : IsWellClocked S made
  clocked_here = well_clocked S made lawful_here scheduled_here (obeys_scheduled tree d al made scheduled)

  outlines_here : map outline d.elements ≡ S.elements
  outlines_here = outlines_are d ∙ sym al.elements

  pub methods_here : AreMethods S.elements
  methods_here = subst AreMethods outlines_here (readable d)

  pub few_here : length S.elements < room
  few_here = subst (λ (os : List Outline). length os < room) outlines_here (omega (arith, length-map d.elements outline, few_elements d))

  -- what a line asks for fits
  pub asked_fits : (line : List ℕ) (q : Asking) → AsksFor S.elements line q → (n : ℕ) → RequestFits S q n
  asked_fits line q asks =
      let there = subst (λ (os : List Outline). AsksFor os line q) (sym outlines_here) asks in
      let fit = line_fits d.elements line q (readable d) (nothing_fits d (nothing_asked d.elements) refl) there in
      (belonging.fit_alike T S back q (opening T.kinds) (record { requests = requests_fit d q fit; parts = opening_fits T.kinds })).requests

  pub all_fit : (limit start : ℕ) (lines : List (List ℕ)) (qs : List Asking) → AreAsked limit S.elements start lines qs → AllFit S qs
  all_fit limit start [] [] h = tt
  all_fit limit start [] (q ∷ qs) h = absurd h
  all_fit limit start (line ∷ lines) [] h = absurd h
  all_fit limit start (line ∷ lines) (q ∷ qs) h = (asked_fits _ q h.0.asks, all_fit limit (start + length line) lines qs h.1)

  pub all_fit_to_bad : (limit start : ℕ) (lines : List (List ℕ)) (qs : List Asking) → AreAskedToBad limit S.elements start lines qs → AllFit S qs
  all_fit_to_bad limit start [] qs h = absurd h
  all_fit_to_bad limit start (line ∷ lines) [] h = tt
  all_fit_to_bad limit start (line ∷ lines) (q ∷ qs) h = (asked_fits _ q h.0.asks, all_fit_to_bad limit (start + length line) lines qs h.1)
