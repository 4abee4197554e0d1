-- What the laws of a clock ask, of designs and of schemes that are alike.
use Rattle.std.proofs.Common.{◌≡◌, ◌∙◌, ℕ, zero, suc, true, List, [], ◌∷◌, Some, map, sym, ap, subst, inl, inr}
use Rattle.std.proofs.Math.Bool.{Bool-set}
use Rattle.std.proofs.Math.Logic.{∥∥₁_elim}
use Rattle.std.specs.Prelude.{IsTrue, length, slice_get, ◌&&◌, ◌==◌}
use Rattle.std.specs.List.{list_any}
use Rattle.std.proofs.lemmas.Bool.{eqb-true, and_parts}
use Rattle.bsv_prim.specs.declared.part.Part.{Part}
use Rattle.bsv_design.specs.declared.design.Design.{Design}
use Rattle.bsv_design.specs.declared.element.Element.{Element}
use Rattle.bsv_design.specs.declared.kind.Kind.{Kind}
use Rattle.bsv_design.specs.declared.schedule.Schedule.{Schedule}
use Rattle.bsv_design.specs.declared.attributes.Pair.{Pair}
use Rattle.bsv_design.specs.design.Designs.{IsDesign, IsRuleIn}
use Rattle.bsv_design.specs.design.Roles.{is_rule, is_value}
use Rattle.bsv_design.specs.scheme.Schemes.{Scheme, Outline, Asking, AreAlike, design_scheme, outline, ports_of, given}
use Rattle.bsv_design.specs.scheme.Seen.{design_data}
use Rattle.bsv_design.specs.scheme.States.{FitsKinds, AreWordsOf}
use Rattle.bsv_schedule.specs.relating.Elements.{relating, has_role, edges_of, is_ordering, is_urging, preempts, is_preempting}
use Rattle.bsv_schedule.specs.execution_order.Orders.{Executes}
use Rattle.bsv_schedule.specs.relating.Relating.{Relating, Agrees}
use Rattle.bsv_schedule.specs.stopping.Stops.{AreStops}
use Rattle.bsv_schedule.specs.urgency_order.Orders.{Urges}
use Rattle.bsv_schedule.specs.relating.Uses.{Among}
use Rattle.bsv_schedule.proofs.RelationsLemmas.{agrees_design}
use Rattle.bsv_schedule.proofs.UsesLemmas.{any_of}
use Rattle.bsv_guard.specs.ElementLaws.{DoTheSame}
use Rattle.bsv_guard.proofs.Alike.{alike}
use Rattle.bsv_guard.proofs.DesignFits.{design_is_fitting}
use Rattle.bsv_guard.proofs.DesignSound.{design_is_sound}
use Rattle.bsv_guard.proofs.Transport.{sound_alike, fitting_alike}
use Rattle.bsv_clock.specs.Grounds.{Fit, IsLawful, IsScheduleOf, KeepsRules, PreemptsNameRules}
use Rattle.bsv_clock.proofs.Propositions.{lawful_prop}

pub lawful_design : (d : Design) → KeepsRules (design_scheme (design_data d)) → IsLawful (design_scheme (design_data d))
lawful_design d rules =
    ∥∥₁_elim d.right (lawful_prop (design_scheme (design_data d)))
    (λ (right : IsDesign (design_data d)). record { sound = design_is_sound (design_data d) right; fitting = design_is_fitting (design_data d) right; rules = rules })

-- ---- rules

rule_there : (es : List Element) (n : ℕ) → IsRuleIn es n → has_role is_rule (slice_get (map (λ o. o.role) (map outline es)) n) ≡ true
rule_there es n r = found es n r.element r.at ∙ ap is_rule r.rule where
  found : (es : List Element) (n : ℕ) (e : Element) → slice_get es n ≡ Some e → has_role is_rule (slice_get (map (λ o. o.role) (map outline es)) n) ≡ is_rule e.role
  found [] n e at = absurd (let x : ⊥ = cc in x)
  found (x ∷ es) zero e at = let same : x ≡ e = cc in ap (λ (y : Element). is_rule y.role) same
  found (x ∷ es) (suc n) e at = found es n e at

abbrev IsPairOf : ℕ → ℕ → Pair → Type 0
IsPairOf a b p = (p.before ≡ a) × (p.after ≡ b)

names : (a b : ℕ) (p : Pair) → IsTrue (preempts a b p) → IsPairOf a b p
names a b p h =
    let x = and_parts (is_preempting p.attribute && (p.before == a)) (p.after == b) h in
    (eqb-true p.before a (and_parts (is_preempting p.attribute) (p.before == a) x.0).1, eqb-true p.after b x.1)

place_in : {X : Type 0} (xs : List X) (x : X) → Among xs x → (k : ℕ) × (slice_get xs k ≡ Some x)
place_in [] x h = absurd h
place_in (y ∷ xs) x (inl e) = (zero, ap Some (sym e))
place_in (y ∷ xs) x (inr h) = let k = place_in xs x h in (suc k.0, k.1)

pub named : (d : Design) → PreemptsNameRules (relating (design_scheme (design_data d)))
unfolding relating design_scheme
named d a b h =
    let p = any_of (preempts a b) d.pairs h in
    let is = names a b p.0 p.2 in
    let k = place_in d.pairs p.0 p.1 in
    let of : (n : ℕ) → (IsDesign (design_data d) → IsRuleIn d.elements n) → has_role is_rule (slice_get (map (λ o. o.role) (map outline d.elements)) n) ≡ true =
    λ n rule. ∥∥₁_elim d.right (Bool-set _ _) (λ (right : IsDesign (design_data d)). rule_there d.elements n (rule right)) in (
      of a (λ right. subst (IsRuleIn d.elements) is.0 (right.pairs k.0 p.0 k.1).0),
      of b (λ right. subst (IsRuleIn d.elements) is.1 (right.pairs k.0 p.0 k.1).1),
    )

-- ---- schemes that are alike

module _ (S T : Scheme) (al : AreAlike S T) where
  abbrev same : DoTheSame S T
  same = alike S T al

  pub lawful_alike : IsLawful S → IsLawful T
  lawful_alike ok = record {
    sound = sound_alike S T al ok.sound;
    fitting = fitting_alike S T al ok.fitting;
    rules = λ n. (same.rule_same n).0 (ok.rules n);
  }

  pub relating_alike : relating S ≡ relating T
  unfolding relating
  relating_alike = λ i. record {
    count = length (al.elements i);
    goes = λ a b. same.goes_same a b i;
    feeds = λ a b. same.feeds_same a b i;
    value = λ a. has_role is_value (slice_get (map (λ o. o.role) (al.elements i)) a);
    rule = λ a. has_role is_rule (slice_get (map (λ o. o.role) (al.elements i)) a);
    ordering = edges_of is_ordering (al.pairs i);
    urging = edges_of is_urging (al.pairs i);
    preempts = λ a b. list_any (preempts a b) (al.pairs i);
  }

  pub schedule_alike : (made : Schedule) → IsScheduleOf S made → IsScheduleOf T made
  schedule_alike made ok =
      let r = relating_alike in
      record {
        agrees = subst Agrees r ok.agrees;
        named = subst PreemptsNameRules r ok.named;
        executes = subst (λ (x : Relating). Executes x made.execution) r ok.executes;
        urges = subst (λ (x : Relating). Urges x made.urgency) r ok.urges;
        stops = subst (λ (x : Relating). AreStops x made.execution made.urgency made.stops) r ok.stops;
      }

  pub fit_alike : (q : Asking) (s : List Part) → Fit S q s → Fit T q s
  fit_alike q s ok = record {
    requests = λ n.
        subst (λ (es : List Outline). AreWordsOf (ports_of (slice_get es n)) (given T q n)) al.elements
        (subst (AreWordsOf (ports_of (slice_get S.elements n))) (same.given_same q n) (ok.requests n));
    parts = subst (λ (ks : List Kind). FitsKinds ks s) al.kinds ok.parts;
  }
