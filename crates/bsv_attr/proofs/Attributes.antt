-- An accepted schedule obeys all attributes.
use Rattle.std.proofs.Common.{◌≡◌, ◌∙◌, ℕ, Bool, true, false, cond, not, ◌&&◌, ◌||◌, List, [], ◌∷◌, map, Some, None, refl, sym, ap, subst, inl, inr, zero, suc, IsTrue, nat_eq}
use Rattle.std.specs.Prelude.{slice_get, Option, filter, is_some, option_map}
use Rattle.std.proofs.Math.Bool.{and-true, Bool-set}
use Rattle.std.proofs.Math.Logic.{∥∥₁_elim}
use Rattle.std.proofs.lemmas.Option.{same_Some, slice_get-map}
use Rattle.std.proofs.lemmas.Bool.{eq-eqb}
use Rattle.std.proofs.lemmas.Map.Keys.{any_passes_from_place}
use Rattle.bsv_bits.specs.Words.{Bits}
use Rattle.bsv_prim.specs.declared.part.Part.{Part}
use Rattle.bsv_design.specs.declared.design.Design.{Design}
use Rattle.bsv_design.specs.declared.design.NamedPart.{NamedPart}
use Rattle.bsv_design.specs.declared.element.Call.{Call}
use Rattle.bsv_design.specs.declared.element.Condition.{Condition}
use Rattle.bsv_design.specs.declared.element.Element.{Element}
use Rattle.bsv_design.specs.declared.element.Role.{Role}
use Rattle.bsv_design.specs.declared.kind.Kind.{Kind}
use Rattle.bsv_design.specs.declared.schedule.Schedule.{Schedule}
use Rattle.bsv_design.specs.declared.attributes.Attribute.{Attribute}
use Rattle.bsv_design.specs.declared.attributes.Attribute.TheVariants as attribute
use Rattle.bsv_design.specs.declared.attributes.Pair.{Pair}
use Rattle.bsv_design.specs.design.Bodies.{target, words}
use Rattle.bsv_design.specs.design.Designs.{DesignData, IsDesign, IsRuleIn}
use Rattle.bsv_design.specs.design.Roles.{is_rule}
use Rattle.bsv_design.specs.scheme.Seen.{design_data}
use Rattle.bsv_design.specs.scheme.Schemes.{Scheme, Look, Asking, design_scheme, kinds_of, outline, trace_of, answers, given, seen, ready, is_open, required, all_hold, all_open}
use Rattle.bsv_design.specs.scheme.Traces.{Trace, kind_at, site_at, demand_at, body_trace}
use Rattle.bsv_schedule.specs.execution_order.Orders.{ExecutionOrder}
use Rattle.bsv_graph.specs.Orders.{In, IsBefore}
use Rattle.bsv_schedule.specs.relating.Relating.{Relating, Agrees}
use Rattle.bsv_schedule.specs.stopping.Stops.{Stops, AreStops}
use Rattle.bsv_schedule.specs.urgency_order.Orders.{UrgencyOrder}
use Rattle.bsv_graph.specs.Walks.{HasEdge}
use Rattle.bsv_attr.specs.Asserting.{IsAccepted}
use Rattle.bsv_attr.specs.Calling.{condition_named, call_guarded, implicit_places}
use Rattle.bsv_attr.specs.Implicit.{NoneTrue, are_implicit}
use Rattle.bsv_schedule.specs.relating.Marks.{IsMarked, IsPaired}
use Rattle.bsv_clock.specs.Clocks.{IsClock, is_asked, is_candidate, may_fire, may_fire_as}
use Rattle.bsv_clock.specs.Looks.{clock_look}
use Rattle.bsv_attr.specs.Obeying.{own, Obeys}
use Rattle.bsv_schedule.specs.stopping.Firing.{StopsIn, OthersAreStopped}
use Rattle.bsv_schedule.specs.relating.Elements.{relating, edge_of, edges_of, is_ordering, is_urging, is_preempting, preempts}
use Rattle.bsv_attr.specs.Stopping.{ListStops}
use Rattle.bsv_attr.proofs.Elements.{implicit_is}
use Rattle.bsv_attr.proofs.Truths.{none_left, none_right}
use Rattle.bsv_graph.proofs.Fronts.{is_or_not}
use Rattle.bsv_design.proofs.Elements.{unguarded}
use Rattle.bsv_schedule.proofs.RelationsLemmas.{agrees_design}
use Rattle.bsv_clock.proofs.Stopping.{picked, picks}
use Rattle.bsv_graph.proofs.OrderedLemmas.{before_in}

-- ---- pairs as edges

one_edge : (these : Attribute → Bool) (p : Pair) (ps : List Pair) (a b : ℕ) (t : Bool)
    → HasEdge (edges_of these ps) a b → HasEdge (map edge_of (cond t (p ∷ filter (λ q. these q.attribute) ps) (filter (λ q. these q.attribute) ps))) a b
one_edge these p ps a b true h = inr h
one_edge these p ps a b false h = h

edge_at : (these : Attribute → Bool) (ps : List Pair) (k : ℕ) (p : Pair) → slice_get ps k ≡ Some p → these p.attribute ≡ true → HasEdge (edges_of these ps) p.before p.after
edge_at these [] k p at h = absurd cc
edge_at these (x ∷ ps) zero p at h =
    let same : x ≡ p = same_Some x p at in
    let here : HasEdge (edges_of these (p ∷ ps)) p.before p.after =
    subst (λ t. HasEdge (map edge_of (cond t (p ∷ filter (λ q. these q.attribute) ps) (filter (λ q. these q.attribute) ps))) p.before p.after) (sym h) (inl (refl, refl)) in
    subst (λ y. HasEdge (edges_of these (y ∷ ps)) p.before p.after) (sym same) here
edge_at these (x ∷ ps) (suc k) p at h = one_edge these x ps p.before p.after (these x.attribute) (edge_at these ps k p at h)

paired_edge : (these : Attribute → Bool) (ps : List Pair) (attribute : Attribute) (a b : ℕ) → these attribute ≡ true → IsPaired ps attribute a b → HasEdge (edges_of these ps) a b
paired_edge these ps attribute a b h p =
    subst (λ m. HasEdge (edges_of these ps) m b) p.before
    (subst (λ n. HasEdge (edges_of these ps) p.pair.before n) p.after
    (edge_at these ps p.place p.pair p.at (subst (λ t. these t ≡ true) (sym p.kind) h)))

names_pair : (p : Pair) (a b : ℕ) → p.attribute ≡ attribute.Preempts → p.before ≡ a → p.after ≡ b
    → preempts a b p ≡ true
names_pair p a b kind before after =
    ap (λ k. is_preempting k && nat_eq p.before a && nat_eq p.after b) kind
    ∙ (ap (λ t. t && nat_eq p.after b) (eq-eqb p.before a before) ∙ eq-eqb p.after b after)

paired_preempts : (S : Scheme) (a b : ℕ) → IsPaired S.pairs attribute.Preempts a b → IsTrue ((relating S).preempts a b)
unfolding relating
paired_preempts S a b p = any_passes_from_place (preempts a b) S.pairs p.place p.pair p.at (names_pair p.pair a b p.kind p.before p.after)

paired_ordering : (S : Scheme) (a b : ℕ) → IsPaired S.pairs attribute.ExecutionOrder a b → HasEdge (relating S).ordering a b
unfolding relating
paired_ordering S a b p = paired_edge is_ordering S.pairs attribute.ExecutionOrder a b refl p

paired_descending : (S : Scheme) (a b : ℕ) → IsPaired S.pairs attribute.DescendingUrgency a b → HasEdge (relating S).urging a b
unfolding relating
paired_descending S a b p = paired_edge is_urging S.pairs attribute.DescendingUrgency a b refl p

paired_preempting : (S : Scheme) (a b : ℕ) → IsPaired S.pairs attribute.Preempts a b → HasEdge (relating S).urging a b
unfolding relating
paired_preempting S a b p = paired_edge is_urging S.pairs attribute.Preempts a b refl p

-- ---- stops

-- what bsv_graph promises of the pairs
abbrev pub Urged : Type 0
Urged = (r : Relating) (xs : List ℕ) (a b : ℕ) → Agrees r → UrgencyOrder r xs → HasEdge r.urging a b → IsBefore xs a b

stops_before : (R : Relating) (execution urgency : List ℕ) (f r : ℕ) → Urged → Agrees R → UrgencyOrder R urgency → Stops R execution urgency f r → IsBefore urgency f r
stops_before R execution urgency f r law g u (inl h) = h.0
stops_before R execution urgency f r law g u (inr h) = law R urgency f r g u (g.preempts f r h)

-- what stops an element has it in its list
pub list_stops : (R : Relating) (s : Schedule) (f r : ℕ) → Urged → Agrees R → UrgencyOrder R s.urgency → AreStops R s.execution s.urgency s.stops
    → Stops R s.execution s.urgency f r → In s.urgency f × ListStops s.stops f r
list_stops R s f r law g u are h =
    let both = before_in s.urgency f r (stops_before R s.execution s.urgency f r law g u h) in
    let one = are.each f (u.order.below f both.0) in
    (both.0, record { stopped = one.0; at = one.1; has = picks (Stops R s.execution s.urgency f) s.urgency one.0 r one.2 both.1 h })

-- and what has it in its list stops it
pub stops_listed : (R : Relating) (s : Schedule) (f r : ℕ) → UrgencyOrder R s.urgency → AreStops R s.execution s.urgency s.stops
    → In s.urgency f × ListStops s.stops f r → Stops R s.execution s.urgency f r
stops_listed R s f r u are h =
    let one = are.each f (u.order.below f h.0) in
    let same : h.1.stopped ≡ one.0 = same_Some h.1.stopped one.0 (sym h.1.at ∙ one.1) in
    picked (Stops R s.execution s.urgency f) s.urgency one.0 r one.2 (subst (λ ys. In ys r) same h.1.has)

-- what nothing stops fires where it is ready
fires_where : (S : Scheme) (s : Schedule) (r : ℕ) → ((f : ℕ) → ¬ StopsIn S s f r) → (is_ready : ℕ → Bool) (fired : List ℕ)
    → OthersAreStopped S s is_ready fired → is_ready r ≡ true → In fired r
fires_where S s r never is_ready fired others h = elim (is_or_not fired r) [
  | inl i ↦ i
  | inr out ↦ let o = others r out h in absurd (never o.0 o.2)
]

-- and so does a rule in each clock in whose look it is ready
rule_fires : (g : Bool) (S : Scheme) (s : Schedule) (r : ℕ) (q : Asking) (st : List Part) (fired : List ℕ) (after : List Part)
    → ((f : ℕ) → ¬ StopsIn S s f r) → may_fire S q r ≡ true → IsClock g S s q st fired after
    → ready g S q r (clock_look S q st fired) ≡ true → In fired r
unfolding is_candidate
rule_fires g S s r q st fired after never may clock is =
    fires_where S s r never (is_candidate g S q st fired) fired clock.others_stopped
    (ap (λ b. b && ready g S q r (clock_look S q st fired)) may ∙ is)

-- a rule may fire, whatever is asked
rule_may : (es : List Element) (n : ℕ) → IsRuleIn es n → (q : Asking) → may_fire_as q n (slice_get (map outline es) n) ≡ true
rule_may es n r q = ap (may_fire_as q n) (slice_get-map outline es n ∙ ap (option_map outline) r.at) ∙ ap (λ (x : Role). is_rule x || is_asked q n) r.rule

-- a mark is one of a rule
marked_may : (d : Design) (fires : Bool) (r : ℕ) → IsMarked d.asserts fires r → (q : Asking) → may_fire (design_scheme (design_data d)) q r ≡ true
unfolding may_fire design_scheme
marked_may d fires r m q =
    ∥∥₁_elim d.right (Bool-set _ _)
    (λ (right : IsDesign (design_data d)). rule_may d.elements r (subst (IsRuleIn d.elements) m.is.rule (right.asserts m.place m.mark m.at)) q)

-- ---- readiness

not_true : (b : Bool) → ¬ (Some b ≡ Some true) → b ≡ false
not_true true h = absurd (h refl)
not_true false h = refl

-- no condition has a name: all are the element's own
all_own : (ws : List Bits) (cs : List Condition) → NoneTrue (map condition_named cs) → own (map (demand_at ws) cs) ≡ map (demand_at ws) cs
all_own ws [] none = refl
all_own ws (c ∷ cs) none =
    let bare : is_some c.implicit ≡ false = not_true (is_some c.implicit) (none 0) in
    let rest : own (map (demand_at ws) cs) ≡ map (demand_at ws) cs = all_own ws cs (λ j. none (suc j)) in
    ap (λ b. cond (not b) (demand_at ws c ∷ own (map (demand_at ws) cs)) (own (map (demand_at ws) cs))) bare ∙ ap (λ ds. demand_at ws c ∷ ds) rest

-- no call has a guard: all are open
open_all : (aggressive : Bool) (ps : List NamedPart) (look : Look) (ws : List Bits) (cs : List Call) → NoneTrue (map (call_guarded ps) cs)
    → all_open aggressive (map (λ p. p.kind) ps) look (map (site_at (map (λ p. p.kind) ps) ws) cs) ≡ true
open_all aggressive ps look ws [] none = refl
open_all aggressive ps look ws (c ∷ cs) none =
    let ks = map (λ (p : NamedPart). p.kind) ps in
    let is : is_open ks look (target c) ≡ true = unguarded (kind_at ks (target c)) c.method (look (target c)) (not_true (call_guarded ps c) (none 0)) in
    ap (λ b. required aggressive (site_at ks ws c).taken b && all_open aggressive ks look (map (site_at ks ws) cs)) is
    ∙ open_all aggressive ps look ws cs (λ j. none (suc j))

-- readiness of what a run shows
abbrev pub ready_in : Bool → List Kind → Look → Trace → Bool
ready_in aggressive ks look t = all_hold aggressive t.demands && all_open aggressive ks look t.sites

body_explicit : (aggressive : Bool) (ps : List NamedPart) (e : Element) (look : Look) (ws : List Bits) → NoneTrue (implicit_places ps e)
    → (let t : Trace = body_trace (map (λ p. p.kind) ps) e (answers (map (λ p. p.kind) ps) look) ws in
    ready_in aggressive (map (λ p. p.kind) ps) look t ≡ all_hold aggressive (own t.demands))
unfolding body_trace
body_explicit aggressive ps e look ws none =
    let ks = map (λ (p : NamedPart). p.kind) ps in
    let vs = words e (answers ks look) ws in
    ap (λ b. all_hold aggressive (map (demand_at vs) e.conditions) && b) (open_all aggressive ps look vs e.calls (none_right (map condition_named e.conditions) _ none))
    ∙ (and-true (all_hold aggressive (map (demand_at vs) e.conditions))
    ∙ sym (ap (all_hold aggressive) (all_own vs e.conditions (none_left _ (map (call_guarded ps) e.calls) none))))

explicit_ready : (b : DesignData) (n : ℕ) (o : Option Element) → slice_get b.elements n ≡ o → NoneTrue (are_implicit (design_scheme b) n)
    → (aggressive : Bool) (q : Asking) (look : Look) → ready aggressive (design_scheme b) q n look ≡ all_hold aggressive (own (seen (design_scheme b) q n look).demands)
unfolding design_scheme ready seen
explicit_ready b n None at none aggressive q look =
    let ks = kinds_of b in
    let ws = given (design_scheme b) q n in
    subst (λ x. ready_in aggressive ks look (trace_of ks x (answers ks look) ws) ≡ all_hold aggressive (own (trace_of ks x (answers ks look) ws).demands)) (sym at) refl
explicit_ready b n (Some e) at none aggressive q look =
    let ks = kinds_of b in
    let ws = given (design_scheme b) q n in
    subst (λ x. ready_in aggressive ks look (trace_of ks x (answers ks look) ws) ≡ all_hold aggressive (own (trace_of ks x (answers ks look) ws).demands)) (sym at)
    (body_explicit aggressive b.parts e look ws (subst NoneTrue (implicit_is b n e at) none))

-- ---- the whole

abbrev pub Ordering : Type 0
Ordering = (r : Relating) (xs : List ℕ) (a b : ℕ) → Agrees r → ExecutionOrder r xs → HasEdge r.ordering a b → IsBefore xs a b

pub obeys : Ordering → Urged → (d : Design) (s : Schedule)
    → ExecutionOrder (relating (design_scheme (design_data d))) s.execution → UrgencyOrder (relating (design_scheme (design_data d))) s.urgency
    → AreStops (relating (design_scheme (design_data d))) s.execution s.urgency s.stops → IsAccepted (design_scheme (design_data d)) s
    → Obeys (design_scheme (design_data d)) s
unfolding design_scheme
obeys ordering urged d s x u are accepted =
    let S = design_scheme (design_data d) in
    let R = relating S in
    let g = agrees_design d in
    record {
      descending_urgency = λ m n p. urged R s.urgency m n g u (paired_descending S m n p);
      execution_order = λ m n p. ordering R s.execution m n g x (paired_ordering S m n p);
      preempts = λ m n p. urged R s.urgency m n g u (paired_preempting S m n p);
      preempted = λ m n p aggressive q st fired after fit clock i j. clock.none_stopped m n i j (inr (paired_preempts S m n p));
      fires = λ r m aggressive q st fired after fit clock.
          rule_fires aggressive S s r q st fired after
          (λ f h. let k = list_stops R s f r urged g u are h in accepted.1 r m f k.0 k.1) (marked_may d true r m q) clock;
      no_implicit = λ r m. explicit_ready (design_data d) r (slice_get d.elements r) refl (accepted.0 r m);
    }
