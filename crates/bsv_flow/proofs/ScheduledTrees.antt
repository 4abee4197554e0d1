-- The schedule of a design is that of its tree.
use Rattle.std.proofs.Common.{◌≡◌, ◌∙◌, ℕ, zero, suc, ◌-◌, ◌<◌, ◌≤◌, List, [], ◌∷◌, ◌++◌, map, length, Option, Some, None, refl, sym, ap, ap₂, subst, arith}
use Rattle.std.specs.Prelude.{slice_get, Bool, false, Result, Ok, Err}
use Rattle.std.specs.List.{list_any}
use Rattle.std.proofs.Math.Path.{fun_ext}
use Rattle.bsv_lemmas.proofs.Places.{at_left}
use Rattle.bsv_bits.specs.Words.{Bits}
use Rattle.bsv_design.specs.declared.design.Design.{Design}
use Rattle.bsv_design.specs.declared.design.NamedPart.{NamedPart}
use Rattle.bsv_design.specs.declared.element.Call.{Call}
use Rattle.bsv_design.specs.declared.element.Condition.{Condition}
use Rattle.bsv_design.specs.declared.element.Element.{Element}
use Rattle.bsv_design.specs.declared.kind.Kind.{Kind}
use Rattle.bsv_design.specs.declared.schedule.Guards.{Guards}
use Rattle.bsv_design.specs.declared.schedule.Schedule.{Schedule}
use Rattle.bsv_design.specs.declared.attributes.Pair.{Pair}
use Rattle.bsv_design.specs.design.Bodies.{words}
use Rattle.bsv_design.specs.design.Guards.{needs_of}
use Rattle.bsv_design.specs.scheme.Relations.{KeepsTheRule, sites_of, no_answers, goes, feeds}
use Rattle.bsv_design.specs.scheme.Schemes.{Scheme, Outline, AreAlike, trace_of, design_scheme, kinds_of, filled, ports_of}
use Rattle.bsv_tree.specs.meaning.Schemes.{tree_scheme}
use Rattle.bsv_design.specs.scheme.Seen.{design_data}
use Rattle.bsv_tree.specs.tree.Elements.{parts_among}
use Rattle.bsv_design.specs.scheme.Traces.{Trace, body_trace, site_at, demand_at}
use Rattle.bsv_tree.specs.tree.Trees.{TreeData}
use Rattle.bsv_design.specs.design.Roles.{is_rule, is_value}
use Rattle.bsv_schedule.specs.relating.Elements.{relating, has_role, edges_of, is_ordering, is_urging, preempts}
use Rattle.bsv_schedule.specs.execution_order.Orders.{Executes}
use Rattle.bsv_graph.specs.Orders.{IsOrderOf}
use Rattle.bsv_schedule.specs.relating.Relating.{Relating}
use Rattle.bsv_schedule.specs.stopping.Stops.{AreStops}
use Rattle.bsv_schedule.specs.urgency_order.Orders.{Urges}
use Rattle.bsv_guard.specs.Lifted.{AreLifted}
use Rattle.bsv_guard.proofs.Alike as same
use Rattle.bsv_inline.specs.Flattening.{top_name}
use Rattle.bsv_schedule.specs.execution_order.Answers.{RefusesExecution}
use Rattle.bsv_schedule.specs.declared.execution_order.fault.OrderFault.{OrderFault}
use Rattle.bsv_schedule.specs.declared.execution_order.fault.OrderFault.TheVariants as order
use Rattle.bsv_schedule.specs.urgency_order.Answers.{RefusesUrgency}
use Rattle.bsv_schedule.specs.declared.urgency_order.fault.UrgencyFault.{UrgencyFault}
use Rattle.bsv_schedule.specs.declared.urgency_order.fault.UrgencyFault.TheVariants as urgency
use Rattle.bsv_attr.specs.Asserting.{IsAccepted, NamesImplicit, NamesStopper}
use Rattle.bsv_attr.specs.Implicit.{demands_of}
use Rattle.bsv_attr.specs.Obeying.{Obeys}
use Rattle.bsv_attr.proofs.Alike as marks
use Rattle.bsv_attr.proofs.Attributes.{obeys}
use Rattle.bsv_schedule.proofs.OrderLaws.{ordering_before, urging_stands}
use Rattle.bsv_schedule.proofs.RelationsLemmas.{agrees_design, pairs_are}
use Rattle.bsv_clock.specs.Grounds.{IsScheduleOf, KeepsRules}
use Rattle.bsv_clock.proofs.Belonging as belonging
use Rattle.bsv_clock.specs.Subjects.{design_subject, element_name, outline_name}
use Rattle.bsv_net.specs.declared.net.Net.{Net}
use Rattle.bsv_net.specs.ShowsByNet.{NetCarries}
use Rattle.bsv_net.proofs.Hardware.{net_carried_to}
use Rattle.bsv_net.specs.AtHand.{net_data}
use Rattle.bsv_share.specs.Sharing.{IsDistinct, IsFolded, IsNeeded}
use Rattle.bsv_vtext.specs.declared.modules.VModule.{VModule}
use Rattle.bsv_vtext.specs.AtHand.{module_data}
use Rattle.bsv_flow.specs.declared.refusal.CompileFault.{CompileFault}
use Rattle.bsv_flow.specs.declared.refusal.CompileFault.TheVariants as fault
use Rattle.bsv_flow.specs.declared.refusal.Refusal.{Refusal}
use Rattle.bsv_flow.specs.declared.refusal.Refusal.TheVariants as refusal
use Rattle.bsv_flow.specs.Attributes.{attribute_word}
use Rattle.bsv_flow.specs.Breaches.{or_no_name}
use Rattle.bsv_flow.specs.Schedulings.{subject, related, IsOrdered, IsScheduled, order_told, urgency_told, pair_told, demand_name, call_name, names_in, implicit_told, stopper_told, condition_at, call_of, call_at, call_text, texts_in, IsUnexecuted, IsUnurged, IsUnasserted, Unscheduled, IsCompiledOf, IsVerilogOf}
use Rattle.bsv_design.proofs.Elements.{length-filled}

-- ---- names of conditions and calls

got_after : {A : Type 0} (xs ys : List A) (k : ℕ) → length xs ≤ k → slice_get (xs ++ ys) k ≡ slice_get ys (k - length xs)
got_after [] ys k l = let e : k ≡ k - 0 = omega arith in ap (slice_get ys) e
got_after (x ∷ xs) ys zero l = absurd (omega (arith, l))
got_after (x ∷ xs) ys (suc k) l =
    let e : k - length xs ≡ suc k - suc (length xs) = omega arith in
    got_after xs ys k (omega (arith, l)) ∙ ap (slice_get ys) e

map_long : {A B : Type 0} (f : A → B) (xs : List A) → length (map f xs) ≡ length xs
map_long f [] = refl
map_long f (x ∷ xs) = ap suc (map_long f xs)

condition_got : (cs : List Condition) (k : ℕ) (e : Element) → e.conditions ≡ cs → or_no_name (slice_get (map (λ (c : Condition). or_no_name c.implicit) cs) k) ≡ condition_at e k
condition_got cs k e is = by cs k ∙ ap (λ (xs : List Condition). of (slice_get xs k)) (sym is) where
  of : Option Condition → List ℕ
  of None = []
  of (Some c) = or_no_name c.implicit

  by : (xs : List Condition) (n : ℕ) → or_no_name (slice_get (map (λ (c : Condition). or_no_name c.implicit) xs) n) ≡ of (slice_get xs n)
  by [] n = refl
  by (x ∷ xs) zero = refl
  by (x ∷ xs) (suc n) = by xs n

pub of_condition : (ps : List NamedPart) (e : Element) (place : ℕ) → place < length e.conditions → condition_at e place ≡ or_no_name (slice_get (texts_in ps e) place)
of_condition ps e place l =
    let front : List (List ℕ) = map (λ (c : Condition). or_no_name c.implicit) e.conditions in
    let long : place < length front = omega (arith, l, map_long (λ (c : Condition). or_no_name c.implicit) e.conditions) in
    sym (ap or_no_name (at_left front (map (call_text ps) e.calls) place long) ∙ condition_got e.conditions place e refl)

call_got : (ps : List NamedPart) (cs : List Call) (k : ℕ) → or_no_name (slice_get (map (call_text ps) cs) k) ≡ call_of ps (slice_get cs k)
call_got ps [] k = refl
call_got ps (c ∷ cs) zero = refl
call_got ps (c ∷ cs) (suc k) = call_got ps cs k

pub of_call : (ps : List NamedPart) (e : Element) (place : ℕ) → length e.conditions ≤ place
    → call_at ps e (place - length e.conditions) ≡ or_no_name (slice_get (texts_in ps e) place)
of_call ps e place l =
    let front : List (List ℕ) = map (λ (c : Condition). or_no_name c.implicit) e.conditions in
    let same : length front ≡ length e.conditions = map_long (λ (c : Condition). or_no_name c.implicit) e.conditions in
    let long : length front ≤ place = omega (arith, l, same) in
    sym (ap or_no_name (got_after front (map (call_text ps) e.calls) place long)
    ∙ ap (λ n. or_no_name (slice_get (map (call_text ps) e.calls) (place - n))) same
    ∙ call_got ps e.calls (place - length e.conditions))

-- ---- a design by itself

abbrev no_words : Scheme → ℕ → List Bits
no_words S n = filled (ports_of (slice_get S.elements n)) []

demand_texts : (ws : List Bits) (cs : List Condition) → map demand_name (map (demand_at ws) cs) ≡ map (λ (c : Condition). or_no_name c.implicit) cs
demand_texts ws [] = refl
demand_texts ws (c ∷ cs) = ap (λ xs. or_no_name c.implicit ∷ xs) (demand_texts ws cs)

site_texts : (ps : List NamedPart) (ks : List Kind) (ws : List Bits) (cs : List Call) → map (call_name ps) (map (site_at ks ws) cs) ≡ map (call_text ps) cs
site_texts ps ks ws [] = refl
site_texts ps ks ws (c ∷ cs) = ap (λ xs. call_text ps c ∷ xs) (site_texts ps ks ws cs)

texts_same : (d : Design) (n : ℕ) (e : Element) → slice_get d.elements n ≡ Some e → names_in (design_subject d) n ≡ texts_in d.parts e
unfolding design_scheme body_trace
texts_same d n e at =
    let ks = kinds_of (design_data d) in
    let ws = no_words (design_scheme (design_data d)) n in
    ap (λ (o : Option Element). map demand_name (trace_of ks o no_answers ws).demands ++ map (call_name d.parts) (trace_of ks o no_answers ws).sites) at
    ∙ ap₂ (λ (xs ys : List (List ℕ)). xs ++ ys) (demand_texts (words e no_answers ws) e.conditions) (site_texts d.parts ks (words e no_answers ws) e.calls)

pub implicit_same : (d : Design) (rule place : ℕ) (e : Element) (name call : List ℕ) (r : Refusal) → slice_get d.elements rule ≡ Some e
    → name ≡ element_name (design_scheme (design_data d)) rule → call ≡ or_no_name (slice_get (texts_in d.parts e) place) → r ≡ refusal.NoImplicit name call
    → r ≡ implicit_told (design_subject d) rule place
implicit_same d rule place e name call r at named called told =
    told ∙ ap (λ (x : List ℕ). refusal.NoImplicit x call) named
    ∙ ap (λ (x : List ℕ). refusal.NoImplicit (element_name (design_scheme (design_data d)) rule) x)
    (called ∙ ap (λ (xs : List (List ℕ)). or_no_name (slice_get xs place)) (sym (texts_same d rule e at)))

pub declined : (d : Design) (f : UrgencyFault) (r : Refusal) → RefusesUrgency (related (design_subject d)) d.pairs f
    → urgency_told (design_subject d) f ≡ Some r → IsUnurged (design_subject d) r
declined d f r declines told = record {
  fault = f;
  declines = subst (λ (ps : List Pair). RefusesUrgency (related (design_subject d)) ps f) (pairs_are d) declines;
  told = told;
}

-- a fault is told in one way
abbrev fault_in : {A : Type 0} → CompileFault → Result A CompileFault → CompileFault
fault_in f (Ok x) = f
fault_in f (Err g) = g

abbrev refusal_in : Refusal → CompileFault → Refusal
refusal_in r (fault.Refused x) = x
refusal_in r (fault.ReadFault name) = r
refusal_in r fault.OutOfMemory = r

pub fault_same : {A : Type 0} (f g : CompileFault) → ◌≡◌ {A = Result A CompileFault} (Err f) (Err g) → f ≡ g
fault_same f g e = ap (fault_in f) e

pub told_same : {A : Type 0} (a b : Refusal) → ◌≡◌ {A = Result A CompileFault} (Err (fault.Refused a)) (Err (fault.Refused b)) → a ≡ b
told_same a b e = ap (refusal_in a) (fault_same (fault.Refused a) (fault.Refused b) e)

pub unasserted_implicit : (d : Design) (made : Schedule) (rule place : ℕ) (r : Refusal) → NamesImplicit (design_scheme (design_data d)) rule place
    → r ≡ implicit_told (design_subject d) rule place → IsUnasserted (design_subject d) made r
unasserted_implicit d made rule place r names told =
    subst (λ (x : Refusal). IsUnasserted (design_subject d) made x) (sym told) (IsUnasserted.implicit rule place names)

pub unasserted_stopped : (d : Design) (made : Schedule) (rule f : ℕ) (r : Refusal) → NamesStopper (design_scheme (design_data d)) made rule f
    → r ≡ stopper_told (design_subject d) rule f → IsUnasserted (design_subject d) made r
unasserted_stopped d made rule f r names told =
    subst (λ (x : Refusal). IsUnasserted (design_subject d) made x) (sym told) (IsUnasserted.stopped rule f names)

-- ---- schemes that are alike

related_alike : (S T : Scheme) → AreAlike S T → relating S ≡ relating T
unfolding relating
related_alike S T alike =
    let do_same = same.alike S T alike in
    let goes_are : goes S ≡ goes T = fun_ext (λ m. fun_ext (λ n. do_same.goes_same m n)) in
    let feeds_are : feeds S ≡ feeds T = fun_ext (λ m. fun_ext (λ n. do_same.feeds_same m n)) in
    ap (λ (os : List Outline). relating_by os (goes S) (feeds S) S.pairs) alike.elements
    ∙ ap (λ (g : ℕ → ℕ → Bool). relating_by T.elements g (feeds S) S.pairs) goes_are
    ∙ ap (λ (f : ℕ → ℕ → Bool). relating_by T.elements (goes T) f S.pairs) feeds_are
    ∙ ap (λ (ps : List Pair). relating_by T.elements (goes T) (feeds T) ps) alike.pairs where
      relating_by : List Outline → (ℕ → ℕ → Bool) → (ℕ → ℕ → Bool) → List Pair → Relating
      relating_by os g f ps = record {
        count = length os;
        goes = g;
        feeds = f;
        value = λ a. has_role is_value (slice_get (map (λ o. o.role) os) a);
        rule = λ a. has_role is_rule (slice_get (map (λ o. o.role) os) a);
        ordering = edges_of is_ordering ps;
        urging = edges_of is_urging ps;
        preempts = λ a b. list_any (preempts a b) ps;
      }

-- ---- a design and its tree

module _ (h : TreeData) (d : Design) (alike : AreAlike (tree_scheme h) (design_scheme (design_data d))) (parts : d.parts ≡ parts_among h.instances) where
  abbrev S : Scheme
  S = tree_scheme h

  abbrev T : Scheme
  T = design_scheme (design_data d)

  name_same : (n : ℕ) → element_name T n ≡ element_name S n
  name_same n = ap (λ (os : List Outline). outline_name (slice_get os n)) (sym alike.elements)

  relates_same : related (design_subject d) ≡ related (subject h)
  relates_same = related_alike T S (same.alike_back S T alike)

  pairs_same : T.pairs ≡ S.pairs
  pairs_same = sym alike.pairs

  words_same : (n : ℕ) → no_words T n ≡ no_words S n
  words_same n = ap (λ (os : List Outline). filled (ports_of (slice_get os n)) []) (sym alike.elements)

  trace_same : (n : ℕ) → T.trace n no_answers (no_words T n) ≡ S.trace n no_answers (no_words S n)
  trace_same n =
      ap (T.trace n no_answers) (words_same n)
      ∙ sym (alike.traces n no_answers (no_words S n) (length-filled (ports_of (slice_get S.elements n)) []))

  names_same : (n : ℕ) → names_in (design_subject d) n ≡ names_in (subject h) n
  names_same n =
      ap (λ (t : Trace). map demand_name t.demands ++ map (call_name d.parts) t.sites) (trace_same n)
      ∙ ap (λ (ps : List NamedPart). map demand_name (demands_of S n) ++ map (call_name ps) (sites_of S n)) parts

  pair_same : (told : List ℕ → List ℕ → List ℕ → Refusal) (p : Pair) → pair_told told (design_subject d) p ≡ pair_told told (subject h) p
  pair_same told p = ap₂ (λ (x y : List ℕ). told (attribute_word p.attribute) x y) (name_same p.before) (name_same p.after)

  order_same : (f : OrderFault) → order_told (design_subject d) f ≡ order_told (subject h) f
  order_same (order.WireCycle a) = ap (λ (x : List ℕ). Some (refusal.WireCycle x)) (name_same a)
  order_same (order.ValueClash v) = ap (λ (x : List ℕ). Some (refusal.ValueClash x)) (name_same v)
  order_same (order.ExecutionCycle p) = ap (λ (r : Refusal). Some r) (pair_same refusal.ExecutionCycle p)
  order_same order.OutOfMemory = refl

  urgency_same : (f : UrgencyFault) → urgency_told (design_subject d) f ≡ urgency_told (subject h) f
  urgency_same (urgency.UrgencyCycle p) = ap (λ (r : Refusal). Some r) (pair_same refusal.UrgencyCycle p)
  urgency_same (urgency.MethodBehindRule m q) = ap₂ (λ (x y : List ℕ). Some (refusal.MethodBehindRule x y)) (name_same m) (name_same q)
  urgency_same urgency.OutOfMemory = refl

  unexecuted_at : (r : Refusal) → IsUnexecuted (design_subject d) r → IsUnexecuted (subject h) r
  unexecuted_at r u = record {
    fault = u.fault;
    refuses = subst (λ (x : Relating). RefusesExecution x u.fault) relates_same u.refuses;
    told = sym (order_same u.fault) ∙ u.told;
  }

  unurged_at : (r : Refusal) → IsUnurged (design_subject d) r → IsUnurged (subject h) r
  unurged_at r u = record {
    fault = u.fault;
    declines = subst (λ (x : Relating). RefusesUrgency x S.pairs u.fault) relates_same (subst (λ (ps : List Pair). RefusesUrgency (related (design_subject d)) ps u.fault) pairs_same u.declines);
    told = sym (urgency_same u.fault) ∙ u.told;
  }

  unasserted_at : (made : Schedule) (r : Refusal) → IsUnasserted (design_subject d) made r → IsUnasserted (subject h) made r
  unasserted_at made r (IsUnasserted.implicit rule place names) =
      subst (λ (x : Refusal). IsUnasserted (subject h) made x)
      (sym (ap₂ (λ (x : List ℕ) (ys : List (List ℕ)). refusal.NoImplicit x (or_no_name (slice_get ys place))) (name_same rule) (names_same rule)))
      (IsUnasserted.implicit rule place ((marks.implicit_alike S T rule place alike).1 names))
  unasserted_at made r (IsUnasserted.stopped rule f names) =
      subst (λ (x : Refusal). IsUnasserted (subject h) made x)
      (sym (ap₂ (λ (x y : List ℕ). refusal.FireWhenEnabled x y) (name_same rule) (name_same f)))
      (IsUnasserted.stopped rule f ((marks.stopper_alike S T made rule f alike).1 names))

  ordered_at : (made : Schedule) → IsOrdered (design_subject d) made → IsOrdered (subject h) made
  ordered_at made o = record {
    executes = subst (λ (x : Relating). Executes x made.execution) relates_same o.executes;
    urges = subst (λ (x : Relating). Urges x made.urgency) relates_same o.urges;
    stops = subst (λ (x : Relating). AreStops x made.execution made.urgency made.stops) relates_same o.stops;
  }

  -- ---- what is refused

  pub unexecuted : ((n : ℕ) → KeepsTheRule S n) → (r : Refusal) → IsUnexecuted (design_subject d) r → Unscheduled h r
  unexecuted kept r u = Unscheduled.executing kept (unexecuted_at r u)

  pub unurged : ((n : ℕ) → KeepsTheRule S n) → (execution : List ℕ) → Executes (related (design_subject d)) execution
      → (r : Refusal) → IsUnurged (design_subject d) r → Unscheduled h r
  unurged kept execution executes r u = Unscheduled.urging kept execution (subst (λ (x : Relating). Executes x execution) relates_same executes) (unurged_at r u)

  ordered_of : (made : Schedule) (execution urgency : List ℕ) → made.execution ≡ execution → made.urgency ≡ urgency
      → Executes (related (design_subject d)) execution → Urges (related (design_subject d)) urgency
      → AreStops (related (design_subject d)) execution urgency made.stops → IsOrdered (subject h) made
  ordered_of made execution urgency e u executes urges stops = ordered_at made (record {
    executes = subst (λ (xs : List ℕ). Executes (related (design_subject d)) xs) (sym e) executes;
    urges = subst (λ (xs : List ℕ). Urges (related (design_subject d)) xs) (sym u) urges;
    stops = subst (λ (xs : List ℕ). AreStops (related (design_subject d)) xs made.urgency made.stops) (sym e)
        (subst (λ (xs : List ℕ). AreStops (related (design_subject d)) execution xs made.stops) (sym u) stops);
  })

  pub unasserted : ((n : ℕ) → KeepsTheRule S n) → (made : Schedule) (execution urgency : List ℕ) → made.execution ≡ execution → made.urgency ≡ urgency
      → Executes (related (design_subject d)) execution → Urges (related (design_subject d)) urgency
      → AreStops (related (design_subject d)) execution urgency made.stops
      → (r : Refusal) → IsUnasserted (design_subject d) made r → Unscheduled h r
  unasserted kept made execution urgency e u executes urges stops r a =
      Unscheduled.asserting kept made (ordered_of made execution urgency e u executes urges stops) (unasserted_at made r a)

  pub scheduled_of : ((n : ℕ) → KeepsTheRule S n) → (made : Schedule) (execution urgency : List ℕ) → made.execution ≡ execution → made.urgency ≡ urgency
      → Executes (related (design_subject d)) execution → Urges (related (design_subject d)) urgency
      → AreStops (related (design_subject d)) execution urgency made.stops → IsAccepted T made → IsScheduled (subject h) made
  scheduled_of kept made execution urgency e u executes urges stops accepted = record {
    kept = kept;
    ordered = ordered_of made execution urgency e u executes urges stops;
    accepted = (marks.accepted_alike S T made alike).1 accepted;
  }

  pub obeyed_of : (made : Schedule) (execution urgency : List ℕ) → made.execution ≡ execution → made.urgency ≡ urgency
      → Executes (related (design_subject d)) execution → Urges (related (design_subject d)) urgency
      → AreStops (related (design_subject d)) execution urgency made.stops → IsAccepted T made → Obeys S made
  obeyed_of made execution urgency e u executes urges stops accepted =
      let R = related (design_subject d) in
      let least = subst (λ (xs : List ℕ). Executes R xs) (sym e) executes in
      let urged = subst (λ (xs : List ℕ). Urges R xs) (sym u) urges in
      let listed = subst (λ (xs : List ℕ). AreStops R xs made.urgency made.stops) (sym e)
      (subst (λ (xs : List ℕ). AreStops R execution xs made.stops) (sym u) stops) in
      marks.obeys_alike S T made alike
      (obeys ordering_before urging_stands d made least.order urged.order listed accepted)

-- what is scheduled obeys its attributes
pub obeys_scheduled : (h : TreeData) (d : Design) → AreAlike (tree_scheme h) (design_scheme (design_data d)) → (made : Schedule)
    → IsScheduled (subject h) made → Obeys (tree_scheme h) made
obeys_scheduled h d alike made is =
    let S = tree_scheme h in
    let T = design_scheme (design_data d) in
    let e : relating S ≡ relating T = related_alike S T alike in
    let x = subst (λ (r : Relating). Executes r made.execution) e is.ordered.executes in
    let u = subst (λ (r : Relating). Urges r made.urgency) e is.ordered.urges in
    let are = subst (λ (r : Relating). AreStops r made.execution made.urgency made.stops) e is.ordered.stops in
    marks.obeys_alike S T made alike
    (obeys ordering_before urging_stands d made x.order u.order are ((marks.accepted_alike S T made alike).0 is.accepted))

-- ---- the net

-- what a net is made from belongs together
pub rules_there : (h : TreeData) (d : Design) → AreAlike (tree_scheme h) (design_scheme (design_data d)) → ((n : ℕ) → KeepsTheRule (tree_scheme h) n)
    → KeepsRules (design_scheme (design_data d))
rules_there h d alike kept n = ((same.alike (tree_scheme h) (design_scheme (design_data d)) alike).rule_same n).0 (kept n)

pub schedule_there : (d : Design) (made : Schedule) (execution urgency : List ℕ) → made.execution ≡ execution → made.urgency ≡ urgency
    → Executes (related (design_subject d)) execution → Urges (related (design_subject d)) urgency
    → AreStops (related (design_subject d)) execution urgency made.stops → IsScheduleOf (design_scheme (design_data d)) made
schedule_there d made execution urgency e u executes urges stops =
    let R = related (design_subject d) in
    record {
      agrees = agrees_design d;
      named = belonging.named d;
      executes = subst (λ (xs : List ℕ). Executes R xs) (sym e) executes;
      urges = subst (λ (xs : List ℕ). Urges R xs) (sym u) urges;
      stops = subst (λ (xs : List ℕ). AreStops R xs made.urgency made.stops) (sym e)
          (subst (λ (xs : List ℕ). AreStops R execution xs made.stops) (sym u) stops);
    }

-- ---- what was compiled

pub compiled_of : (h : TreeData) (d : Design) (g : Guards) (s : Schedule) (n : Net) (v : VModule) → AreAlike (tree_scheme h) (design_scheme (design_data d))
    → top_name h ≡ Some d.name → d.parts ≡ parts_among h.instances → g.needs ≡ needs_of (kinds_of (design_data d)) d.elements
    → AreLifted (design_data d) g.needs → NetCarries false (design_scheme (design_data d)) s n → IsFolded n.nodes → IsDistinct n.nodes → IsNeeded (net_data n)
    → IsVerilogOf h s (module_data v) → IsCompiledOf h (record { design = d; guards = g; schedule = s; net = n; verilog = v })
compiled_of h d g s n v alike name parts needs lifted carries folded distinct needed verilog =
    let S = tree_scheme h in
    let T = design_scheme (design_data d) in
    record {
      alike = alike;
      name = name;
      parts = parts;
      needs = needs;
      lifted = lifted;
      carries = net_carried_to false S T s n alike carries;
      folded = folded;
      distinct = distinct;
      needed = needed;
      verilog = verilog;
    }

pub executed_order : (r : Relating) (xs : List ℕ) → Executes r xs → IsOrderOf r.count xs
executed_order r xs e = e.order.2.order

pub urged_order : (r : Relating) (xs : List ℕ) → Urges r xs → IsOrderOf r.count xs
urged_order r xs u = u.order.order
