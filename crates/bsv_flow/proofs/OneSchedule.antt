-- A tree has one schedule, or one first refusal of scheduling.
use Rattle.std.proofs.Common.{◌≡◌, ◌∙◌, ℕ, ◌<◌, ◌⊎◌, inl, inr, List, length, Some, Result, Ok, Err, refl, sym, ap, subst}
use Rattle.std.specs.Prelude.{slice_get}
use Rattle.std.proofs.lemmas.List.{length-map}
use Rattle.std.proofs.lemmas.Option.{same_Some, none-some}
use Rattle.bsv_lemmas.proofs.Places.{item_there}
use Rattle.bsv_lemmas.proofs.Choices.{same_ok, same_err}
use Rattle.bsv_design.specs.declared.schedule.Schedule.{Schedule}
use Rattle.bsv_design.specs.declared.attributes.Attribute.TheVariants as attribute
use Rattle.bsv_design.specs.declared.attributes.Pair.{Pair}
use Rattle.bsv_design.specs.scheme.Relations.{KeepsTheRule}
use Rattle.bsv_clock.specs.Subjects.{Subject, element_name}
use Rattle.bsv_tree.specs.meaning.Schemes.{tree_scheme}
use Rattle.bsv_tree.specs.tree.Elements.{parts_among}
use Rattle.bsv_design.specs.scheme.Traces.{Site}
use Rattle.bsv_tree.specs.tree.Trees.{TreeData}
use Rattle.bsv_schedule.specs.relating.Elements.{relating, edge_of, edges_of, is_urging}
use Rattle.bsv_schedule.specs.execution_order.Orders.{Executes, ExecutionCycle}
use Rattle.bsv_schedule.specs.relating.Relating.{feed_edges}
use Rattle.bsv_schedule.specs.stopping.Stops.{AreStops}
use Rattle.bsv_schedule.specs.urgency_order.Orders.{Urges, UrgencyCycle}
use Rattle.bsv_graph.specs.Walks.{IsAcyclic}
use Rattle.bsv_schedule.proofs.Answering.{executes_or_refused, urges_or_declined, stops_exist, stops_one}
use Rattle.bsv_schedule.specs.declared.execution_order.fault.OrderFault.{OrderFault}
use Rattle.bsv_schedule.specs.declared.execution_order.fault.OrderFault.TheVariants as order
use Rattle.bsv_schedule.specs.execution_order.Answers as executing
use Rattle.bsv_schedule.proofs.OneExecution as execution
use Rattle.bsv_schedule.specs.declared.urgency_order.fault.UrgencyFault.{UrgencyFault}
use Rattle.bsv_schedule.specs.declared.urgency_order.fault.UrgencyFault.TheVariants as urgency
use Rattle.bsv_schedule.specs.urgency_order.Answers as urging
use Rattle.bsv_schedule.proofs.OneUrgency as urged
use Rattle.bsv_attr.specs.declared.fault.AttrFault.{AttrFault}
use Rattle.bsv_attr.specs.declared.fault.AttrFault.TheVariants.{NoImplicit, FireWhenEnabled}
use Rattle.bsv_attr.specs.Asserting.{IsAccepted, IsAnswer}
use Rattle.bsv_attr.proofs.Answering as marks
use Rattle.bsv_flow.specs.declared.refusal.Refusal.{Refusal}
use Rattle.bsv_flow.specs.declared.refusal.Refusal.TheVariants as refusal
use Rattle.bsv_flow.specs.Breaches.{part_path, method_name, TellsBreach}
use Rattle.bsv_flow.specs.Schedulings.{subject, related, IsOrdered, IsScheduled, order_told, urgency_told, pair_told, implicit_told, stopper_told, IsUnexecuted, IsUnurged, IsUnasserted, Unscheduled}
use Rattle.bsv_flow.proofs.FirstBreaches as first
use Rattle.bsv_flow.proofs.FirstBreaches.{FirstBreachOf, tree_decides}

-- ---- two calls of one element

-- a tree has one first breach, which is told in one way
one_breach : (h : TreeData) (r s : Refusal) → TellsBreach h r → TellsBreach h s → r ≡ s
one_breach h r s one other =
    let S = tree_scheme h in
    let ps = parts_among h.instances in
    let e = first.same_breach S one.element other.element one.earlier one.later other.earlier other.later one.one one.other other.one other.other one.breach other.breach in
    one.told
    ∙ ap (λ n. refusal.InRule (element_name S n) (part_path ps one.one.target.part) (method_name ps one.one.target.part one.one.target.method) (method_name ps one.one.target.part one.other.target.method)) e.0
    ∙ ap (λ (x : Site). refusal.InRule (element_name S other.element) (part_path ps x.target.part) (method_name ps x.target.part x.target.method) (method_name ps x.target.part one.other.target.method)) e.1
    ∙ ap (λ (x : Site). refusal.InRule (element_name S other.element) (part_path ps other.one.target.part) (method_name ps other.one.target.part other.one.target.method) (method_name ps other.one.target.part x.target.method)) e.2
    ∙ sym other.told

-- the refusal of a first breach
told_of : (h : TreeData) → FirstBreachOf (tree_scheme h) → (r : Refusal) × TellsBreach h r
told_of h found = (
  refusal.InRule (element_name (tree_scheme h) found.element) (part_path (parts_among h.instances) found.one.target.part)
      (method_name (parts_among h.instances) found.one.target.part found.one.target.method) (method_name (parts_among h.instances) found.one.target.part found.other.target.method),
  record { element = found.element; earlier = found.earlier; later = found.later; one = found.one; other = found.other; breach = found.breach; told = refl },
)

not_breached : (h : TreeData) (r : Refusal) → ((n : ℕ) → KeepsTheRule (tree_scheme h) n) → TellsBreach h r → ⊥
not_breached h r kept tells = kept tells.element tells.earlier tells.later tells.one tells.other tells.breach.breach

-- ---- answers

no_value : {A B : Type 0} (x : A) (y : B) → ◌≡◌ {A = Result A B} (Ok x) (Err y) → ⊥
no_value x y e = cc

module _ (s : Subject) where
  -- ---- the execution order

  order_answer : (r : Refusal) (u : IsUnexecuted s r) → executing.IsExecutionAnswer (related s) (Err u.fault)
  order_answer r u = (u.refuses, λ (e : u.fault ≡ order.OutOfMemory). none-some r (sym (ap (order_told s) e) ∙ u.told))

  pub one_unexecuted : (r t : Refusal) → IsUnexecuted s r → IsUnexecuted s t → r ≡ t
  one_unexecuted r t u v =
      let e = execution.one (related s) (Err u.fault) (Err v.fault) (order_answer r u) (order_answer t v) in
      same_Some r t (sym u.told ∙ ap (order_told s) (same_err u.fault v.fault e) ∙ v.told)

  pub not_executed : (xs : List ℕ) (r : Refusal) → Executes (related s) xs → IsUnexecuted s r → ⊥
  not_executed xs r x u = no_value xs u.fault (execution.one (related s) (Ok xs) (Err u.fault) x (order_answer r u))

  pub one_execution : (xs ys : List ℕ) → Executes (related s) xs → Executes (related s) ys → xs ≡ ys
  one_execution xs ys x y = same_ok xs ys (execution.one (related s) (Ok xs) (Ok ys) x y)

  -- ---- the urgency order

  urgency_answer : (r : Refusal) (u : IsUnurged s r) → urging.IsUrgencyAnswer (related s) s.scheme.pairs (Err u.fault)
  urgency_answer r u = (u.declines, λ (e : u.fault ≡ urgency.OutOfMemory). none-some r (sym (ap (urgency_told s) e) ∙ u.told))

  pub one_unurged : (r t : Refusal) → IsUnurged s r → IsUnurged s t → r ≡ t
  one_unurged r t u v =
      let e = urged.one (related s) s.scheme.pairs (Err u.fault) (Err v.fault) (urgency_answer r u) (urgency_answer t v) in
      same_Some r t (sym u.told ∙ ap (urgency_told s) (same_err u.fault v.fault e) ∙ v.told)

  pub not_urged : (xs : List ℕ) (r : Refusal) → Urges (related s) xs → IsUnurged s r → ⊥
  not_urged xs r x u = no_value xs u.fault (urged.one (related s) s.scheme.pairs (Ok xs) (Err u.fault) x (urgency_answer r u))

  one_urgency : (xs ys : List ℕ) → Urges (related s) xs → Urges (related s) ys → xs ≡ ys
  one_urgency xs ys x y = same_ok xs ys (urged.one (related s) s.scheme.pairs (Ok xs) (Ok ys) x y)

  -- ---- both orders and the stops

  pub one_ordered : (x y : Schedule) → IsOrdered s x → IsOrdered s y → x ≡ y
  one_ordered x y one other =
      let execution_same = one_execution x.execution y.execution one.executes other.executes in
      let urgency_same = one_urgency x.urgency y.urgency one.urges other.urges in
      let moved = subst (λ (xs : List ℕ). AreStops (related s) xs y.urgency x.stops) execution_same
      (subst (λ (xs : List ℕ). AreStops (related s) x.execution xs x.stops) urgency_same one.stops) in
      let stops_same = stops_one (related s) y.execution y.urgency x.stops y.stops moved other.stops in
      λ i. record { execution = execution_same i; urgency = urgency_same i; stops = stops_same i }

  -- ---- marks

  -- the refusal that a fault of the marks tells
  abbrev mark_told : AttrFault → Refusal
  mark_told (NoImplicit r place) = implicit_told s r place
  mark_told (FireWhenEnabled r f) = stopper_told s r f

  mark_answer : (made : Schedule) (r : Refusal) → IsUnasserted s made r → (fault : AttrFault) × IsAnswer s.scheme made (Err fault) × (mark_told fault ≡ r)
  mark_answer made r (IsUnasserted.implicit rule place names) = (NoImplicit rule place, names, refl)
  mark_answer made r (IsUnasserted.stopped rule f names) = (FireWhenEnabled rule f, names, refl)

  one_mark : (x y : Schedule) (r t : Refusal) → x ≡ y → IsUnasserted s x r → IsUnasserted s y t → r ≡ t
  one_mark x y r t same u v =
      let one = mark_answer y r (subst (λ (made : Schedule). IsUnasserted s made r) same u) in
      let other = mark_answer y t v in
      let e = marks.one s.scheme y (Err one.0) (Err other.0) one.1 other.1 in
      sym one.2 ∙ ap mark_told (same_err one.0 other.0 e) ∙ other.2

  not_asserted : (x y : Schedule) (r : Refusal) → x ≡ y → IsAccepted s.scheme x → IsUnasserted s y r → ⊥
  not_asserted x y r same accepted u =
      let other = mark_answer y r u in
      let here = subst (λ (made : Schedule). IsAccepted s.scheme made) same accepted in
      no_value tt other.0 (marks.one s.scheme y (Ok tt) (Err other.0) here other.1)

  -- ---- item_there is an answer

  unexecuted_by : (fault : OrderFault) (r : Refusal) → executing.RefusesExecution (related s) fault → order_told s fault ≡ Some r → (t : Refusal) × IsUnexecuted s t
  unexecuted_by fault r refuses told = (r, record { fault = fault; refuses = refuses; told = told })

  execution_cycle : (k : ℕ) → ExecutionCycle (related s) k → k < length (related s).ordering → (r : Refusal) × IsUnexecuted s r
  execution_cycle k cycle within =
      let at = item_there (related s).ordering k within in
      let p : Pair = record { attribute = attribute.ExecutionOrder; before = at.0.from; after = at.0.to } in
      unexecuted_by (order.ExecutionCycle p) (pair_told refusal.ExecutionCycle s p) (k, cycle, record { attribute = refl; edge = at.1 }) refl

  -- the execution order, or why item_there is none
  executed_or_not : ((xs : List ℕ) × Executes (related s) xs) ⊎ ((r : Refusal) × IsUnexecuted s r)
  executed_or_not = elim (executes_or_refused (related s)) [
    | inl x ↦ inl x
    | inr (inl x) ↦ inr (unexecuted_by (order.WireCycle x.0) (refusal.WireCycle (element_name s.scheme x.0)) x.1 refl)
    | inr (inr (inl x)) ↦ inr (unexecuted_by (order.ValueClash x.0) (refusal.ValueClash (element_name s.scheme x.0)) x.1 refl)
    | inr (inr (inr x)) ↦ inr (execution_cycle x.0 x.1 x.2)
  ]

  unurged_by : (fault : UrgencyFault) (r : Refusal) → urging.RefusesUrgency (related s) s.scheme.pairs fault → urgency_told s fault ≡ Some r → (t : Refusal) × IsUnurged s t
  unurged_by fault r declines told = (r, record { fault = fault; declines = declines; told = told })

  -- the urging edge of a place is that of a pair
  urging_at : (k : ℕ) → k < length (related s).urging → (p : Pair) × (slice_get (urging.urging_pairs s.scheme.pairs) k ≡ Some p)
  unfolding relating
  urging_at k within =
      let long : length (edges_of is_urging s.scheme.pairs) ≡ length (urging.urging_pairs s.scheme.pairs) = length-map (urging.urging_pairs s.scheme.pairs) edge_of in
      item_there (urging.urging_pairs s.scheme.pairs) k (subst (λ n. k < n) long within)

  urgency_cycle : (k : ℕ) → UrgencyCycle (related s) k → k < length (related s).urging → (r : Refusal) × IsUnurged s r
  urgency_cycle k cycle within =
      let at = urging_at k within in
      unurged_by (urgency.UrgencyCycle at.0) (pair_told refusal.UrgencyCycle s at.0) (k, cycle, at.1) refl

  -- the urgency order, or why item_there is none
  urged_or_not : IsAcyclic (feed_edges (related s)) → ((xs : List ℕ) × Urges (related s) xs) ⊎ ((r : Refusal) × IsUnurged s r)
  urged_or_not feeds = elim (urges_or_declined (related s) feeds) [
    | inl x ↦ inl x
    | inr (inl x) ↦ inr (urgency_cycle x.0 x.1 x.2)
    | inr (inr x) ↦ inr (unurged_by (urgency.MethodBehindRule x.0 x.1) (refusal.MethodBehindRule (element_name s.scheme x.0) (element_name s.scheme x.1)) x.2 refl)
  ]

-- ---- a tree

-- there is one schedule
pub one_schedule : (s : Subject) (x y : Schedule) → IsScheduled s x → IsScheduled s y → x ≡ y
one_schedule s x y one other = one_ordered s x y one.ordered other.ordered

module _ (h : TreeData) where
  abbrev s : Subject
  s = subject h

  -- and no refusal beside it
  pub not_both : (made : Schedule) (r : Refusal) → IsScheduled (subject h) made → Unscheduled h r → ⊥
  not_both made r is (Unscheduled.in_rule tells) = not_breached h r is.kept tells
  not_both made r is (Unscheduled.executing kept u) = not_executed s made.execution r is.ordered.executes u
  not_both made r is (Unscheduled.urging kept execution executes u) = not_urged s made.urgency r is.ordered.urges u
  not_both made r is (Unscheduled.asserting kept other ordered u) =
      not_asserted s made other r (one_ordered s made other is.ordered ordered) is.accepted u

  -- the first refusal is one
  pub one_unscheduled : (r t : Refusal) → Unscheduled h r → Unscheduled h t → r ≡ t
  one_unscheduled r t (Unscheduled.in_rule one) (Unscheduled.in_rule other) = one_breach h r t one other
  one_unscheduled r t (Unscheduled.in_rule one) (Unscheduled.executing kept v) = absurd (not_breached h r kept one)
  one_unscheduled r t (Unscheduled.in_rule one) (Unscheduled.urging kept xs x v) = absurd (not_breached h r kept one)
  one_unscheduled r t (Unscheduled.in_rule one) (Unscheduled.asserting kept made o v) = absurd (not_breached h r kept one)
  one_unscheduled r t (Unscheduled.executing kept u) (Unscheduled.in_rule other) = absurd (not_breached h t kept other)
  one_unscheduled r t (Unscheduled.executing kept u) (Unscheduled.executing also v) = one_unexecuted s r t u v
  one_unscheduled r t (Unscheduled.executing kept u) (Unscheduled.urging also xs x v) = absurd (not_executed s xs r x u)
  one_unscheduled r t (Unscheduled.executing kept u) (Unscheduled.asserting also made o v) = absurd (not_executed s made.execution r o.executes u)
  one_unscheduled r t (Unscheduled.urging kept xs x u) (Unscheduled.in_rule other) = absurd (not_breached h t kept other)
  one_unscheduled r t (Unscheduled.urging kept xs x u) (Unscheduled.executing also v) = absurd (not_executed s xs t x v)
  one_unscheduled r t (Unscheduled.urging kept xs x u) (Unscheduled.urging also ys y v) = one_unurged s r t u v
  one_unscheduled r t (Unscheduled.urging kept xs x u) (Unscheduled.asserting also made o v) = absurd (not_urged s made.urgency r o.urges u)
  one_unscheduled r t (Unscheduled.asserting kept made o u) (Unscheduled.in_rule other) = absurd (not_breached h t kept other)
  one_unscheduled r t (Unscheduled.asserting kept made o u) (Unscheduled.executing also v) = absurd (not_executed s made.execution t o.executes v)
  one_unscheduled r t (Unscheduled.asserting kept made o u) (Unscheduled.urging also xs x v) = absurd (not_urged s made.urgency t o.urges v)
  one_unscheduled r t (Unscheduled.asserting kept made o u) (Unscheduled.asserting also other p v) =
      one_mark s made other r t (one_ordered s made other o p) u v

  abbrev Outcome : Type 0
  Outcome = ((made : Schedule) × IsScheduled (subject h) made) ⊎ ((r : Refusal) × Unscheduled h r)

  by_marks : ((n : ℕ) → KeepsTheRule (tree_scheme h) n) → (made : Schedule) → IsOrdered (subject h) made
      → (answer : Result (Unit {0}) AttrFault) → IsAnswer (tree_scheme h) made answer → Outcome
  by_marks kept made ordered (Ok x) is = inl (made, record { kept = kept; ordered = ordered; accepted = is })
  by_marks kept made ordered (Err (NoImplicit r place)) is =
      inr (implicit_told s r place, Unscheduled.asserting kept made ordered (IsUnasserted.implicit r place is))
  by_marks kept made ordered (Err (FireWhenEnabled r f)) is =
      inr (stopper_told s r f, Unscheduled.asserting kept made ordered (IsUnasserted.stopped r f is))

  by_urgency : ((n : ℕ) → KeepsTheRule (tree_scheme h) n) → (xs : List ℕ) → Executes (related (subject h)) xs
      → ((ys : List ℕ) × Urges (related (subject h)) ys) ⊎ ((r : Refusal) × IsUnurged (subject h) r) → Outcome
  by_urgency kept xs x (inl u) =
      let lists = stops_exist (related s) xs u.0 in
      let made : Schedule = record { execution = xs; urgency = u.0; stops = lists.0 } in
      let answer = marks.some (tree_scheme h) made in
      by_marks kept made (record { executes = x; urges = u.1; stops = lists.1 }) answer.0 answer.1
  by_urgency kept xs x (inr u) = inr (u.0, Unscheduled.urging kept xs x u.1)

  by_execution : ((n : ℕ) → KeepsTheRule (tree_scheme h) n)
      → ((xs : List ℕ) × Executes (related (subject h)) xs) ⊎ ((r : Refusal) × IsUnexecuted (subject h) r) → Outcome
  by_execution kept (inl x) = by_urgency kept x.0 x.1 (urged_or_not s x.1.feeds)
  by_execution kept (inr u) = inr (u.0, Unscheduled.executing kept u.1)

  -- item_there is a schedule, or a first refusal
  pub decided : ((made : Schedule) × IsScheduled (subject h) made) ⊎ ((r : Refusal) × Unscheduled h r)
  decided = elim (tree_decides h) [
    | inl kept ↦ by_execution kept (executed_or_not s)
    | inr found ↦ (let r = told_of h found in inr (r.0, Unscheduled.in_rule r.1))
  ]
