-- There is an execution order or a fault, and an urgency order or a fault; and what stops what is one.
use Rattle.std.proofs.Common.{◌≡◌, ℕ, ◌<◌, ◌≤◌, ◌⊎◌, inl, inr, Bool, List, [], ◌∷◌, ◌++◌, length, get_or, map, refl, zero, suc, sym, ◌∙◌, ap, subst, arith}
use Rattle.std.proofs.lemmas.List.{same_lists}
use Rattle.std.proofs.lemmas.List.FromFn.{length-map-range_with_len, get_or-map-range_with_len}
use Rattle.std.proofs.lemmas.Option.{slice_get-get_or, get_or_from_slice_get}
use Rattle.std.specs.List.{range_with_len}
use Rattle.std.specs.Prelude.{IsTrue, IsFalse, slice_get, Some}
use Rattle.std.proofs.lemmas.Bool.{cases_Bool}
use Rattle.bsv_graph.specs.declared.edge.Edge.{Edge}
use Rattle.bsv_graph.specs.Edges.{edges_where}
use Rattle.bsv_schedule.specs.execution_order.Orders.{HasNeither, IsValueClash, NoValueClash, WireCycle, ValueClash, ExecutionCycle, Executes}
use Rattle.bsv_graph.specs.Orders.{In, IsBefore}
use Rattle.bsv_graph.specs.Reaching.{AreWithin}
use Rattle.bsv_schedule.specs.relating.Relating.{Relating, feed_edges, is_value_edge, value_edges, early_edges, hard_edges, soft_edges}
use Rattle.bsv_schedule.specs.stopping.Stops.{Stops, Picks, AreStops}
use Rattle.bsv_schedule.specs.urgency_order.Orders.{urgency_edges, UrgencyOrder, IsBehindRule, IsFirstRule, UrgencyCycle, MethodBehindRule, Urges}
use Rattle.bsv_graph.specs.Walks.{HasCycle, IsAcyclic, NoneCloses}
use Rattle.bsv_graph.proofs.EdgeLemmas.{where_of}
use Rattle.bsv_graph.proofs.OrderedLemmas.{before_in}
use Rattle.bsv_graph.proofs.WalkLemmas.{edge_parts, keeps_acyclic, none_acyclic}
use Rattle.bsv_schedule.proofs.ValueLemmas.{acyclic_zero, acyclic_next}
use Rattle.bsv_graph.proofs.Deciding.{Decided, decide_both, decide_either, decide_true, decide_false, decide_before, first_with, cycle_or_none}
use Rattle.bsv_graph.proofs.Existing.{least_exists, keeps_exists, closes_or_none}

-- all edges lead between elements
where_within : (test : ℕ → ℕ → Bool) (n : ℕ) → AreWithin n (edges_where n test)
where_within test n a b h = let p = where_of test n a b h in (p.0, p.1)

both_within : (n : ℕ) (xs ys : List Edge) → AreWithin n xs → AreWithin n ys → AreWithin n (xs ++ ys)
both_within n xs ys f g a b h = elim (edge_parts xs ys a b h) [ inl k ↦ f a b k | inr k ↦ g a b k ]

early_within : (r : Relating) (k : ℕ) → AreWithin r.count (early_edges r k)
early_within r k = both_within r.count (value_edges r k) (feed_edges r) (where_within (is_value_edge r k) r.count) (where_within r.feeds r.count)

-- e is no value method, and neither of e and v goes before the other
abbrev IsApart : Relating → ℕ → ℕ → Type 0
IsApart r v e = IsFalse (r.value e) × IsFalse (r.goes v e) × IsFalse (r.goes e v)

decide_apart : (r : Relating) (v e : ℕ) → Decided (IsApart r v e)
decide_apart r v e = elim (decide_both (decide_false (r.value e)) (decide_both (decide_false (r.goes v e)) (decide_false (r.goes e v)))) [
  | inl h ↦ inl (h.0, h.1.0, h.1.1)
  | inr n ↦ inr (λ h. n (h.0, (h.1, h.2)))
]

decide_neither : (r : Relating) (v : ℕ) → Decided (HasNeither r v)
decide_neither r v = elim (first_with (IsApart r v) (decide_apart r v) r.count) [
  | inl f ↦ inr (λ h. f h.0 h.1 (h.2, h.3, h.4))
  | inr x ↦ inl (x.0, x.1.below, x.1.holds.0, x.1.holds.1, x.1.holds.2)
]

decide_cycle : (n : ℕ) (es : List Edge) → AreWithin n es → Decided (HasCycle es)
decide_cycle n es f = elim (cycle_or_none n es f) [
  | inl g ↦ inr (λ h. g h.0 h.1)
  | inr x ↦ inl (x.0, x.1.cycle)
]

decide_clash : (r : Relating) (v : ℕ) → Decided (IsValueClash r v)
decide_clash r v = decide_both (decide_true (r.value v))
    (decide_either (decide_neither r v) (decide_cycle r.count (early_edges r (suc v)) (early_within r (suc v))))

-- the hard edges of the first two cases have no cycle where no value method clashes
early_acyclic : (r : Relating) → IsAcyclic (feed_edges r) → NoValueClash r → (k : ℕ) → k ≤ r.count → IsAcyclic (early_edges r k)
early_acyclic r f n zero h a w = acyclic_zero r f a w
early_acyclic r f n (suc k) h a w = acyclic_next r k (early_acyclic r f n k (omega arith)) (n k (omega arith)) a w

execution_exists : (r : Relating) → IsAcyclic (feed_edges r) → NoValueClash r → NoneCloses (early_edges r r.count) r.ordering
    → (xs : List ℕ) × Executes r xs
execution_exists r f n p =
    let h : IsAcyclic (hard_edges r) = none_acyclic (early_edges r r.count) r.ordering (early_acyclic r f n r.count (omega arith)) p in
    let k = keeps_exists (soft_edges r) (hard_edges r) in
    let x = least_exists k.0 r.count (keeps_acyclic k.1 h) in
    (x.0, record { feeds = f; values = n; pairs = p; order = (k.0, k.1, x.1) })

-- each design has an execution order, or is refused
abbrev pub ExecutionAnswer : Relating → Type 0
ExecutionAnswer r = ((xs : List ℕ) × Executes r xs) ⊎ ((a : ℕ) × WireCycle r a) ⊎ ((v : ℕ) × ValueClash r v)
    ⊎ ((k : ℕ) × ExecutionCycle r k × (k < length r.ordering))

module _ (r : Relating) where
  pairs_answer : IsAcyclic (feed_edges r) → NoValueClash r → ExecutionAnswer r
  pairs_answer f n = elim (closes_or_none (early_edges r r.count) r.ordering) [
    | inl p ↦ inl (execution_exists r f n p)
    | inr x ↦ inr (inr (inr (x.0, (f, n, x.1), x.2)))
  ]

  values_answer : IsAcyclic (feed_edges r) → ExecutionAnswer r
  values_answer f = elim (first_with (IsValueClash r) (decide_clash r) r.count) [
    | inl n ↦ pairs_answer f n
    | inr x ↦ inr (inr (inl (x.0, (f, record { within = x.1.below; clash = x.1.holds; earlier = x.1.lower }))))
  ]

  pub executes_or_refused : ExecutionAnswer r
  executes_or_refused = elim (cycle_or_none r.count (feed_edges r) (where_within r.feeds r.count)) [
    | inl f ↦ values_answer f
    | inr x ↦ inr (inl x)
  ]

-- the rules in front of a method
rule_later : (r : Relating) (y : ℕ) (ys : List ℕ) (p : ℕ) → IsFalse (r.rule y) → IsFirstRule r ys p → IsFirstRule r (y ∷ ys) p
rule_later r y ys p n f = record {
  before = y ∷ f.before;
  behind = f.behind;
  split = ap (λ zs. y ∷ zs) f.split;
  rule = f.rule;
  earlier = λ q j. elim j [ inl e ↦ subst (λ z. IsFalse (r.rule z)) (sym e) n | inr k ↦ f.earlier q k ];
}

first_rule : (r : Relating) (xs : List ℕ) (q : ℕ) → In xs q → IsTrue (r.rule q) → (p : ℕ) × IsFirstRule r xs p
first_rule r [] q i h = absurd i
first_rule r (y ∷ ys) q i h = elim (cases_Bool (r.rule y)) [
  | inl t ↦ (y, record { before = []; behind = ys; split = refl; rule = t; earlier = λ p k. absurd k })
  | inr n ↦ elim i [
    | inl e ↦ let k : IsTrue (r.rule y) = subst (λ z. IsTrue (r.rule z)) e h in cc
    | inr j ↦ let f = first_rule r ys q j h in (f.0, rule_later r y ys f.0 n f.1)
  ]
]

module _ (r : Relating) (xs : List ℕ) where
  decide_rule_before : (m : ℕ) → ((q : ℕ) → In xs q → q < r.count) → Decided ((q : ℕ) × IsTrue (r.rule q) × IsBefore xs q m)
  decide_rule_before m f = elim (first_with (λ q. IsTrue (r.rule q) × IsBefore xs q m) (λ q. decide_both (decide_true (r.rule q)) (decide_before xs q m)) r.count) [
    | inl g ↦ inr (λ h. g h.0 (f h.0 (before_in xs h.0 m h.2).0) (h.1, h.2))
    | inr x ↦ inl (x.0, x.1.holds.0, x.1.holds.1)
  ]

  decide_after : ((q : ℕ) → In xs q → q < r.count) → (m : ℕ) → Decided (IsBehindRule r xs m)
  decide_after f m = elim (decide_both (decide_false (r.value m)) (decide_both (decide_false (r.rule m)) (decide_rule_before m f))) [
    | inl h ↦ inl (record { no_value = h.0; no_rule = h.1.0; behind = h.1.1 })
    | inr n ↦ inr (λ h. n (h.no_value, (h.no_rule, h.behind)))
  ]

-- each design that has no cycle of feeds has an urgency order, or is declined
abbrev pub UrgencyAnswer : Relating → Type 0
UrgencyAnswer r = ((xs : List ℕ) × Urges r xs) ⊎ ((k : ℕ) × UrgencyCycle r k × (k < length r.urging)) ⊎ ((m : ℕ) × (q : ℕ) × MethodBehindRule r m q)

module _ (r : Relating) (feeds : IsAcyclic (feed_edges r)) where
  methods_answer : NoneCloses (feed_edges r) r.urging → (xs : List ℕ) → UrgencyOrder r xs → UrgencyAnswer r
  methods_answer p xs u = elim (first_with (IsBehindRule r xs) (decide_after r xs u.order.below) r.count) [
    | inl f ↦ inl (xs, record { pairs = p; order = u; methods = λ m h. f m (u.order.below m (before_in xs h.behind.0 m h.behind.2).1) h })
    | inr x ↦
        let b = x.1.holds.behind in
        let q = first_rule r xs b.0 (before_in xs b.0 x.0 b.2).0 b.1 in
        inr (inr (
          x.0,
          q.0,
          record {
            pairs = p;
            order = xs;
            least = u;
            method = record { behind = x.1.holds; lower = x.1.lower };
            rule = q.1;
          },
        ))
  ]

  pub urges_or_declined : UrgencyAnswer r
  urges_or_declined = elim (closes_or_none (feed_edges r) r.urging) [
    | inl p ↦ let x = least_exists (urgency_edges r) r.count (none_acyclic (feed_edges r) r.urging feeds p) in methods_answer p x.0 x.1
    | inr x ↦ inr (inl x)
  ]

-- the lists of what each element stops
decide_stops : (r : Relating) (execution urgency : List ℕ) (a b : ℕ) → Decided (Stops r execution urgency a b)
decide_stops r execution urgency a b = decide_either
    (decide_both (decide_before urgency a b) (decide_either
    (decide_both (decide_before execution a b) (decide_false (r.goes a b)))
    (decide_both (decide_before execution b a) (decide_false (r.goes b a)))))
    (decide_true (r.preempts a b))

picks_exist : (P : ℕ → Type 0) → ((a : ℕ) → Decided (P a)) → (us : List ℕ) → (xs : List ℕ) × Picks P us xs
picks_exist P d [] = ([], refl)
picks_exist P d (u ∷ us) =
    let k = picks_exist P d us in
    elim (d u) [ inl p ↦ (u ∷ k.0, inl (p, (k.0, refl, k.1))) | inr n ↦ (k.0, inr (n, k.1)) ]

picks_one : (P : ℕ → Type 0) (us xs ys : List ℕ) → Picks P us xs → Picks P us ys → xs ≡ ys
picks_one P [] xs ys h k = h ∙ sym k
picks_one P (u ∷ us) xs ys (inl h) (inl k) = h.1.1 ∙ ap (λ zs. u ∷ zs) (picks_one P us h.1.0 k.1.0 h.1.2 k.1.2) ∙ sym k.1.1
picks_one P (u ∷ us) xs ys (inl h) (inr k) = absurd (k.0 h.0)
picks_one P (u ∷ us) xs ys (inr h) (inl k) = absurd (h.0 k.0)
picks_one P (u ∷ us) xs ys (inr h) (inr k) = picks_one P us xs ys h.1 k.1

module _ (r : Relating) (execution urgency : List ℕ) where
  stopped : (a : ℕ) → (xs : List ℕ) × Picks (Stops r execution urgency a) urgency xs
  stopped a = picks_exist (Stops r execution urgency a) (decide_stops r execution urgency a) urgency

  abbrev stopped_lists : List (List ℕ)
  stopped_lists = map (λ a. (stopped a).0) (range_with_len 0 r.count)

  stopped_at : (a : ℕ) → a < r.count → slice_get stopped_lists a ≡ Some (stopped a).0
  stopped_at a l = slice_get-get_or stopped_lists a [] (rw (length-map-range_with_len (λ a. (stopped a).0) 0 r.count) l)
      ∙ ap Some (get_or-map-range_with_len (λ a. (stopped a).0) 0 r.count a a [] l (omega arith))

  pub stops_exist : (lists : List (List ℕ)) × AreStops r execution urgency lists
  stops_exist = (
    stopped_lists,
    record {
      count = length-map-range_with_len (λ a. (stopped a).0) 0 r.count;
      each = λ a l. ((stopped a).0, stopped_at a l, (stopped a).1);
    },
  )

  pub stops_one : (xs ys : List (List ℕ)) → AreStops r execution urgency xs → AreStops r execution urgency ys → xs ≡ ys
  stops_one xs ys h k = same_lists xs ys (h.count ∙ sym k.count) (λ a d l. let m : a < r.count = omega (arith, h.count) in go a d (h.each a m) (k.each a m))
    where
      go : (a : ℕ) (d : List ℕ)
          → ((x : List ℕ) × (slice_get xs a ≡ Some x) × Picks (Stops r execution urgency a) urgency x)
          → ((y : List ℕ) × (slice_get ys a ≡ Some y) × Picks (Stops r execution urgency a) urgency y)
          → get_or xs a d ≡ get_or ys a d
      go a d x y = get_or_from_slice_get xs a x.0 d x.1 ∙ picks_one (Stops r execution urgency a) urgency x.0 y.0 x.2 y.2 ∙ sym (get_or_from_slice_get ys a y.0 d y.1)
