-- Each of the two orders is one, has the pairs of its attributes, and has what a clock needs of it.
use Rattle.std.proofs.Common.{◌≡◌, ◌≢◌, ℕ, ◌<◌, inl, inr, List, ◌∷◌, ◌++◌, refl}
use Rattle.std.specs.Prelude.{IsTrue, IsFalse}
use Rattle.std.proofs.lemmas.Bool.{cases_Bool}
use Rattle.bsv_graph.specs.Orders.{In, IsBefore, place_of}
use Rattle.bsv_graph.specs.Walks.{HasEdge}
use Rattle.bsv_graph.proofs.EdgeLemmas.{where_has, within_all}
use Rattle.bsv_graph.proofs.LeastLemmas.{in_right, once_apart}
use Rattle.bsv_graph.proofs.OrderedLemmas.{least_one, keeps_one, keeps_has, respects_split, respects_before, either_before, split_before, before_in, place_before}
use Rattle.bsv_graph.proofs.WalkLemmas.{edge_left, edge_right}
use Rattle.bsv_schedule.specs.relating.Relating.{Relating, Agrees, feed_edges, value_edges, early_edges, hard_edges}
use Rattle.bsv_schedule.specs.execution_order.Orders.{ExecutionOrder}
use Rattle.bsv_schedule.specs.urgency_order.Orders.{urgency_edges, UrgencyOrder}
use Rattle.bsv_schedule.specs.stopping.Stops.{Stops, Ordered}

pub execution_one : (r : Relating) (xs ys : List ℕ) → ExecutionOrder r xs → ExecutionOrder r ys → xs ≡ ys
execution_one r xs ys p q = least_one r.count p.0 xs ys p.2 (rw (keeps_one q.1 p.1) at q.2)

-- the pairs of the attributes are in the orders
pub ordering_before : (r : Relating) (xs : List ℕ) (a b : ℕ) → Agrees r → ExecutionOrder r xs → HasEdge r.ordering a b → IsBefore xs a b
ordering_before r xs a b g x h =
    let w = within_all r.count r.ordering g.ordering a b h in
    respects_before x.0 xs a b x.2.respects (x.2.order.each a w.0) (x.2.order.each b w.1) (keeps_has a b x.1 (edge_left r.ordering (early_edges r r.count) a b h))

pub urging_stands : (r : Relating) (xs : List ℕ) (a b : ℕ) → Agrees r → UrgencyOrder r xs → HasEdge r.urging a b → IsBefore xs a b
urging_stands r xs a b g u h =
    let w = within_all r.count r.urging g.urging a b h in
    respects_before (urgency_edges r) xs a b u.respects (u.order.each a w.0) (u.order.each b w.1) (edge_left r.urging (feed_edges r) a b h)

module _ (r : Relating) (execution urgency : List ℕ) (agrees : Agrees r) (x : ExecutionOrder r execution) (u : UrgencyOrder r urgency) where
  feed_hard : (a b : ℕ) → a < r.count → b < r.count → IsTrue (r.feeds a b) → HasEdge (hard_edges r) a b
  feed_hard a b p q h = edge_right r.ordering (early_edges r r.count) a b
      (edge_right (value_edges r r.count) (feed_edges r) a b (where_has r.feeds r.count a b p q h))

  feed_urging : (a b : ℕ) → a < r.count → b < r.count → IsTrue (r.feeds a b) → HasEdge (urgency_edges r) a b
  feed_urging a b p q h = edge_right r.urging (feed_edges r) a b (where_has r.feeds r.count a b p q h)

  x_below : (a : ℕ) → In execution a → a < r.count
  x_below a i = x.2.order.below a i

  no_later' : (before behind : List ℕ) (e f : ℕ) → execution ≡ before ++ (e ∷ behind) → In (e ∷ behind) f → IsFalse (r.feeds f e)
  no_later' before behind e f p i = elim (cases_Bool (r.feeds f e)) [
    | inr h ↦ h
    | inl h ↦ absurd (respects_split x.0 before behind e f (rw p at x.2.respects) i
        (keeps_has f e x.1 (feed_hard f e (x_below f (rw p (in_right before (e ∷ behind) f i))) (x_below e (rw p (in_right before (e ∷ behind) e (inl refl)))) h)))
  ]

  clash_stops : (e f : ℕ) → IsBefore execution f e → f ≢ e → IsFalse (r.goes f e) → ¬ Stops r execution urgency f e → ¬ Stops r execution urgency e f → ⊥
  clash_stops e f h n g p q =
      let k = before_in execution f e h in
      elim (either_before urgency f e (u.order.each f (x_below f k.0)) (u.order.each e (x_below e k.1)) n) [
        | inl b ↦ p (inl (b, inl (h, g)))
        | inr b ↦ q (inl (b, inr (h, g)))
      ]

  no_clash' : (before behind : List ℕ) (e f : ℕ) → execution ≡ before ++ (e ∷ behind) → In before f
      → ¬ Stops r execution urgency f e → ¬ Stops r execution urgency e f → IsTrue (r.goes f e)
  no_clash' before behind e f p i m n = elim (cases_Bool (r.goes f e)) [
    | inl g ↦ g
    | inr g ↦ absurd (clash_stops e f (rw p (split_before before behind e f i))
        (λ k. once_apart before (e ∷ behind) f (rw p at x.2.order.once) i (inl k)) g m n)
  ]

  stops_before' : (a b : ℕ) → Stops r execution urgency a b → place_of urgency a < place_of urgency b
  stops_before' a b (inl k) = place_before urgency a b u.order.once k.0
  stops_before' a b (inr k) = place_before urgency a b u.order.once (urging_stands r urgency a b agrees u (agrees.preempts a b k))

  feeds_before' : (a b : ℕ) → a < r.count → b < r.count → IsTrue (r.feeds a b) → place_of urgency a < place_of urgency b
  feeds_before' a b p q h = place_before urgency a b u.order.once
      (respects_before (urgency_edges r) urgency a b u.respects (u.order.each a p) (u.order.each b q) (feed_urging a b p q h))

  pub ordered_holds : Ordered r execution urgency
  ordered_holds = record {
    no_later = no_later';
    no_clash = no_clash';
    feeds_before = feeds_before';
    stops_before = stops_before';
  }
