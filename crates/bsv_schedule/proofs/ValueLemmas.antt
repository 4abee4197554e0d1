-- The edges of value methods, from those of the methods before a position to those of one more.
use Rattle.std.proofs.Common.{◌≡◌, ℕ, inl, inr, Bool, true, false, refl, suc, subst, arith}
use Rattle.std.proofs.lemmas.Bool.{cases_eq, and_parts, and_from, lt-ltb, ltb-true}
use Rattle.std.specs.Prelude.{IsTrue, if◌then◌else◌, ◌&&◌, ◌||◌, not, nat_lt}
use Rattle.bsv_schedule.specs.execution_order.Orders.{IsValueClash}
use Rattle.bsv_schedule.specs.relating.Relating.{Relating, feed_edges, goes_only, is_one_value, value_of, is_value_edge, value_edges, early_edges}
use Rattle.bsv_graph.specs.Walks.{HasEdge, IsAcyclic}
use Rattle.bsv_graph.proofs.EdgeLemmas.{where_has, where_of}
use Rattle.bsv_graph.proofs.WalkLemmas.{edge_parts, edge_left, edge_right, walk_map}

value_is : (r : Relating) (a b : ℕ) → IsTrue (is_one_value r a b) → IsTrue (r.value (value_of r a b))
value_is r a b h = go (r.value a) refl h
  where
    go : (x : Bool) → r.value a ≡ x → IsTrue ((x && not (r.value b)) || (not x && r.value b)) → IsTrue (r.value (if x then a else b))
    go true p k = p
    go false p k = go' (r.value b) k
      where
        go' : (y : Bool) → IsTrue ((false && not y) || (not false && y)) → IsTrue y
        go' true k = refl
        go' false k = cc

-- an element that is no value method has no edges of the second case
module _ (r : Relating) (v : ℕ) (other : r.value v ≡ false) where
  value_down : (a b : ℕ) → IsTrue (is_value_edge r (suc v) a b) → IsTrue (is_value_edge r v a b)
  value_down a b h =
      let t = and_parts (is_one_value r a b && goes_only r a b) (nat_lt (value_of r a b) (suc v)) h in
      let u = and_parts (is_one_value r a b) (goes_only r a b) t.0 in
      elim (cases_eq (value_of r a b) v) [
        | inl e ↦ let k : r.value v ≡ true = subst (λ z. IsTrue (r.value z)) e (value_is r a b u.0) in cc
        | inr ne ↦ and_from (is_one_value r a b && goes_only r a b) (nat_lt (value_of r a b) v)
            t.0 (lt-ltb (value_of r a b) v (omega (arith, ne, ltb-true (value_of r a b) (suc v) t.1)))
      ]

  pub early_down : (a b : ℕ) → HasEdge (early_edges r (suc v)) a b → HasEdge (early_edges r v) a b
  early_down a b h = elim (edge_parts (value_edges r (suc v)) (feed_edges r) a b h) [
    | inl k ↦ let t = where_of (is_value_edge r (suc v)) r.count a b k in
        edge_left (value_edges r v) (feed_edges r) a b (where_has (is_value_edge r v) r.count a b t.0 t.1 (value_down a b t.2))
    | inr k ↦ edge_right (value_edges r v) (feed_edges r) a b k
  ]

-- at first there are the feeds alone
value_zero : (r : Relating) (a b : ℕ) → IsTrue (is_value_edge r 0 a b) → ⊥
value_zero r a b h =
    let t = and_parts (is_one_value r a b && goes_only r a b) (nat_lt (value_of r a b) 0) h in
    absurd (omega (arith, ltb-true (value_of r a b) 0 t.1))

pub early_zero : (r : Relating) (a b : ℕ) → HasEdge (early_edges r 0) a b → HasEdge (feed_edges r) a b
early_zero r a b h = elim (edge_parts (value_edges r 0) (feed_edges r) a b h) [
  | inl k ↦ absurd (value_zero r a b (where_of (is_value_edge r 0) r.count a b k).2)
  | inr k ↦ k
]

pub acyclic_zero : (r : Relating) → IsAcyclic (feed_edges r) → IsAcyclic (early_edges r 0)
acyclic_zero r f a w = f a (walk_map (early_zero r) w)

pub acyclic_next : (r : Relating) (v : ℕ) → IsAcyclic (early_edges r v) → ¬ IsValueClash r v → IsAcyclic (early_edges r (suc v))
acyclic_next r v f n a w = go (r.value v) refl
  where
    go : (x : Bool) → r.value v ≡ x → ⊥
    go true e = n (e, inr (a, w))
    go false e = f a (walk_map (early_down r v e) w)
