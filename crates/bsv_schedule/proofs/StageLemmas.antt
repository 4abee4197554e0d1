-- What the graph of the hard edges is, stage by stage.
use Rattle.std.proofs.Common.{◌≡◌, ℕ, ◌+◌, ◌<◌, inl, inr, Bool, true, false, List, [], ◌∷◌, ◌++◌, add-one, refl, suc, subst, arith}
use Rattle.std.proofs.lemmas.Bool.{cases_lt}
use Rattle.std.specs.Prelude.{IsTrue, if◌then◌else◌}
use Rattle.bsv_graph.specs.declared.edge.Edge.{Edge}
use Rattle.bsv_graph.specs.declared.graph.Graph.{Graph}
use Rattle.bsv_graph.specs.Graphs.{IsGraphOf}
use Rattle.bsv_schedule.specs.execution_order.Orders.{IsValueClash}
use Rattle.bsv_schedule.specs.relating.Relating.{Relating, feed_edges, value_edges, early_edges, is_value_edge, goes_only}
use Rattle.bsv_graph.specs.Walks.{HasEdge, Walk, IsAcyclic}
use Rattle.bsv_graph.proofs.EdgeLemmas.{where_of, where_has}
use Rattle.bsv_schedule.proofs.ValueLemmas.{early_down, early_zero}
use Rattle.bsv_graph.proofs.WalkLemmas.{edge_parts, edge_left, edge_right, marks_same, walk_map}
use Rattle.bsv_graph.specs.Edges.{edges_from}
use Rattle.std.proofs.lemmas.List.Elements.{filter-append}
use Rattle.std.proofs.Common.{map, ap}
use Rattle.std.proofs.lemmas.List.{map-append}
use Rattle.bsv_schedule.specs.execution_order.Between.{edge_between, edges_between}
use Rattle.bsv_schedule.proofs.BetweenLemmas.{value_there, value_back, value_up}

-- the edges of one value method more
module _ (r : Relating) (v : ℕ) (is_value : r.value v ≡ true) (l : v < r.count) (fs : List Edge) where
  pub more_there : (a b : ℕ) → HasEdge (edges_between r v r.count ++ (value_edges r v ++ fs)) a b → HasEdge (value_edges r (suc v) ++ fs) a b
  more_there a b h = elim (edge_parts (edges_between r v r.count) (value_edges r v ++ fs) a b h) [
    | inl k ↦ edge_left (value_edges r (suc v)) fs a b (value_there r v is_value l a b (edge_left (edges_between r v r.count) (value_edges r v) a b k))
    | inr k ↦ elim (edge_parts (value_edges r v) fs a b k) [
      | inl i ↦ edge_left (value_edges r (suc v)) fs a b (value_there r v is_value l a b (edge_right (edges_between r v r.count) (value_edges r v) a b i))
      | inr i ↦ edge_right (value_edges r (suc v)) fs a b i
    ]
  ]

  pub more_back : (a b : ℕ) → HasEdge (value_edges r (suc v) ++ fs) a b → HasEdge (edges_between r v r.count ++ (value_edges r v ++ fs)) a b
  more_back a b h = elim (edge_parts (value_edges r (suc v)) fs a b h) [
    | inl k ↦ elim (edge_parts (edges_between r v r.count) (value_edges r v) a b (value_back r v is_value a b k)) [
      | inl i ↦ edge_left (edges_between r v r.count) (value_edges r v ++ fs) a b i
      | inr i ↦ edge_right (edges_between r v r.count) (value_edges r v ++ fs) a b (edge_left (value_edges r v) fs a b i)
    ]
    | inr k ↦ edge_right (edges_between r v r.count) (value_edges r v ++ fs) a b (edge_right (value_edges r v) fs a b k)
  ]

  pub graph_more : (g : Graph) → IsGraphOf (edges_between r v r.count ++ (value_edges r v ++ fs)) g → IsGraphOf (value_edges r (suc v) ++ fs) g
  graph_more g m = marks_same (edges_between r v r.count ++ (value_edges r v ++ fs)) (value_edges r (suc v) ++ fs) g.reach more_there more_back m

  pub acyclic_more : IsAcyclic (edges_between r v r.count ++ (value_edges r v ++ fs)) → IsAcyclic (value_edges r (suc v) ++ fs)
  acyclic_more f a w = f a (walk_map more_back w)

  pub acyclic_less : IsAcyclic (value_edges r (suc v) ++ fs) → IsAcyclic (edges_between r v r.count ++ (value_edges r v ++ fs))
  acyclic_less f a w = f a (walk_map more_there w)

  pub cycle_more : (a : ℕ) → Walk (edges_between r v r.count ++ (value_edges r v ++ fs)) a a → Walk (value_edges r (suc v) ++ fs) a a
  cycle_more a w = walk_map more_there w

if_first : (t u w : Bool) (f g : Edge) → t ≡ false → u ≡ true → (if t then [] else if u then f ∷ [] else if w then g ∷ [] else []) ≡ f ∷ []
if_first true u w f g p q = cc
if_first false true w f g p q = refl
if_first false false w f g p q = cc

if_second : (t u w : Bool) (f g : Edge) → t ≡ false → u ≡ false → w ≡ true → (if t then [] else if u then f ∷ [] else if w then g ∷ [] else []) ≡ g ∷ []
if_second true u w f g p q s = cc
if_second false true w f g p q s = cc
if_second false false true f g p q s = refl
if_second false false false f g p q s = cc

pub between_first : (r : Relating) (v e : ℕ) → r.value e ≡ false → goes_only r v e ≡ true → edge_between r v e ≡ record { from = v; to = e } ∷ []
between_first r v e p q = if_first (r.value e) (goes_only r v e) (goes_only r e v) (record { from = v; to = e }) (record { from = e; to = v }) p q

pub between_second : (r : Relating) (v e : ℕ) → r.value e ≡ false → goes_only r v e ≡ false → goes_only r e v ≡ true → edge_between r v e ≡ record { from = e; to = v } ∷ []
between_second r v e p q s = if_second (r.value e) (goes_only r v e) (goes_only r e v) (record { from = v; to = e }) (record { from = e; to = v }) p q s

-- an element that is no value method has no such edges
module _ (r : Relating) (v : ℕ) (other : r.value v ≡ false) where
  more_test : (a b : ℕ) → IsTrue (is_value_edge r v a b) → IsTrue (is_value_edge r (suc v) a b)
  more_test a b h = value_up r v a b h

  other_there : (fs : List Edge) (a b : ℕ) → HasEdge (value_edges r v ++ fs) a b → HasEdge (value_edges r (suc v) ++ fs) a b
  other_there fs a b h = elim (edge_parts (value_edges r v) fs a b h) [
    | inl k ↦ let t = where_of (is_value_edge r v) r.count a b k in edge_left (value_edges r (suc v)) fs a b (where_has (is_value_edge r (suc v)) r.count a b t.0 t.1 (more_test a b t.2))
    | inr k ↦ edge_right (value_edges r (suc v)) fs a b k
  ]

  pub graph_other : (g : Graph) → IsGraphOf (early_edges r v) g → IsGraphOf (early_edges r (suc v)) g
  graph_other g m = marks_same (early_edges r v) (early_edges r (suc v)) g.reach (other_there (feed_edges r)) (early_down r v other) m

-- at first there are the feeds alone
module _ (r : Relating) where
  pub graph_zero : (g : Graph) → IsGraphOf (feed_edges r) g → IsGraphOf (early_edges r 0) g
  graph_zero g m = marks_same (feed_edges r) (early_edges r 0) g.reach (λ a b h. edge_right (value_edges r 0) (feed_edges r) a b h) (early_zero r) m

  pub clash_next : (v : ℕ) → ((u : ℕ) → u < v → ¬ IsValueClash r u) → ¬ IsValueClash r v → (u : ℕ) → u < v + 1 → ¬ IsValueClash r u
  clash_next v f n u l c = elim (cases_lt u v) [
    | inl lt ↦ f u lt c
    | inr ge ↦ let e : u ≡ v = omega arith in n (subst (λ i. IsValueClash r i) e c)
  ]

abbrev pub edge_if : Bool → ℕ → ℕ → List Edge
edge_if b a k = if b then record { from = a; to = k } ∷ [] else []

pub from_more : (test : ℕ → ℕ → Bool) (k a : ℕ) (b : Bool) → b ≡ test a k → edges_from test k a ++ edge_if b a k ≡ edges_from test (k + 1) a
from_more test k a b e = rw (add-one, filter-append, map-append) (ap (λ z. edges_from test k a ++ z) (go (test a k) b e))
  where
    go : (t c : Bool) → c ≡ t → edge_if c a k ≡ map (λ d. record { from = a; to = d }) (if t then k ∷ [] else [])
    go true true e = refl
    go true false e = cc
    go false true e = cc
    go false false e = refl
