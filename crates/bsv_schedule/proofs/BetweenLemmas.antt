-- The edges between a value method and the others one by one are those of the definition.
use Rattle.std.proofs.Common.{◌≡◌, ℕ, ◌<◌, ◌⊎◌, inl, inr, Bool, true, false, [], ◌∷◌, ◌++◌, refl, zero, suc, sym, subst, arith}
use Rattle.std.proofs.lemmas.Bool.{cases_eq, lt-ltb, ltb-true, and_parts, and_from}
use Rattle.std.specs.Prelude.{IsTrue, if◌then◌else◌, ◌&&◌, ◌||◌, not, nat_lt}
use Rattle.bsv_graph.specs.declared.edge.Edge.{Edge}
use Rattle.bsv_schedule.specs.relating.Relating.{Relating, goes_only, is_one_value, value_of, is_value_edge, value_edges}
use Rattle.bsv_graph.specs.Walks.{HasEdge}
use Rattle.bsv_graph.proofs.EdgeLemmas.{where_has, where_of}
use Rattle.bsv_graph.proofs.WalkLemmas.{edge_parts, edge_left, edge_right}
use Rattle.bsv_schedule.specs.execution_order.Between.{edge_between, edges_between}

-- the edges of a value method, as its tests say
pub record TouchesAt (r : Relating) (v a b : ℕ) : Type 0 where
  pub one : IsTrue (is_one_value r a b)
  pub only : IsTrue (goes_only r a b)
  pub value : value_of r a b ≡ v

between_if : (x y : Bool) (f g : Edge) (a b : ℕ) → HasEdge (if x then f ∷ [] else if y then g ∷ [] else []) a b
    → (IsTrue x × (a ≡ f.from) × (b ≡ f.to)) ⊎ (IsTrue y × (a ≡ g.from) × (b ≡ g.to))
between_if true y f g a b (inl h) = inl (refl, h.0, h.1)
between_if true y f g a b (inr h) = absurd h
between_if false true f g a b (inl h) = inr (refl, h.0, h.1)
between_if false true f g a b (inr h) = absurd h
between_if false false f g a b h = absurd h

module _ (r : Relating) (v : ℕ) (is_value : r.value v ≡ true) where
  one_first : (e : ℕ) → r.value e ≡ false → IsTrue (is_one_value r v e) × (value_of r v e ≡ v)
  one_first e h = (rw (is_value, h) refl, rw is_value refl)

  one_second : (e : ℕ) → r.value e ≡ false → IsTrue (is_one_value r e v) × (value_of r e v ≡ v)
  one_second e h = (rw (is_value, h) refl, rw h refl)

  between_of : (e a b : ℕ) → HasEdge (edge_between r v e) a b → TouchesAt r v a b × (((a ≡ v) × (b ≡ e)) ⊎ ((b ≡ v) × (a ≡ e)))
  between_of e a b h = go (r.value e) refl h
    where
      go' : r.value e ≡ false → (IsTrue (goes_only r v e) × (a ≡ v) × (b ≡ e)) ⊎ (IsTrue (goes_only r e v) × (a ≡ e) × (b ≡ v))
          → TouchesAt r v a b × (((a ≡ v) × (b ≡ e)) ⊎ ((b ≡ v) × (a ≡ e)))
      go' n (inl k) = (rw (k.1, k.2) (record { one = (one_first e n).0; only = k.0; value = (one_first e n).1 }), inl (k.1, k.2))
      go' n (inr k) = (rw (k.1, k.2) (record { one = (one_second e n).0; only = k.0; value = (one_second e n).1 }), inr (k.2, k.1))

      go : (t : Bool) → r.value e ≡ t
          → HasEdge (if t then [] else if goes_only r v e then record { from = v; to = e } ∷ [] else if goes_only r e v then record { from = e; to = v } ∷ [] else []) a b
          → TouchesAt r v a b × (((a ≡ v) × (b ≡ e)) ⊎ ((b ≡ v) × (a ≡ e)))
      go true n k = absurd k
      go false n k = go' n (between_if (goes_only r v e) (goes_only r e v) _ _ a b k)

  -- what touches v beside another below k
  between_list : (k a b : ℕ) → HasEdge (edges_between r v k) a b → TouchesAt r v a b × (((a ≡ v) × (b < k)) ⊎ ((b ≡ v) × (a < k)))
  between_list zero a b h = absurd h
  between_list (suc e) a b h = elim (edge_parts (edge_between r v e) (edges_between r v e) a b h) [
    | inl k ↦ let t = between_of e a b k in (t.0, near t.1)
    | inr k ↦ let t = between_list e a b k in (t.0, far t.1)
  ]
    where
      near : ((a ≡ v) × (b ≡ e)) ⊎ ((b ≡ v) × (a ≡ e)) → ((a ≡ v) × (b < suc e)) ⊎ ((b ≡ v) × (a < suc e))
      near (inl h) = inl (h.0, omega (arith, h.1))
      near (inr h) = inr (h.0, omega (arith, h.1))

      far : ((a ≡ v) × (b < e)) ⊎ ((b ≡ v) × (a < e)) → ((a ≡ v) × (b < suc e)) ⊎ ((b ≡ v) × (a < suc e))
      far (inl h) = inl (h.0, omega (arith, h.1))
      far (inr h) = inr (h.0, omega (arith, h.1))

  here_first : (e : ℕ) → r.value e ≡ false → IsTrue (goes_only r v e) → HasEdge (edge_between r v e) v e
  here_first e n h = go (r.value e) (goes_only r v e) n h
    where
      go : (t u : Bool) → t ≡ false → IsTrue u
          → HasEdge (if t then [] else if u then record { from = v; to = e } ∷ [] else if goes_only r e v then record { from = e; to = v } ∷ [] else []) v e
      go true u n h = cc
      go false true n h = inl (refl, refl)
      go false false n h = cc

  not_both : (a b : ℕ) → IsTrue (goes_only r a b) → IsTrue (goes_only r b a) → ⊥
  not_both a b = go (r.goes a b) (r.goes b a)
    where
      go : (x y : Bool) → IsTrue (x && not y) → IsTrue (y && not x) → ⊥
      go true true h k = cc
      go true false h k = cc
      go false y h k = cc

  here_second : (e : ℕ) → r.value e ≡ false → IsTrue (goes_only r e v) → HasEdge (edge_between r v e) e v
  here_second e n h = go (r.value e) (goes_only r v e) (goes_only r e v) n h (λ k. not_both e v h k)
    where
      go : (t u w : Bool) → t ≡ false → IsTrue w → (IsTrue u → ⊥)
          → HasEdge (if t then [] else if u then record { from = v; to = e } ∷ [] else if w then record { from = e; to = v } ∷ [] else []) e v
      go true u w n h k = cc
      go false true w n h k = absurd (k refl)
      go false false true n h k = inl (refl, refl)
      go false false false n h k = cc

  list_has : (k e a b : ℕ) → e < k → HasEdge (edge_between r v e) a b → HasEdge (edges_between r v k) a b
  list_has zero e a b l h = absurd (omega arith)
  list_has (suc k) e a b l h = elim (cases_eq e k) [
    | inl q ↦ edge_left (edge_between r v k) (edges_between r v k) a b (subst (λ z. HasEdge (edge_between r v z) a b) q h)
    | inr ne ↦ edge_right (edge_between r v k) (edges_between r v k) a b (list_has k e a b (omega arith) h)
  ]

  one_cases : (a b : ℕ) → IsTrue (is_one_value r a b) → value_of r a b ≡ v → ((a ≡ v) × (r.value b ≡ false)) ⊎ ((b ≡ v) × (r.value a ≡ false))
  one_cases a b h k = go (r.value a) (r.value b) refl refl h k
    where
      go : (x y : Bool) → r.value a ≡ x → r.value b ≡ y → IsTrue ((x && not y) || (not x && y)) → (if x then a else b) ≡ v
          → ((a ≡ v) × (r.value b ≡ false)) ⊎ ((b ≡ v) × (r.value a ≡ false))
      go true true p q h k = cc
      go true false p q h k = inl (k, q)
      go false true p q h k = inr (k, p)
      go false false p q h k = cc

  touch_list : (n a b : ℕ) → a < n → b < n → TouchesAt r v a b → HasEdge (edges_between r v n) a b
  touch_list n a b p q t = elim (one_cases a b t.one t.value) [
    | inl h ↦ list_has n b a b q (subst (λ z. HasEdge (edge_between r v b) z b) (sym h.0) (here_first b h.1 (subst (λ z. IsTrue (goes_only r z b)) h.0 t.only)))
    | inr h ↦ list_has n a a b p (subst (λ z. HasEdge (edge_between r v a) a z) (sym h.0) (here_second a h.1 (subst (λ z. IsTrue (goes_only r a z)) h.0 t.only)))
  ]

  -- the edges of the value methods up to v
  pub value_there : v < r.count → (a b : ℕ) → HasEdge (edges_between r v r.count ++ value_edges r v) a b → HasEdge (value_edges r (suc v)) a b
  value_there l a b h = elim (edge_parts (edges_between r v r.count) (value_edges r v) a b h) [
    | inl k ↦ let t = between_list r.count a b k in
        where_has (is_value_edge r (suc v)) r.count a b (both t.1).0 (both t.1).1 (test t.0)
    | inr k ↦ let t = where_of (is_value_edge r v) r.count a b k in
        where_has (is_value_edge r (suc v)) r.count a b t.0 t.1 (more (and_parts (is_one_value r a b && goes_only r a b) (nat_lt (value_of r a b) v) t.2))
  ]
    where
      both : ((a ≡ v) × (b < r.count)) ⊎ ((b ≡ v) × (a < r.count)) → (a < r.count) × (b < r.count)
      both (inl h) = (omega (arith, h.0, l), h.1)
      both (inr h) = (h.1, omega (arith, h.0, l))

      test : TouchesAt r v a b → IsTrue (is_value_edge r (suc v) a b)
      test t = and_from (is_one_value r a b && goes_only r a b) (nat_lt (value_of r a b) (suc v))
          (and_from (is_one_value r a b) (goes_only r a b) t.one t.only) (lt-ltb (value_of r a b) (suc v) (omega (arith, t.value)))

      more : IsTrue (is_one_value r a b && goes_only r a b) × IsTrue (nat_lt (value_of r a b) v) → IsTrue (is_value_edge r (suc v) a b)
      more t = and_from (is_one_value r a b && goes_only r a b) (nat_lt (value_of r a b) (suc v))
          t.0 (lt-ltb (value_of r a b) (suc v) (omega (arith, ltb-true (value_of r a b) v t.1)))

  pub value_back : (a b : ℕ) → HasEdge (value_edges r (suc v)) a b → HasEdge (edges_between r v r.count ++ value_edges r v) a b
  value_back a b h =
      let t = where_of (is_value_edge r (suc v)) r.count a b h in
      let u = and_parts (is_one_value r a b && goes_only r a b) (nat_lt (value_of r a b) (suc v)) t.2 in
      let w = and_parts (is_one_value r a b) (goes_only r a b) u.0 in
      elim (cases_eq (value_of r a b) v) [
        | inl e ↦ edge_left (edges_between r v r.count) (value_edges r v) a b (touch_list r.count a b t.0 t.1 (record { one = w.0; only = w.1; value = e }))
        | inr ne ↦ edge_right (edges_between r v r.count) (value_edges r v) a b
            (where_has (is_value_edge r v) r.count a b t.0 t.1 (and_from (is_one_value r a b && goes_only r a b) (nat_lt (value_of r a b) v)
            u.0 (lt-ltb (value_of r a b) v (omega (arith, ne, ltb-true (value_of r a b) (suc v) u.1)))))
      ]

-- a value method more
pub value_up : (r : Relating) (v a b : ℕ) → IsTrue (is_value_edge r v a b) → IsTrue (is_value_edge r (suc v) a b)
value_up r v a b h =
    let t = and_parts (is_one_value r a b && goes_only r a b) (nat_lt (value_of r a b) v) h in
    and_from (is_one_value r a b && goes_only r a b) (nat_lt (value_of r a b) (suc v))
    t.0 (lt-ltb (value_of r a b) (suc v) (omega (arith, ltb-true (value_of r a b) v t.1)))
