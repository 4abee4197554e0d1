use Rattle.std.proofs.Common.{◌≡◌, ◌≢◌, ℕ, ◌+◌, ◌*◌, ◌<◌, ◌⊎◌, inl, inr, Bool, true, false, List, length, get_or, set, replicate, refl, zero, suc, sym, ◌∙◌, arith}
use Rattle.std.proofs.Common.{get_or-set_same, get_or-set_other}
use Rattle.std.proofs.lemmas.Bool.{cases_eq, cases_lt}
use Rattle.std.proofs.lemmas.Nat.{same_from_place, mul-add-lt}
use Rattle.std.specs.Prelude.{IsTrue}
use Rattle.bsv_graph.specs.declared.table.Table.{Table}
use Rattle.bsv_graph.specs.Growing.{IsClosed, IsRowClosed, GrownAt}
use Rattle.bsv_graph.specs.Table.{at, Adds}

-- one step after another
module _ (t0 t1 t2 : Table) (P Q R : ℕ → ℕ → Type 0) where
  pub adds_then : Adds t0 t1 P → Adds t1 t2 Q
      → ((a b : ℕ) → a < t0.side → b < t0.side → R a b → IsTrue (at t0 a b) ⊎ (P a b ⊎ Q a b))
      → ((a b : ℕ) → a < t0.side → b < t0.side → P a b → IsTrue (at t0 a b) ⊎ R a b)
      → ((a b : ℕ) → a < t0.side → b < t0.side → Q a b → IsTrue (at t0 a b) ⊎ R a b)
      → Adds t0 t2 R
  adds_then u v split first second = record {
    side = v.side ∙ u.side;
    kept = λ a b p q h. v.kept a b (omega arith) (omega arith) (u.kept a b p q h);
    added = λ a b p q h. elim (split a b p q h) [
      | inl x ↦ v.kept a b (omega arith) (omega arith) (u.kept a b p q x)
      | inr (inl x) ↦ v.kept a b (omega arith) (omega arith) (u.added a b p q x)
      | inr (inr x) ↦ v.added a b (omega arith) (omega arith) x
    ];
    only = λ a b p q h. elim (v.only a b (omega arith) (omega arith) h) [
      | inl x ↦ elim (u.only a b p q x) [ inl y ↦ inl y | inr y ↦ first a b p q y ]
      | inr x ↦ second a b p q x
    ];
  }

-- one mark more in the cells of a square
module _ (xs : List Bool) (n a b : ℕ) (p : a < n) (q : b < n) (size : length xs ≡ n * n) where
  place_in : a * n + b < length xs
  place_in = rw size (mul-add-lt a n b n p q)

  pub mark_same : get_or (set xs (a * n + b) true) (a * n + b) false ≡ true
  mark_same = get_or-set_same xs (a * n + b) true false place_in

  pub mark_kept : (i : ℕ) → get_or xs i false ≡ true → get_or (set xs (a * n + b) true) i false ≡ true
  mark_kept i h = elim (cases_eq i (a * n + b)) [
    | inl e ↦ rw e mark_same
    | inr ne ↦ get_or-set_other xs (a * n + b) i true false ne ∙ h
  ]

  pub mark_only : (x y : ℕ) → y < n → get_or (set xs (a * n + b) true) (x * n + y) false ≡ true
      → (get_or xs (x * n + y) false ≡ true) ⊎ ((x ≡ a) × (y ≡ b))
  mark_only x y r h = elim (cases_eq (x * n + y) (a * n + b)) [
    | inl e ↦ inr (same_from_place x y a b n r q e)
    | inr ne ↦ inl (sym (get_or-set_other xs (a * n + b) (x * n + y) true false ne) ∙ h)
  ]

-- no mark among copies of `false`
pub none_marked : (m i : ℕ) → get_or (replicate m false) i false ≡ false
none_marked zero i = refl
none_marked (suc m) zero = refl
none_marked (suc m) (suc i) = none_marked m i

-- what an edge adds to the rows below k, but to row `to`
abbrev pub GrownBelow : Table → ℕ → ℕ → ℕ → ℕ → ℕ → Type 0
GrownBelow t k from to i j = (i < k) × (i ≢ to) × ((i ≡ from) ⊎ IsTrue (at t i from)) × ((j ≡ to) ⊎ IsTrue (at t to j))

module _ (t0 t1 t2 : Table) (k from to : ℕ) (p : k < t0.side) (q : from < t0.side) (r : to < t0.side)
    (closed : IsClosed t0) (g : Adds t0 t1 (GrownBelow t0 k from to)) where
  -- rows k and `to` are as they were
  kept_row : (i j : ℕ) → i < t0.side → j < t0.side → (i < k → i ≡ to) → IsTrue (at t1 i j) → IsTrue (at t0 i j)
  kept_row i j u v far h = elim (g.only i j u v h) [ inl x ↦ x | inr x ↦ absurd (x.1 (far x.0)) ]

  row_k : (j : ℕ) → j < t0.side → IsTrue (at t1 k j) → IsTrue (at t0 k j)
  row_k j v h = kept_row k j p v (λ b. absurd (omega (arith, b))) h

  row_to : (j : ℕ) → j < t0.side → IsTrue (at t1 to j) → IsTrue (at t0 to j)
  row_to j v h = kept_row to j r v (λ b. refl) h

  pub row_closed : IsRowClosed t1 k to
  row_closed j v h i =
      g.kept k j p (omega (arith, g.side)) (closed k to j p r (omega (arith, g.side)) (row_k to r h) (row_to j (omega (arith, g.side)) i))

  source_in : (x : ℕ) → (x ≡ k) → (x ≡ from) ⊎ IsTrue (at t1 x from) → (x ≡ from) ⊎ IsTrue (at t0 x from)
  source_in x e (inl h) = inl h
  source_in x e (inr h) = inr (rw e (row_k from q (rw e at h)))

  source_out : (x : ℕ) → x < t0.side → (x ≡ from) ⊎ IsTrue (at t0 x from) → (x ≡ from) ⊎ IsTrue (at t1 x from)
  source_out x u (inl h) = inl h
  source_out x u (inr h) = inr (g.kept x from u q h)

  target_in : (j : ℕ) → j < t0.side → (j ≡ to) ⊎ IsTrue (at t1 to j) → (j ≡ to) ⊎ IsTrue (at t0 to j)
  target_in j v (inl h) = inl h
  target_in j v (inr h) = inr (row_to j v h)

  target_out : (j : ℕ) → j < t0.side → (j ≡ to) ⊎ IsTrue (at t0 to j) → (j ≡ to) ⊎ IsTrue (at t1 to j)
  target_out j v (inl h) = inl h
  target_out j v (inr h) = inr (g.kept to j r v h)

  pub grow_more : Adds t1 t2 (GrownAt t1 k from to) → Adds t0 t2 (GrownBelow t0 (k + 1) from to)
  grow_more w = adds_then t0 t1 t2 (GrownBelow t0 k from to) (GrownAt t1 k from to) (GrownBelow t0 (k + 1) from to) g w
      (λ a b u v h. elim (cases_lt a k) [
        | inl lt ↦ inr (inl (lt, h.1, h.2, h.3))
        | inr ge ↦ let e : a ≡ k = omega (arith, h.0) in
            inr (inr (e, rw e at h.1, source_out k p (rw e at h.2), target_out b v h.3))
      ])
      (λ a b u v h. inr (omega (arith, h.0), h.1, h.2, h.3))
      (λ a b u v h. inr (omega (arith, h.0), rw (h.0) h.1, rw (h.0) (source_in k refl h.2), target_in b v h.3))
