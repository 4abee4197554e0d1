-- The graph of the marks of a table, row after row.
use Rattle.std.proofs.Common.{◌≡◌, ℕ, ◌+◌, ◌<◌, ◌≤◌, suc, Bool, true, false, ◌⊎◌, List, [], ◌∷◌, ◌++◌, sym, ◌∙◌, subst, inl, inr, arith}
use Rattle.std.specs.Prelude.{◌&&◌, nat_le, IsTrue}
use Rattle.std.proofs.lemmas.Bool.{and_parts, and_from, cases_eq, le-leb, leb-true}
use Rattle.bsv_graph.specs.declared.edge.Edge.{Edge}
use Rattle.bsv_graph.specs.declared.table.Table.{Table}
use Rattle.bsv_graph.specs.Edges.{numbers_below, edges_from, edges_where}
use Rattle.bsv_graph.specs.Orders.{In}
use Rattle.bsv_graph.specs.Reaching.{Marks}
use Rattle.bsv_graph.specs.Walks.{HasEdge}
use Rattle.bsv_graph.proofs.EdgeLemmas.{passing, passing_has, passing_of, below_in, in_below, where_has, where_of}
use Rattle.bsv_graph.proofs.LeastLemmas.{in_left, in_right, in_parts}
use Rattle.bsv_graph.proofs.WalkLemmas.{edge_left, edge_right, edge_parts, marks_same}

module _ (test : ℕ → ℕ → Bool) where
  has_passing : (a : ℕ) (xs : List ℕ) (x y : ℕ) → x ≡ a → In xs y → IsTrue (test a y) → HasEdge (passing test a xs) x y
  has_passing a xs x y e i h = subst (λ z. HasEdge (passing test a xs) z y) (sym e) (passing_has test a xs y i h)

  -- the row with one more number
  module _ (a b : ℕ) (es : List Edge) (t : Table) where
    abbrev before : List Edge
    before = passing test a (numbers_below b) ++ es

    abbrev after : List Edge
    after = passing test a (numbers_below (suc b)) ++ es

    later : (x y : ℕ) → HasEdge before x y → HasEdge after x y
    later x y h = elim (edge_parts (passing test a (numbers_below b)) es x y h) [
      | inl k ↦ let p = passing_of test a (numbers_below b) x y k in
          edge_left (passing test a (numbers_below (suc b))) es x y (has_passing a (numbers_below (suc b)) x y p.0 (in_left (numbers_below b) (b ∷ []) y p.1) p.2)
      | inr k ↦ edge_right (passing test a (numbers_below (suc b))) es x y k
    ]

    earlier : (x y : ℕ) → HasEdge after x y → HasEdge before x y ⊎ ((x ≡ a) × (y ≡ b) × IsTrue (test a b))
    earlier x y h = elim (edge_parts (passing test a (numbers_below (suc b))) es x y h) [
      | inl k ↦ let p = passing_of test a (numbers_below (suc b)) x y k in
          elim (in_parts (numbers_below b) (b ∷ []) y p.1) [
            | inl i ↦ inl (edge_left (passing test a (numbers_below b)) es x y (has_passing a (numbers_below b) x y p.0 i p.2))
            | inr (inl e) ↦ inr (p.0, e, subst (λ z. IsTrue (test a z)) e p.2)
            | inr (inr i) ↦ absurd i
          ]
      | inr k ↦ inl (edge_right (passing test a (numbers_below b)) es x y k)
    ]

    pub row_skips : test a b ≡ false → Marks before t → Marks after t
    row_skips e m = marks_same before after t later back m where
      back : (x y : ℕ) → HasEdge after x y → HasEdge before x y
      back x y h = elim (earlier x y h) [
        | inl k ↦ k
        | inr k ↦ absurd (let is : test a b ≡ true = k.2 in let no : true ≡ false = sym is ∙ e in cc)
      ]

    pub row_gains : test a b ≡ true → Marks (record { from = a; to = b } ∷ before) t → Marks after t
    row_gains e m = marks_same (record { from = a; to = b } ∷ before) after t there back m where
      there : (x y : ℕ) → HasEdge (record { from = a; to = b } ∷ before) x y → HasEdge after x y
      there x y (inl h) = edge_left (passing test a (numbers_below (suc b))) es x y
          (has_passing a (numbers_below (suc b)) x y h.0 (in_right (numbers_below b) (b ∷ []) y (inl h.1)) (subst (λ z. IsTrue (test a z)) (sym h.1) e))
      there x y (inr h) = later x y h

      back : (x y : ℕ) → HasEdge after x y → HasEdge (record { from = a; to = b } ∷ before) x y
      back x y h = elim (earlier x y h) [
        | inl k ↦ inr k
        | inr k ↦ inl (k.0, k.1)
      ]

  -- the marks of the rows from one on
  abbrev pub from_row : ℕ → ℕ → ℕ → Bool
  from_row k a b = nat_le k a && test a b

  module _ (n : ℕ) (t : Table) where
    pub no_row : Marks [] t → Marks (edges_where n (from_row n)) t
    no_row m = marks_same [] (edges_where n (from_row n)) t (λ x y h. absurd h) back m where
      back : (x y : ℕ) → HasEdge (edges_where n (from_row n)) x y → HasEdge [] x y
      back x y h =
          let p = where_of (from_row n) n x y h in
          let l : n ≤ x = leb-true n x (and_parts (nat_le n x) (test x y) p.2).0 in
          absurd (omega (arith, p.0, l))

    pub every_row : Marks (edges_where n (from_row 0)) t → Marks (edges_where n test) t
    every_row m = marks_same (edges_where n (from_row 0)) (edges_where n test) t there back m where
      there : (x y : ℕ) → HasEdge (edges_where n (from_row 0)) x y → HasEdge (edges_where n test) x y
      there x y h =
          let p = where_of (from_row 0) n x y h in
          where_has test n x y p.0 p.1 (and_parts (nat_le 0 x) (test x y) p.2).1

      back : (x y : ℕ) → HasEdge (edges_where n test) x y → HasEdge (edges_where n (from_row 0)) x y
      back x y h =
          let p = where_of test n x y h in
          where_has (from_row 0) n x y p.0 p.1 (and_from (nat_le 0 x) (test x y) (le-leb 0 x (omega arith)) p.2)

    pub row_more : (a : ℕ) → a < n → Marks (edges_from test n a ++ edges_where n (from_row (a + 1))) t → Marks (edges_where n (from_row a)) t
    row_more a l m = marks_same (edges_from test n a ++ edges_where n (from_row (a + 1))) (edges_where n (from_row a)) t there back m where
      there : (x y : ℕ) → HasEdge (edges_from test n a ++ edges_where n (from_row (a + 1))) x y → HasEdge (edges_where n (from_row a)) x y
      there x y h = elim (edge_parts (edges_from test n a) (edges_where n (from_row (a + 1))) x y h) [
        | inl k ↦ let p = passing_of test a (numbers_below n) x y k in
            let e : x ≡ a = p.0 in
            where_has (from_row a) n x y (omega arith) (in_below n y p.1) (and_from (nat_le a x) (test x y) (le-leb a x (omega arith)) (subst (λ z. IsTrue (test z y)) (sym e) p.2))
        | inr k ↦ let p = where_of (from_row (a + 1)) n x y k in
            let q = and_parts (nat_le (a + 1) x) (test x y) p.2 in
            let r : a + 1 ≤ x = leb-true (a + 1) x q.0 in
            where_has (from_row a) n x y p.0 p.1 (and_from (nat_le a x) (test x y) (le-leb a x (omega arith)) q.1)
      ]

      back : (x y : ℕ) → HasEdge (edges_where n (from_row a)) x y → HasEdge (edges_from test n a ++ edges_where n (from_row (a + 1))) x y
      back x y h =
          let p = where_of (from_row a) n x y h in
          let q = and_parts (nat_le a x) (test x y) p.2 in
          let r : a ≤ x = leb-true a x q.0 in
          elim (cases_eq x a) [
            | inl e ↦ edge_left (edges_from test n a) (edges_where n (from_row (a + 1))) x y
                (has_passing a (numbers_below n) x y e (below_in n y p.1) (subst (λ z. IsTrue (test z y)) e q.1))
            | inr ne ↦ edge_right (edges_from test n a) (edges_where n (from_row (a + 1))) x y
                (where_has (from_row (a + 1)) n x y p.0 p.1 (and_from (nat_le (a + 1) x) (test x y) (le-leb (a + 1) x (omega arith)) q.1))
          ]
