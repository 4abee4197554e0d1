-- What the graph of some edges is, and that one edge is the first to close a cycle.
use Rattle.std.proofs.Common.{◌≡◌, ℕ, ◌<◌, inl, inr, List, [], ◌∷◌, ◌++◌, append-nil, length, sym, ◌∙◌, ap, arith}
use Rattle.std.proofs.lemmas.Bool.{cases_order}
use Rattle.bsv_graph.specs.declared.edge.Edge.{Edge}
use Rattle.bsv_graph.specs.declared.graph.Graph.{Graph}
use Rattle.bsv_graph.specs.Graphs.{IsGraphOf, ForEdges}
use Rattle.bsv_graph.specs.Walks.{ClosesFirst}

-- the edges that an empty graph gains are its edges
pub graph_first : (g h : Graph) (xs fs : List Edge) → IsGraphOf [] g → xs ≡ fs → ForEdges g (λ es. IsGraphOf (xs ++ es) h) → IsGraphOf fs h
graph_first g h xs fs e p f = rw (append-nil, p) at (f [] e)

-- a list that is split twice
cut : (xs ys us vs : List Edge) (x y : Edge) → xs ++ (x ∷ ys) ≡ us ++ (y ∷ vs) → length xs < length us → (rest : List Edge) × (us ≡ xs ++ (x ∷ rest))
cut [] ys [] vs x y e l = absurd (omega arith)
cut [] ys (u ∷ us) vs x y e l = let h : u ≡ x = cc in (us, ap (λ z. z ∷ us) h)
cut (z ∷ xs) ys [] vs x y e l = absurd (omega arith)
cut (z ∷ xs) ys (u ∷ us) vs x y e l =
    let h : u ≡ z = cc in
    let t : xs ++ (x ∷ ys) ≡ us ++ (y ∷ vs) = cc in
    let k = cut xs ys us vs x y t (omega arith) in
    (k.0, ap (λ w. w ∷ us) h ∙ ap (λ ws. z ∷ ws) k.1)

closes_less : (es ps : List Edge) (k l : ℕ) → k < l → ClosesFirst es ps k → ClosesFirst es ps l → ⊥
closes_less es ps k l less p q =
    let t = cut p.before p.behind q.before q.behind p.edge q.edge (sym p.split ∙ q.split) (omega (arith, p.place, q.place)) in
    q.earlier p.before t.0 p.edge t.1 p.closes

-- one edge is the first to close a cycle
pub closes_one : (es ps : List Edge) (k l : ℕ) → ClosesFirst es ps k → ClosesFirst es ps l → k ≡ l
closes_one es ps k l p q = elim (cases_order k l) [
  | inl e ↦ e
  | inr (inl less) ↦ absurd (closes_less es ps k l less p q)
  | inr (inr less) ↦ absurd (closes_less es ps l k less q p)
]
